-- The list meets its demands, and any two outcomes that meet them are equal: every input is refused before the leaves, at a first leaf, or not at all. Of a
-- done list a right is missing exactly where its cause is not 0. Assumes nothing.
use mathlib.Core.Path.{◌≡◌, refl, sym, ap, ◌∙◌}
use mathlib.Core.Bool.{Bool, true, false, ◌&&◌}
use mathlib.Core.List.{List}
use Prim.Native.Nat.{ℕ, ◌+◌, ◌-◌, ◌*◌, ◌/◌, ◌%◌, ◌≤◌, ◌<◌}
use native.Mathlib.Nat.{zero-add}
use native.Mathlib.Omega.{arith}
use lib.Dec.{eqb, ltb}
use lib.ListN.{length, get_or, drop, length-append, length-drop, get_or-append}
use borrow.Author.Tests.{eq-eqb, ltb-true, ltb-false}
use lib.Seq.{drop_at, ext_get_or, get_or-drop}
use Rattle.records.proofs.Cases.{clash}
use Rattle.records.proofs.CheckLaws.{both-pass, AllPass, FirstAt, same_first, Ways, refused-before, refused-at, none-refused, ways, same-refusal}
use Rattle.records.proofs.SameBits.{same_bits}
use Rattle.records.specs.Bits.{bit}
use Rattle.records.specs.Bytes.{over}
use Rattle.records.specs.Leaf.{leaf_slice, leaf_at, leaf_count}
use Rattle.records.specs.Setup.{setup_of}
use Rattle.rights.specs.Checks.{leaf_check}
use Rattle.judge.specs.Demands.{is_judged, first_refusal, NothingRefused, start_refusal, leaf_refusal, rights_bit, ListDemands}
use Rattle.judge.specs.Answers.{judgement_values}
use Rattle.judge.specs.Judge.{judge_of}
use Rattle.judge.specs.List.{cause_at, causes_of, ListResult, refuse, list_of}
use Rattle.judge.proofs.CauseBytes.{length-causes, at_byte}
use Rattle.judge.proofs.Demands.{missing, judge-met}
use Rattle.judge.proofs.Steps.{judge-read, long, slice-length}
use Rattle.judge.proofs.ListDemands.{judged-passes, list-by, start-passes, stopped, written, start-number, leaf-number-of}
use Rattle.std.specs.Prelude.{Ok, Err}
use Rattle.records.specs.Values.{on_leaf}
use Rattle.judge.specs.Answers.{Listed}
use Rattle.records.specs.Values.{Check}
use Rattle.records.specs.declared.refusal.Refusal.{Refusal}

-- two buffers with the same n bytes and the same later bytes
same-buffer : (n : ℕ) (p q : List ℕ) → length p ≡ length q → ((i : ℕ) → i < n → get_or p i 0 ≡ get_or q i 0) → drop n p ≡ drop n q → p ≡ q
same-buffer n p q x f g = ext_get_or 0 p q x (λ i h. go i (ltb i n) refl)
  where
    go : (i : ℕ) (t : Bool) → ltb i n ≡ t → get_or p i 0 ≡ get_or q i 0
    go i true e = f i (ltb-true _ _ e)
    go i false e =
        let k : n + (i - n) ≡ i = (let h = ltb-false i n e in omega arith) in
        ap (λ (j : ℕ). get_or p j 0) (sym k) ∙ sym (get_or-drop n p (i - n) 0) ∙ ap (λ (l : List ℕ). get_or l (i - n) 0) g ∙ get_or-drop n q (i - n) 0
        ∙ ap (λ (j : ℕ). get_or q j 0) k

-- a buffer with bytes put at its start
over-length : (v o : List ℕ) → length v ≤ length o → length (over v o) ≡ length o
over-length v o h = simp (length-append, length-drop) (omega arith)

over-later : (v o : List ℕ) (n : ℕ) → length v ≡ n → drop n (over v o) ≡ drop n o
over-later v o n e = rw (← e) (drop_at v (drop (length v) o) (length v) refl)

by_place : (k : ℕ) (P : ℕ → Type 0) → P (6 * (k / 6) + k % 6) → P k
by_place k P h = let e : 6 * (k / 6) + k % 6 ≡ k = omega arith in rw (← e) h

place : (i a : ℕ) → a < 6 → ((6 * i + a) / 6 ≡ i) × ((6 * i + a) % 6 ≡ a)
place i a h = (omega arith, omega arith)

module _ (b ls o c : List ℕ) where
  -- the refusal of leaf i
  abbrev R : ℕ → Check
  R i = leaf_refusal (setup_of b) (leaf_at ls i)

  -- where the list is refused: before its leaves or at its first refused leaf; or it is done
  data Case : ListResult → Type 0 where
    before : (k : Refusal) → start_refusal b ls o c ≡ Err k → Case (refuse k 0 o c)
    at_leaf : (k : Refusal) (i : ℕ) → start_refusal b ls o c ≡ (Ok tt) → FirstAt R (leaf_count ls) k i → Case (refuse k i o c)
    done : (v : List ℕ) → start_refusal b ls o c ≡ (Ok tt) → AllPass R (leaf_count ls) → length v ≡ leaf_count ls
        → ((i a : ℕ) → i < leaf_count ls → bit (get_or v i 0) a ≡ rights_bit (setup_of b) (leaf_at ls i) a)
        → Case (record { answer = Ok (leaf_count ls); out = over v o; causes = over (causes_of (setup_of b) ls) c })

  case : Case (list_of b ls o c)
  case = go (ways (start_refusal b ls o c) R (leaf_count ls))
    where
      go : Ways (start_refusal b ls o c) R (leaf_count ls) → Case (list_of b ls o c)
      go (refused-before k e) = rw (list-by b ls o c, e) (before k e)
      go (refused-at k i e h) = rw (stopped b ls o c e k i h) (at_leaf k i e h)
      go (none-refused e h) = let w = written b ls o c e h in rw w.1 (done w.0 e h w.2 w.3)

  -- the cause of access a of leaf i is that of the judge's own answer
  own-cause : start_refusal b ls o c ≡ (Ok tt) → (i a : ℕ) → i < leaf_count ls → a < 6
      → get_or (over (causes_of (setup_of b) ls) c) (6 * i + a) 0 ≡ (judgement_values (judge_of b (leaf_slice ls i) a)).cause
  unfolding cause_at
  own-cause e i a h k =
      let n = length-causes (setup_of b) ls (6 * leaf_count ls) 0 in
      let p = place i a k in
      get_or-append (causes_of (setup_of b) ls) (drop (length (causes_of (setup_of b) ls)) c) 0 (6 * i + a) (omega arith)
      ∙ at_byte (setup_of b) ls (6 * leaf_count ls) 0 (6 * i + a) (omega arith)
      ∙ rw (zero-add, p.0, p.1, judge-read b (leaf_slice ls i) a (long b _ e) (slice-length ls i (omega arith)))

  met_by : (x : ListResult) → Case x → ListDemands b ls o c x.answer x.out x.causes
  met_by _ (before k e) = record {
    numbers = λ m i h. let g : k ≡ m = (same-refusal h).0 in rw (← g) (start-number b ls o c k e);
    kept = λ m i h. (refl, refl);
    size = (refl, refl);
    before = λ m h. let g : k ≡ m = cc in rw g;
    at_leaf = λ h m i l p q. clash (cc);
    done = λ h p. clash (cc);
  }
  met_by _ (at_leaf k i e h) = record {
    numbers = λ m j q. let g : k ≡ m = (same-refusal q).0 in rw (← g) (leaf-number-of b ls o c k i h.refuses);
    kept = λ m j q. (refl, refl);
    size = (refl, refl);
    before = λ m q. clash (cc);
    at_leaf = λ q m j l p r. let x = same_first R k i m j h.before h.refuses p r in rw (x.0, x.1);
    done = λ q p. let z = p i h.within in let y = h.refuses in clash (cc);
  }
  met_by _ (done v e h l g) =
      let f = start-passes b ls o c e in
      let n = length-causes (setup_of b) ls (6 * leaf_count ls) 0 in record {
        numbers = λ m i q. clash (cc);
        kept = λ m i q. clash (cc);
        size = (over-length v o (let r = f.roomy in omega arith), over-length (causes_of (setup_of b) ls) c (let r = f.caused in omega arith));
        before = λ m q. clash (cc);
        at_leaf = λ q m j n p r. let z = h j n in clash (cc);
        done = λ q p. (
          refl,
          λ i a n. rw (get_or-append v (drop (length v) o) 0 i (omega arith)) (g i a n),
          over-later v o (leaf_count ls) l,
          own-cause e,
          over-later (causes_of (setup_of b) ls) c (6 * leaf_count ls) n,
        );
      }

  -- an answer and buffers that are the list's meet the demands
  pub list-met : (r : Listed) (p q : List ℕ) → (r ≡ (list_of b ls o c).answer) × (p ≡ (list_of b ls o c).out) × (q ≡ (list_of b ls o c).causes)
      → ListDemands b ls o c r p q
  list-met r p q e = rw (e.0, e.1, e.2) (met_by (list_of b ls o c) case)

  -- the demands leave one outcome
  pub list-unique : (r t : Listed) (p q u v : List ℕ) → ListDemands b ls o c r p u → ListDemands b ls o c t q v → (r ≡ t) × (p ≡ q) × (u ≡ v)
  list-unique r t p q u v d e = go (ways (start_refusal b ls o c) R (leaf_count ls))
    where
      refused : (k : Refusal) (i : ℕ) → r ≡ (Err (on_leaf k i)) → t ≡ (Err (on_leaf k i)) → (r ≡ t) × (p ≡ q) × (u ≡ v)
      refused k i x y =
          let g = d.kept k i x in
          let h = e.kept k i y in
          (x ∙ sym y, g.0 ∙ sym h.0, g.1 ∙ sym h.1)

      go : Ways (start_refusal b ls o c) R (leaf_count ls) → (r ≡ t) × (p ≡ q) × (u ≡ v)
      go (refused-before k h) = refused k 0 (d.before k h) (e.before k h)
      go (refused-at k i h a) =
          refused k i (d.at_leaf h k i a.within a.before a.refuses) (e.at_leaf h k i a.within a.before a.refuses)
      go (none-refused h a) =
          let x = d.done h a in
          let y = e.done h a in (
            x.0 ∙ sym y.0,
            same-buffer (leaf_count ls) p q (d.size.0 ∙ sym e.size.0)
                (λ i l. same_bits (get_or p i 0) (get_or q i 0) (λ a. x.1 i a l ∙ sym (y.1 i a l))) (x.2 ∙ sym y.2),
            same-buffer (6 * leaf_count ls) u v (d.size.1 ∙ sym e.size.1)
                (λ k l. by_place k (λ j. get_or u j 0 ≡ get_or v j 0) (x.3 (k / 6) (k % 6) (omega arith) (omega arith) ∙ sym (y.3 (k / 6) (k % 6) (omega arith) (omega arith))))
                (x.4 ∙ sym y.4),
          )

  -- a judged access of a leaf that is not refused
  nothing-refused : start_refusal b ls o c ≡ (Ok tt) → (i a : ℕ) → i < leaf_count ls → R i ≡ (Ok tt)
      → is_judged (setup_of b).control.two a ≡ true → NothingRefused b (leaf_slice ls i) a
  unfolding first_refusal leaf_refusal
  nothing-refused e i a l h z =
      let p = both-pass (leaf_check (leaf_at ls i)) _ h in
      rw (
        eq-eqb _ _ (long b _ e),
        eq-eqb _ _ (slice-length ls i (omega arith)),
        (start-passes b ls o c e).accepted,
        z,
        p.0,
        judged-passes (setup_of b) (leaf_at ls i) p.1 a z,
      )

  -- of a done list: bit a of byte i of the rights is on exactly where access a of leaf i is judged and byte 6·i + a of the causes is 0
  pub right-or-cause : (r : Listed) (p q : List ℕ) → ListDemands b ls o c r p q → start_refusal b ls o c ≡ (Ok tt) → AllPass R (leaf_count ls)
      → (i a : ℕ) → i < leaf_count ls → a < 6 → bit (get_or p i 0) a ≡ (is_judged (setup_of b).control.two a && eqb (get_or q (6 * i + a) 0) 0)
  right-or-cause r p q d e h i a l k = (d.done e h).1 i a l ∙ go (is_judged (setup_of b).control.two a) refl
    where
      go : (t : Bool) → is_judged (setup_of b).control.two a ≡ t
          → rights_bit (setup_of b) (leaf_at ls i) a ≡ (is_judged (setup_of b).control.two a && eqb (get_or q (6 * i + a) 0) 0)
      go false z = rw z
      go true z =
          rw (z, (d.done e h).3 i a l k)
          (sym (missing b (leaf_slice ls i) a (nothing-refused e i a l (h i l) z) _ (judge-met b (leaf_slice ls i) a (judge_of b (leaf_slice ls i) a) refl).1))
