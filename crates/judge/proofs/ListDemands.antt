-- Demands 1 and 2 hold of the list: a leaf's rights are refused by the first refusal of its accesses, or their bits are those of the accesses; the walk stops
-- at the first leaf that is refused; and every input is one of these cases. Any two outcomes that meet them are equal. Assumes nothing.
use mathlib.Core.Path.{◌≡◌, refl, sym, ap, ◌∙◌}
use mathlib.Core.Bool.{Bool, true, false, cond, not, ◌&&◌}
use mathlib.Core.List.{List, [], ◌∷◌}
use mathlib.Core.Logic.{◌⊎◌, inl, inr}
use Prim.Native.Nat.{ℕ, zero, suc, ◌+◌, ◌^◌, ◌<◌}
use native.Mathlib.Nat.{zero-add, add-zero, add-suc, suc-add, le_of_suc-le-suc, not-suc-le-zero}
use native.Mathlib.Omega.{arith}
use lib.Dec.{eqb}
use lib.ListN.{length, get_or}
use borrow.Author.Tests.{leb-true}
use Rattle.records.proofs.Cases.{clash, at}
use Rattle.records.proofs.CheckLaws.{both-pass, refused-by, each-passes, checked, AllPass, FirstAt}
use Rattle.records.specs.Bits.{bit}
use Rattle.records.specs.Bytes.{over}
use Rattle.records.specs.Leaf.{leaf_at, leaf_count}
use Rattle.records.specs.Setup.{setup_of, read_setup}
use Rattle.records.specs.Values.{check_if, length_check, check_then, first_of, if_passes}
use Rattle.records.specs.declared.leaf.Leaf.{Leaf}
use Rattle.records.specs.declared.setup.Setup.{Setup}
use Rattle.rights.proofs.Named.{setup-number, leaf-number}
use Rattle.rights.specs.Answers.{permitted}
use Rattle.rights.specs.Checks.{setup_check, leaf_check}
use Rattle.attributes.specs.declared.Memory.{Memory}
use Rattle.judge.specs.Demands.{stage1, stage2, access_refusal, is_judged, start_refusal, leaf_refusal, rights_bit, ListNumber}
use Rattle.judge.specs.Judge.{judged}
use Rattle.judge.specs.LeafRights.{add, gather, judged_accesses, leaf_rights}
use Rattle.judge.specs.List.{bytes, refused, walk, causes_of, refuse, fits, list_check, leaves_of, list_read, list_of}
use Rattle.judge.proofs.Bits.{is_allowed, leaf-bits, walked}
use Rattle.judge.proofs.Fitting.{Fits, fitting}
use Rattle.judge.proofs.Outcome.{outcome, outcome_of, memory, judged-by, no-refusal, access-number}
use Rattle.std.specs.Prelude.{Ok, Err}
use Rattle.records.specs.declared.refusal.Refusal.TheVariants.{IllFormed, ListLength}
use Rattle.rights.specs.declared.answers.Stop.TheVariants.{Faulted, Refused}
use Rattle.rights.specs.Answers.{Answer}
use Rattle.judge.specs.Answers.{LeafRights}
use Rattle.judge.specs.Answers.{Judgement}
use Rattle.records.specs.Values.{Check}
use Rattle.records.specs.declared.refusal.Refusal.{Refusal}
use Rattle.judge.specs.Answers.{refusing}
use Rattle.records.specs.Values.{refusal_number}

-- each access of a list is judged
abbrev Judged : Bool → List ℕ → Type 0
Judged two [] = Unit {0}
Judged two (a ∷ more) = (is_judged two a ≡ true) × Judged two more

all-judged : (two : Bool) → Judged two (judged_accesses two)
all-judged true = (refl, (refl, (refl, (refl, (refl, (refl, tt))))))
all-judged false = (refl, (refl, (refl, tt)))

-- a judged access is the one of its number
numbers : (two : Bool) (a : ℕ) → is_judged two a ≡ true → (a < length (judged_accesses two)) × (get_or (judged_accesses two) a 0 ≡ a)
numbers true a e =
    let h : a < 6 = (let g = leb-true a 5 e in omega arith) in (h, at 6 (λ (k : ℕ). get_or (judged_accesses true) k 0) (λ (k : ℕ). k) refl a h)
numbers false a e =
    let h : a < 3 = (let g = leb-true a 2 e in omega arith) in (h, at 3 (λ (k : ℕ). get_or (judged_accesses false) k 0) (λ (k : ℕ). k) refl a h)

-- where no judged access is refused, each of them is not
pub judged-passes : (s : Setup) (f : Leaf) → first_of (access_refusal s f) (judged_accesses s.control.two) ≡ Ok tt
    → (a : ℕ) → is_judged s.control.two a ≡ true → access_refusal s f a ≡ Ok tt
judged-passes s f e a = go s.control.two e
  where
    go : (two : Bool) → first_of (access_refusal s f) (judged_accesses two) ≡ (Ok tt) → is_judged two a ≡ true → access_refusal s f a ≡ (Ok tt)
    go two p q = ap (access_refusal s f) (sym (numbers two a q).1) ∙ each-passes (access_refusal s f) (judged_accesses two) p a (numbers two a q).0

module _ (s : Setup) (f : Leaf) (ok : setup_check s.control ≡ (Ok tt)) where
  -- a judged access, by 5 and its own refusals
  judged-as : (a : ℕ) → is_judged s.control.two a ≡ true
      → judged s f a ≡ if_passes (check_then (leaf_check f) (access_refusal s f a)) refusing (outcome_of s f a)
  judged-as a h = judged-by s f a ∙ rw (ok, h)

  -- 5 refuses every access, and there is one
  by-five : (k : Refusal) → leaf_check f ≡ Err k → leaf_rights s f ≡ Err k
  unfolding leaf_rights
  by-five k e = go s.control.two refl
    where
      go : (two : Bool) → s.control.two ≡ two → gather (judged s f) (judged_accesses two) ≡ Err k
      go true q = rw (judged-as 0 (rw q), e)
      go false q = rw (judged-as 0 (rw q), e)

  module _ (fine : leaf_check f ≡ (Ok tt)) where
    access-as : (a : ℕ) → is_judged s.control.two a ≡ true → judged s f a ≡ if_passes (access_refusal s f a) refusing (outcome_of s f a)
    access-as a h = judged-as a h ∙ rw fine

    -- one access before the later ones: refused, or it adds its bit
    one-refused : (a : ℕ) (x : Check) (j : Judgement) (r : LeafRights) (k : Refusal) → j ≡ if_passes x refusing (outcome_of s f a) → access_refusal s f a ≡ x
        → (x ≡ (Ok tt) → r ≡ Err k) → (x ≡ (Ok tt)) ⊎ (x ≡ Err k) → add j (2 ^ a) r ≡ Err k
    one-refused a (Ok u) (Ok m) r k e q g h = rw (g refl)
    one-refused a (Ok u) (Err (Faulted n)) r k e q g h = g refl
    one-refused a (Ok u) (Err (Refused n)) r k e q g h = absurd (no-refusal s f a q n (sym e))
    one-refused a (Err m) j r k e q g (inl h) = clash (cc)
    one-refused a (Err m) j r k e q g (inr h) = let n : m ≡ k = cc in rw (e, n)

    gather-refused : (xs : List ℕ) → Judged s.control.two xs → (k : Refusal) → first_of (access_refusal s f) xs ≡ Err k → gather (judged s f) xs ≡ Err k
    gather-refused [] u k e = clash (cc)
    gather-refused (a ∷ more) u k e =
        one-refused a (access_refusal s f a) (judged s f a) (gather (judged s f) more) k (access-as a u.0) refl
        (λ p. gather-refused more u.1 k (rw p at e)) (pick (access_refusal s f a) e)
      where
        pick : (x : Check) → check_then x (first_of (access_refusal s f) more) ≡ Err k → (x ≡ (Ok tt)) ⊎ (x ≡ Err k)
        pick (Ok u) h = inl refl
        pick (Err m) h = inr h

    one_passes : (a : ℕ) (j : Judgement) (r : LeafRights) → j ≡ outcome_of s f a → access_refusal s f a ≡ (Ok tt) → (c : ℕ) × (r ≡ Ok c)
        → (b : ℕ) × (add j (2 ^ a) r ≡ Ok b)
    one_passes a (Ok m) r e q (c, h) = (2 ^ a + c, rw h)
    one_passes a (Err (Faulted n)) r e q (c, h) = (c, h)
    one_passes a (Err (Refused n)) r e q (c, h) = absurd (no-refusal s f a q n (sym e))

    gather-passes : (xs : List ℕ) → Judged s.control.two xs → first_of (access_refusal s f) xs ≡ (Ok tt) → (b : ℕ) × (gather (judged s f) xs ≡ Ok b)
    gather-passes [] u e = (0, refl)
    gather-passes (a ∷ more) u e =
        let p = both-pass (access_refusal s f a) _ e in
        one_passes a (judged s f a) (gather (judged s f) more) (access-as a u.0 ∙ rw p.0) p.0 (gather-passes more u.1 p.1)

  -- a leaf that is refused, and one that is not
  leaf-refused : (k : Refusal) → leaf_refusal s f ≡ Err k → leaf_rights s f ≡ Err k
  unfolding leaf_refusal leaf_rights
  leaf-refused k e = go (leaf_check f) refl e
    where
      go : (x : Check) → leaf_check f ≡ x → check_then x (first_of (access_refusal s f) (judged_accesses s.control.two)) ≡ Err k
          → gather (judged s f) (judged_accesses s.control.two) ≡ Err k
      go (Ok u) h q = gather-refused h (judged_accesses s.control.two) (all-judged s.control.two) k q
      go (Err m) h q = by-five k (h ∙ q)

  leaf-passes : leaf_refusal s f ≡ (Ok tt) → (b : ℕ) × (leaf_rights s f ≡ Ok b)
  unfolding leaf_refusal leaf_rights
  leaf-passes e = let p = both-pass (leaf_check f) _ e in gather-passes p.0 (judged_accesses s.control.two) (all-judged s.control.two) p.1

  -- the bits of a leaf that is not refused
  allows : (a : ℕ) (x y : Answer) (m : Memory) → is_allowed (outcome x y m) ≡ (permitted x && permitted y)
  allows a (Ok u) (Ok v) m = refl
  allows a (Ok u) (Err (Faulted g)) m = refl
  allows a (Ok u) (Err (Refused n)) m = refl
  allows a (Err (Faulted g)) y m = refl
  allows a (Err (Refused n)) y m = refl

  leaf-bit : leaf_refusal s f ≡ (Ok tt) → (b : ℕ) → leaf_rights s f ≡ Ok b → (a : ℕ) → bit b a ≡ rights_bit s f a
  unfolding leaf_refusal
  leaf-bit e b h a = leaf-bits s f b h a ∙ go (is_judged s.control.two a) refl
    where
      go : (t : Bool) → is_judged s.control.two a ≡ t
          → (is_judged s.control.two a && is_allowed (judged s f a)) ≡ rights_bit s f a
      go false q = rw q
      go true q =
          let p = both-pass (leaf_check f) _ e in
          let z : judged s f a ≡ outcome_of s f a = access-as p.0 a q ∙ rw (judged-passes s f p.1 a q) in
          rw (q, z) (allows a (stage1 s f a) (stage2 s f a) (memory s f a))

-- a walk whose leaf d is the first that is refused, and one of which none is
walk_refused : (g : ℕ → LeafRights) (m i d : ℕ) (k : Refusal) → d < m → ((j : ℕ) → j < d → (b : ℕ) × (g (i + j) ≡ Ok b)) → g (i + d) ≡ Err k
    → walk g i m ≡ refused k (i + d)
walk_refused g zero i d k h p q = absurd (not-suc-le-zero h)
walk_refused g (suc m) i zero k h p q = rw (rw add-zero at q) (ap (refused k) (sym (add-zero i)))
walk_refused g (suc m) i (suc d) k h p q =
    let b = p 0 (omega arith) in
    let w = walk_refused g m (suc i) d k (le_of_suc-le-suc h)
    (λ j l. let x = p (suc j) (omega arith) in (x.0, ap g (suc-add i j ∙ sym (add-suc i j)) ∙ x.1))
    (ap g (suc-add i d ∙ sym (add-suc i d)) ∙ q) in
    rw (rw add-zero at b.1, w) (ap (refused k) (suc-add i d ∙ sym (add-suc i d)))

walk-passes : (g : ℕ → LeafRights) (m i : ℕ) → ((j : ℕ) → j < m → (b : ℕ) × (g (i + j) ≡ Ok b)) → (v : List ℕ) × (walk g i m ≡ bytes v)
walk-passes g zero i p = ([], refl)
walk-passes g (suc m) i p =
    let b = p 0 (omega arith) in
    let w = walk-passes g m (suc i) (λ j l. let x = p (suc j) (omega arith) in (x.0, ap g (suc-add i j ∙ sym (add-suc i j)) ∙ x.1)) in
    (b.0 ∷ w.0, rw (rw add-zero at b.1, w.1))

module _ (b ls o c : List ℕ) where
  abbrev s : Setup
  s = setup_of b

  -- the refusal of leaf i
  abbrev R : ℕ → Check
  R i = leaf_refusal s (leaf_at ls i)

  -- the list by its refusals before the leaves
  pub list-by : list_of b ls o c ≡ if_passes (start_refusal b ls o c) (λ (n : Refusal). refuse n 0 o c) (leaves_of s ls o c)
  unfolding list_of read_setup
  list-by = go (eqb (length b) 52)
    where
      go : (t : Bool) → list_read (cond t (Ok (setup_of b)) (Err IllFormed)) ls o c
          ≡ if_passes (check_then (check_if (not t) IllFormed) (list_check s.control (length ls) (length o) (length c))) (λ (n : Refusal). refuse n 0 o c) (leaves_of s ls o c)
      go true = refl
      go false = refl

  -- what the checks before the leaves tell, where they pass
  pub start-passes : start_refusal b ls o c ≡ (Ok tt) → Fits s.control (length ls) (length o) (length c)
  start-passes e = fitting s.control (length ls) (length o) (length c) (both-pass (length_check b 52) _ e).1

  started : start_refusal b ls o c ≡ (Ok tt) → list_of b ls o c ≡ leaves_of s ls o c
  started e = list-by ∙ rw e

  module _ (e : start_refusal b ls o c ≡ (Ok tt)) where
    ok : setup_check s.control ≡ Ok tt
    ok = (start-passes e).accepted

    pub stopped : (k : Refusal) (i : ℕ) → FirstAt R (leaf_count ls) k i → list_of b ls o c ≡ refuse k i o c
    unfolding leaves_of
    stopped k i h =
        let w = walk_refused (λ (j : ℕ). leaf_rights s (leaf_at ls j)) (leaf_count ls) 0 i k h.within
        (λ j l. rw zero-add (leaf-passes s (leaf_at ls j) ok (h.before j l))) (rw zero-add (leaf-refused s (leaf_at ls i) ok k h.refuses)) in
        started e ∙ rw (w, zero-add)

    pub written : AllPass R (leaf_count ls)
        → (v : List ℕ) × (list_of b ls o c ≡ record { answer = Ok (leaf_count ls); out = over v o; causes = over (causes_of s ls) c }) × (length v ≡ leaf_count ls)
        × ((i a : ℕ) → i < leaf_count ls → bit (get_or v i 0) a ≡ rights_bit s (leaf_at ls i) a)
    unfolding leaves_of
    written h =
        let w = walk-passes (λ (j : ℕ). leaf_rights s (leaf_at ls j)) (leaf_count ls) 0 (λ j l. rw zero-add (leaf-passes s (leaf_at ls j) ok (h j l))) in
        let x = walked (λ (j : ℕ). leaf_rights s (leaf_at ls j)) (leaf_count ls) 0 w.0 w.1 in
        (w.0, started e ∙ rw w.1, x.0, λ i a l. leaf-bit s (leaf_at ls i) ok (h i l) (get_or w.0 i 0) (rw zero-add at (x.1 i l)) a)

  -- the numbers of a refusal
  pub start-number : (k : Refusal) → start_refusal b ls o c ≡ Err k → ListNumber (refusal_number k)
  unfolding list_check
  start-number k =
      refused-by _ _ k (λ h. inr (inr (inr (ap refusal_number (checked (not (eqb (length b) 52)) IllFormed k h)))))
      (refused-by _ _ k (λ h. inl (setup-number s.control k h)) (λ h. inr (inr (inl (ap refusal_number (checked (not (fits (length ls) (length o) (length c))) ListLength k h))))))

  pub leaf-number-of : (k : Refusal) (i : ℕ) → R i ≡ Err k → ListNumber (refusal_number k)
  unfolding leaf_refusal
  leaf-number-of k i =
      refused-by _ _ k (λ h. rw (leaf-number (leaf_at ls i) k h) (inr (inl (omega arith)))) (among (judged_accesses s.control.two))
    where
      among : (xs : List ℕ) → first_of (access_refusal s (leaf_at ls i)) xs ≡ Err k → ListNumber (refusal_number k)
      among [] h = clash (cc)
      among (a ∷ more) h = refused-by (access_refusal s (leaf_at ls i) a) _ k (λ g. inr (inl (let n = access-number s (leaf_at ls i) a k g in omega arith))) (among more) h
