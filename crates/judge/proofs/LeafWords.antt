-- The word of a leaf gives its rights and causes, or marks that one of its accesses is refused. Assumes nothing.
use mathlib.Core.Path.{◌≡◌, refl, sym, ap, ap₂, ◌∙◌}
use mathlib.Core.Bool.{Bool, true, false, cond, not, ◌&&◌, ◌||◌, and-true}
use mathlib.Core.List.{List, [], ◌∷◌}
use Prim.Native.Nat.{ℕ, ◌+◌, ◌/◌, ◌%◌, ◌^◌, ◌≤◌, ◌<◌}
use native.Mathlib.Omega.{arith}
use lib.Bits.{bit_or, bit_xor}
use lib.Dec.{eqb, leb, ltb}
use lib.ListN.{get_or}
use borrow.Author.Tests.{eqb-true, eq-eqb, ne_eqb, ltb-true, ltb-false, le-leb, leb-true}
use Rattle.records.proofs.BitLaws.{some, or-none}
use Rattle.records.proofs.Cases.{clash, at, each}
use Rattle.records.specs.Access.{access_at}
use Rattle.records.specs.Descriptor.{stage1_of, stage2_of, limits_of}
use Rattle.records.specs.Mirror.BitLists.{bits}
use Rattle.records.specs.Values.{check_if}
use Rattle.records.specs.declared.leaf.Leaf.{Leaf}
use Rattle.records.specs.declared.setup.Setup.{Setup}
use Rattle.rights.proofs.Named.{Named, permits, faults, refuses, stage1-named, stage2-named, cause-fixes, Fixed}
use Rattle.rights.proofs.OrderLaws.{stages-as}
use Rattle.rights.proofs.WordLaws.{word-law, stages-known}
use Rattle.rights.proofs.WordReading.{refusals, cause-in, rights-in, refused-in}
use Rattle.rights.specs.Answers.{follow, answer_of}
use Rattle.rights.specs.Checks.{setup_check, access_check, leaf_check}
use Rattle.rights.specs.Mirror.Agreement.{Agrees, refused_codes, refuses_in}
use Rattle.rights.specs.Mirror.Parts.{one_part, known_part, stages_word, leaf_word}
use Rattle.rights.specs.Mirror.Words.{Word, joined, six_bits, number_of}
use Rattle.rights.specs.Order.{leaf_answer, rights_answer}
use Rattle.attributes.specs.Mirror.Known.{passes}
use Rattle.attributes.specs.Order.{check_of, memory_of, combined_if, attributes_of}
use Rattle.attributes.specs.declared.Memory.{Memory}
use Rattle.judge.specs.Answers.{judgement_values}
use Rattle.judge.specs.Demands.{is_judged}
use Rattle.judge.specs.Judge.{fetches, combined, after_rights, judged}
use Rattle.judge.specs.LeafRights.{add, gather, judged_accesses, leaf_rights}
use Rattle.judge.specs.List.{cause_at}
use Rattle.judge.specs.Mirror.Words.{marks_in, mark_of, known_of, word_of, rights_in, cause_in}
use Rattle.std.specs.Prelude.{Ok, Err}
use Rattle.records.specs.declared.refusal.Refusal.TheVariants.{LeafBits}
use Rattle.rights.specs.declared.answers.Stop.TheVariants.{Faulted, Refused}
use Rattle.rights.specs.Answers.{Answer}
use Rattle.judge.specs.Answers.{LeafRights}
use Rattle.judge.specs.Answers.{Judgement}
use Rattle.records.specs.Values.{Check}
use Rattle.records.specs.declared.refusal.Refusal.{Refusal}
use Rattle.rights.specs.declared.answers.Stage.TheVariants.{One, Two}

-- whether a judgement refuses; and if it does not, whether it allows, and its cause
abbrev Judged : Judgement → Bool → Bool → ℕ → Type 0
Judged (Ok m) r p c = (r ≡ false) × (p ≡ true) × (c ≡ 0)
Judged (Err (Faulted g)) r p c = (r ≡ false) × (p ≡ false) × (c ≡ g.cause)
Judged (Err (Refused n)) r p c = r ≡ true

-- the attribute steps after both stages
after-stages : (x : Answer) (z : Check) (m : Memory) (r p : Bool) (c : ℕ) → Agrees x r p c
    → Judged (after_rights x (combined (combined_if z m))) (r || (p && not (passes z))) p c
after-stages (Ok u) (Ok v) m r p c h = (rw (h.0, h.1), h.1, h.2)
after-stages (Ok u) (Err n) m r p c h = rw (h.0, h.1)
after-stages (Err (Faulted g)) z m r p c h = (rw (h.0, h.1), h.1, h.2)
after-stages (Err (Refused n)) z m r p c h = rw h

-- the accesses of a leaf, gathered
abbrev Each : (ℕ → Type 0) → List ℕ → Type 0
Each P [] = Unit {0}
Each P (a ∷ more) = P a × Each P more

abbrev some_of : (ℕ → Bool) → List ℕ → Bool
some_of r [] = false
some_of r (a ∷ more) = r a || some_of r more

abbrev sum_of : (ℕ → Bool) → List ℕ → ℕ
sum_of p [] = 0
sum_of p (a ∷ more) = cond (p a) (2 ^ a + sum_of p more) (sum_of p more)

-- refused, or these rights
abbrev Gathered : Bool → LeafRights → ℕ → Type 0
Gathered true g b = (k : Refusal) × (g ≡ Err k)
Gathered false g b = g ≡ Ok b

one-access : (j : Judgement) (r p : Bool) (c : ℕ) → Judged j r p c → (w s : ℕ) (b : Bool) (g : LeafRights) → Gathered b g s → Gathered (r || b) (add j w g) (cond p (w + s) s)
one-access (Ok m) r p c h w s true g q = rw h.0 (q.0, rw q.1)
one-access (Ok m) r p c h w s false g q = rw (h.0, h.1, q)
one-access (Err (Faulted f)) r p c h w s b g q = rw (h.0, h.1) q
one-access (Err (Refused n)) r p c h w s b g q = rw h (n, refl)

gathered : (j : ℕ → Judgement) (r p : ℕ → Bool) (c : ℕ → ℕ) (l : List ℕ) → Each (λ (n : ℕ). Judged (j n) (r n) (p n) (c n)) l → Gathered (some_of r l) (gather j l) (sum_of p l)
gathered j r p c [] h = refl
gathered j r p c (a ∷ l) h = one-access (j a) (r a) (p a) (c a) h.0 (2 ^ a) (sum_of p l) (some_of r l) (gather j l) (gathered j r p c l h.1)

-- the cause of a judgement that does not refuse
own-cause : (j : Judgement) (r p : Bool) (c : ℕ) → Judged j r p c → r ≡ false → c ≡ (judgement_values j).cause
own-cause (Ok m) r p c h e = h.2
own-cause (Err (Faulted g)) r p c h e = h.2
own-cause (Err (Refused n)) r p c h e = let z : true ≡ false = sym h ∙ e in clash (cc)

-- a cause is one of fifteen
named-stages : (x y : Answer) → Named One x → Named Two y → Fixed (follow x y)
named-stages _ y permits q = cause-fixes q
named-stages _ y (faults g e h) q = cause-fixes {s = One} (faults g e h)
named-stages _ y (refuses n h) q = cause-fixes {s = One} (refuses n h)

small-cause : (x : Answer) (r p : Bool) (c : ℕ) → Agrees x r p c → Fixed x → r ≡ false → c < 16
small-cause (Ok u) r p c h f e = let z = h.2 in omega arith
small-cause (Err (Faulted g)) r p c h f e = let z = h.2 in let y = f.0 in omega arith
small-cause (Err (Refused n)) r p c h f e = let z : true ≡ false = sym h ∙ e in clash (cc)

-- limits and forbidden bits that are too high: n is above m exactly where q is not 0
above-clear : (n m q : ℕ) → (q ≡ 0 → n ≤ m) → (n ≤ m → q ≡ 0) → eqb q 0 ≡ not (ltb m n)
above-clear n m q f g = go (ltb m n) refl
  where
    go : (b : Bool) → ltb m n ≡ b → eqb q 0 ≡ not b
    go true e = let h = ltb-true m n e in ne_eqb q 0 (λ z. let k = f z in omega arith)
    go false e = eq-eqb q 0 (g (ltb-false m n e))

-- the mark of a leaf, by its bits
abbrev over : Leaf → Bool
over f = ltb 15 f.limits || ltb 63 f.forbidden

abbrev seen : Word → Bool
seen w = some (refusals w)

mark-is : (w : Word) (f : Leaf) → eqb (mark_of (number_of w) f) 0 ≡ not (seen w || over f)
unfolding marks_in
mark-is w f =
    let x = bit_xor (number_of w / 2 ^ 48) (number_of w / 2 ^ 56) in
    or-none (bit_or (x % 2 ^ 8) (x / 2 ^ 14)) (bit_or (f.limits / 2 ^ 4) (f.forbidden / 2 ^ 6))
    ∙ ap₂ ◌&&◌ (refused-in w) (or-none (f.limits / 2 ^ 4) (f.forbidden / 2 ^ 6) ∙ ap₂ ◌&&◌ (above-clear f.limits 15 (f.limits / 2 ^ 4) (λ e. omega arith) (λ e. omega arith)) (above-clear f.forbidden 63 (f.forbidden / 2 ^ 6) (λ e. omega arith) (λ e. omega arith)))
    ∙ nots (seen w) (ltb 15 f.limits) (ltb 63 f.forbidden)
  where
    nots : (a b c : Bool) → (not a && (not b && not c)) ≡ not (a || (b || c))
    nots true b c = refl
    nots false true c = refl
    nots false false c = refl

abbrev b : List Bool → ℕ → Bool
b m k = get_or m k false

-- some access is refused, by what refuses all, and what some
spread : (o q u : Bool) (m r : ℕ → Bool) (a : ℕ) (l : List ℕ)
    → some_of (λ (n : ℕ). o || ((q || m n) || (r n && u))) (a ∷ l) ≡ (o || (q || (some_of m (a ∷ l) || (some_of r (a ∷ l) && u))))
spread o q u m r a [] =
    each (o ∷ q ∷ u ∷ m a ∷ r a ∷ []) (λ (v : List Bool). (b v 0 || ((b v 1 || b v 3) || (b v 4 && b v 2))) || false)
    (λ (v : List Bool). b v 0 || (b v 1 || ((b v 3 || false) || ((b v 4 || false) && b v 2)))) refl
spread o q u m r a (c ∷ l) =
    ap (λ (z : Bool). (o || ((q || m a) || (r a && u))) || z) (spread o q u m r c l)
    ∙ each (o ∷ q ∷ u ∷ m a ∷ r a ∷ some_of m (c ∷ l) ∷ some_of r (c ∷ l) ∷ [])
    (λ (v : List Bool). (b v 0 || ((b v 1 || b v 3) || (b v 4 && b v 2))) || (b v 0 || (b v 1 || (b v 5 || (b v 6 && b v 2)))))
    (λ (v : List Bool). b v 0 || (b v 1 || ((b v 3 || b v 5) || ((b v 4 || b v 6) && b v 2)))) refl

-- six bits before others
before : (p q r s t u z : Bool) → (p || (q || (r || (s || (t || (u || z)))))) ≡ ((p || (q || (r || (s || (t || (u || false)))))) || z)
before p q r s t u z =
    each (p ∷ q ∷ r ∷ s ∷ t ∷ u ∷ z ∷ []) (λ (v : List Bool). b v 0 || (b v 1 || (b v 2 || (b v 3 || (b v 4 || (b v 5 || b v 6))))))
    (λ (v : List Bool). (b v 0 || (b v 1 || (b v 2 || (b v 3 || (b v 4 || (b v 5 || false)))))) || b v 6) refl

before-three : (p q r z : Bool) → (p || (q || (r || z))) ≡ ((p || (q || (r || false))) || z)
before-three p q r z =
    each (p ∷ q ∷ r ∷ z ∷ []) (λ (v : List Bool). b v 0 || (b v 1 || (b v 2 || b v 3))) (λ (v : List Bool). (b v 0 || (b v 1 || (b v 2 || false))) || b v 3) refl

-- what a leaf's mark says of its accesses
marks : (o x y z r : Bool) → (o || ((x || (y || z)) || r)) ≡ ((r || (x || (y || (z || false)))) || o)
marks o x y z r =
    each (o ∷ x ∷ y ∷ z ∷ r ∷ []) (λ (v : List Bool). b v 0 || ((b v 1 || (b v 2 || b v 3)) || b v 4)) (λ (v : List Bool). (b v 4 || (b v 1 || (b v 2 || (b v 3 || false)))) || b v 0) refl

-- an access among others
abbrev member : ℕ → List ℕ → Bool
member a [] = false
member a (c ∷ l) = eqb a c || member a l

none-refused : (r : ℕ → Bool) (l : List ℕ) → some_of r l ≡ false → (a : ℕ) → member a l ≡ true → r a ≡ false
none-refused r [] h a e = clash (cc)
none-refused r (c ∷ l) h a e = let v = none_of_two (r c) (some_of r l) h in go (eqb a c) refl e v.0 (λ q. none-refused r l v.1 a q)
  where
    none_of_two : (x y : Bool) → (x || y) ≡ false → (x ≡ false) × (y ≡ false)
    none_of_two false y e = (refl, e)
    none_of_two true y e = clash (cc)

    go : (x : Bool) → eqb a c ≡ x → (x || member a l) ≡ true → r c ≡ false → (member a l ≡ true → r a ≡ false) → r a ≡ false
    go true p q v next = rw (eqb-true a c p) v
    go false p q v next = next q

module _ (s : Setup) (f : Leaf) (ok : setup_check s.control ≡ (Ok tt)) where
  abbrev w : Word
  w = stages_word s (stage1_of f.stage1) (stage2_of f.stage2) (limits_of f.limits)

  abbrev known : Bool
  known = known_of s f

  abbrev refuses_at : ℕ → Bool
  refuses_at n = over f || ((refused_codes w || w.meets (access_at n)) || (w.right (access_at n) && not known))

  agrees : (n : ℕ) → Agrees (leaf_answer s f (access_at n)) (refuses_in w (access_at n)) (w.right (access_at n)) (w.cause (access_at n))
  agrees n = word-law s (stage1_of f.stage1) (stage2_of f.stage2) (limits_of f.limits) (access_at n).level (access_at n).right

  at-access : (n : ℕ) → is_judged s.control.two n ≡ true → Judged (judged s f n) (refuses_at n) (w.right (access_at n)) (w.cause (access_at n))
  unfolding judged rights_answer access_check attributes_of leaf_check
  at-access n h = rw (ok, h) (go (over f))
    where
      go : (o : Bool)
          → Judged (after_rights (follow (answer_of (check_if o LeafBits)) (leaf_answer s f (access_at n)))
          (combined (combined_if (check_of s (stage1_of f.stage1) (stage2_of f.stage2)) (memory_of s (stage1_of f.stage1) (stage2_of f.stage2) (fetches n)))))
          (o || ((refused_codes w || w.meets (access_at n)) || (w.right (access_at n) && not known))) (w.right (access_at n)) (w.cause (access_at n))
      go true = refl
      go false = after-stages (leaf_answer s f (access_at n)) (check_of s (stage1_of f.stage1) (stage2_of f.stage2)) _ (refuses_in w (access_at n)) (w.right (access_at n)) (w.cause (access_at n)) (agrees n)

  abbrev meets_at : ℕ → Bool
  meets_at n = w.meets (access_at n)

  abbrev right_at : ℕ → Bool
  right_at n = w.right (access_at n)

  abbrev refused_here : ℕ → Bool
  refused_here n = meets_at n || (right_at n && not known)

  abbrev codes_tail : Bool
  codes_tail = some (w.codes 0 ∷ w.codes 1 ∷ w.codes 2 ∷ [])

  -- all judged accesses of a leaf, with two levels and with one
  abbrev SeenBy : Word → List ℕ → Type 0
  SeenBy z l = seen z ≡ (some_of refused_here l || codes_tail)

  marked : (l : List ℕ) (z : Word) → SeenBy z (0 ∷ l) → some_of refuses_at (0 ∷ l) ≡ (seen z || over f)
  marked l z e =
      spread (over f) (refused_codes w) (not known) meets_at right_at 0 l
      ∙ ap (λ (x : Bool). over f || (refused_codes w || x)) (sym (spread false false (not known) meets_at right_at 0 l))
      ∙ marks (over f) (w.codes 0) (w.codes 1) (w.codes 2) (some_of refused_here (0 ∷ l)) ∙ ap (λ (x : Bool). x || over f) (sym e)

  abbrev Judgeds : List ℕ → Type 0
  Judgeds l = Each (λ (n : ℕ). Judged (judged s f n) (refuses_at n) (right_at n) (w.cause (access_at n))) l

  abbrev Gives : Word → List ℕ → Type 0
  Gives z l = Gathered (seen z || over f) (gather (judged s f) l) (bits (six_bits z.right []))

  gives : (l : List ℕ) (z : Word) → Judgeds (0 ∷ l) → SeenBy z (0 ∷ l) → sum_of right_at (0 ∷ l) ≡ bits (six_bits z.right []) → Gives z (0 ∷ l)
  gives l z h e g = rw (← marked l z e, ← g) (gathered (judged s f) refuses_at right_at (λ (n : ℕ). w.cause (access_at n)) (0 ∷ l) h)

  -- the word with what is known of the memory, with two levels and with one
  abbrev whole : Bool → Word
  whole two = joined (known_part known) (cond two w (joined one_part w))

  here : (known && w.known) ≡ known
  here = rw (stages-known s (stage1_of f.stage1) (stage2_of f.stage2) (limits_of f.limits)) (and-true known)

  seen-two : SeenBy (whole true) (judged_accesses true)
  seen-two = rw here (before (refused_here 0) (refused_here 1) (refused_here 2) (refused_here 3) (refused_here 4) (refused_here 5) codes_tail)

  seen_one : SeenBy (whole false) (judged_accesses false)
  seen_one = rw here (before-three (refused_here 0) (refused_here 1) (refused_here 2) codes_tail)

  leaf-gathers : (two : Bool) → s.control.two ≡ two → Gives (whole two) (judged_accesses two)
  leaf-gathers true e =
      gives (1 ∷ 2 ∷ 3 ∷ 4 ∷ 5 ∷ []) (whole true) (j 0 refl, (j 1 refl, (j 2 refl, (j 3 refl, (j 4 refl, (j 5 refl, tt {0})))))) seen-two
      (each (right_at 0 ∷ right_at 1 ∷ right_at 2 ∷ right_at 3 ∷ right_at 4 ∷ right_at 5 ∷ []) (λ (v : List Bool). sum_of (b v) (judged_accesses true))
      (λ (v : List Bool). bits (b v 0 ∷ b v 1 ∷ b v 2 ∷ b v 3 ∷ b v 4 ∷ b v 5 ∷ [])) refl)
    where
      j : (n : ℕ) → leb n 5 ≡ true → Judged (judged s f n) (refuses_at n) (w.right (access_at n)) (w.cause (access_at n))
      j n h = at-access n (rw e h)
  leaf-gathers false e =
      gives (1 ∷ 2 ∷ []) (whole false) (j 0 refl, (j 1 refl, (j 2 refl, tt {0}))) seen_one
      (each (right_at 0 ∷ right_at 1 ∷ right_at 2 ∷ []) (λ (v : List Bool). sum_of (b v) (judged_accesses false)) (λ (v : List Bool). bits (b v 0 ∷ b v 1 ∷ b v 2 ∷ false ∷ false ∷ false ∷ [])) refl)
    where
      j : (n : ℕ) → leb n 2 ≡ true → Judged (judged s f n) (refuses_at n) (w.right (access_at n)) (w.cause (access_at n))
      j n h = at-access n (rw e h)

  -- the cause of an access that is judged, where no judged access is refused
  judged-cause : (n : ℕ) → is_judged s.control.two n ≡ true → refuses_at n ≡ false → (w.cause (access_at n) < 16) × (w.cause (access_at n) ≡ (judgement_values (judged s f n)).cause)
  judged-cause n h e = (
    small-cause (leaf_answer s f (access_at n)) (refuses_in w (access_at n)) (w.right (access_at n)) (w.cause (access_at n)) (agrees n) fixed (inner (over f) (refuses_in w (access_at n)) _ e),
    own-cause (judged s f n) (refuses_at n) (w.right (access_at n)) (w.cause (access_at n)) (at-access n h) e,
  )
    where
      inner : (x y z : Bool) → (x || (y || z)) ≡ false → y ≡ false
      inner false false z e = refl
      inner false true z e = e
      inner true y z e = clash (cc)

      fixed : Fixed (leaf_answer s f (access_at n))
      fixed = rw (stages-as s _ _ _ (access_at n) _ refl) (named-stages _ _ (stage1-named s _ _ (access_at n)) (stage2-named s _ (access_at n)))

  -- an access that one level does not judge has no cause
  not-judged : (n : ℕ) → is_judged s.control.two n ≡ false → (judgement_values (judged s f n)).cause ≡ 0
  unfolding judged rights_answer access_check
  not-judged n h = rw (ok, h)

  -- the causes of a leaf of which no access is refused
  causes-two : s.control.two ≡ true → some_of refuses_at (judged_accesses true) ≡ false → (a : ℕ) → a < 6 → cause_in (number_of (whole true)) a ≡ (judgement_values (judged s f a)).cause
  causes-two e h a g =
      let c = judged-cause a (rw e (le-leb a 5 (omega arith)))
      (none-refused refuses_at (judged_accesses true) h a (at 6 (λ (k : ℕ). member k (judged_accesses true)) (λ (k : ℕ). true) refl a g)) in
      cause-in (whole true) a g c.0 ∙ c.1

  causes-one : s.control.two ≡ false → some_of refuses_at (judged_accesses false) ≡ false → (a : ℕ) → a < 6
      → cause_in (number_of (whole false)) a ≡ (judgement_values (judged s f a)).cause
  causes-one e h a g = go (leb a 2) refl
    where
      go : (x : Bool) → leb a 2 ≡ x → cause_in (number_of (whole false)) a ≡ (judgement_values (judged s f a)).cause
      go true q =
          let k = leb-true a 2 q in
          let c = judged-cause a (rw e q) (none-refused refuses_at (judged_accesses false) h a (at 3 (λ (k : ℕ). member k (judged_accesses false)) (λ (k : ℕ). true) refl a (omega arith))) in
          let n = at 3 (λ (k : ℕ). (whole false).cause (access_at k)) (λ (k : ℕ). w.cause (access_at k)) refl a (omega arith) in
          cause-in (whole false) a g (rw n c.0) ∙ n ∙ c.1
      go false q =
          let n : (whole false).cause (access_at a) ≡ 0 =
          rw q at (at 6 (λ (k : ℕ). cond (leb k 2) 0 ((whole false).cause (access_at k))) (λ (k : ℕ). 0) refl a g) in
          cause-in (whole false) a g (rw n (omega arith)) ∙ n ∙ sym (not-judged a (rw e q))

  refused-by : (two : Bool) → some_of refuses_at (judged_accesses two) ≡ (seen (whole two) || over f)
  refused-by true = marked (1 ∷ 2 ∷ 3 ∷ 4 ∷ 5 ∷ []) (whole true) seen-two
  refused-by false = marked (1 ∷ 2 ∷ []) (whole false) seen_one

  -- A LEAF WHOSE MARK IS 0 has the rights and the causes of its word; any other is refused
  abbrev found : ℕ
  found = number_of (word_of s f)

  unmarked : (x : Bool) (n : ℕ) (y : Bool) → eqb n 0 ≡ not x → eqb n 0 ≡ y → x ≡ not y
  unmarked true n true e f = sym f ∙ e
  unmarked true n false e f = refl
  unmarked false n true e f = refl
  unmarked false n false e f = sym f ∙ e

  none_seen : (x y : Bool) → (x || y) ≡ false → x ≡ false
  none_seen true y e = e
  none_seen false y e = refl

  causes-by : (two : Bool) → s.control.two ≡ two → some_of refuses_at (judged_accesses two) ≡ false → (a : ℕ) → a < 6 → cause_in (number_of (whole two)) a ≡ (judgement_values (judged s f a)).cause
  causes-by true = causes-two
  causes-by false = causes-one

  pub word-clear : eqb (mark_of found f) 0 ≡ true → (leaf_rights s f ≡ Ok (rights_in found)) × ((a : ℕ) → a < 6 → cause_in found a ≡ cause_at s f a)
  unfolding leaf_word leaf_rights cause_at
  word-clear = go s.control.two refl
    where
      go : (two : Bool) → s.control.two ≡ two → eqb (mark_of (number_of (whole two)) f) 0 ≡ true
          → (gather (judged s f) (judged_accesses two) ≡ Ok (rights_in (number_of (whole two)))) × ((a : ℕ) → a < 6 → cause_in (number_of (whole two)) a ≡ (judgement_values (judged s f a)).cause)
      go two e h =
          let x = unmarked (seen (whole two) || over f) (mark_of (number_of (whole two)) f) true (mark-is (whole two) f) h in
          (rw (rights-in (whole two) (none_seen (seen (whole two)) (over f) x)) (rw x at (leaf-gathers two e)), causes-by two e (refused-by two ∙ x))

  pub word-refused : eqb (mark_of found f) 0 ≡ false → (k : Refusal) × (leaf_rights s f ≡ Err k)
  unfolding leaf_word leaf_rights
  word-refused = go s.control.two refl
    where
      go : (two : Bool) → s.control.two ≡ two → eqb (mark_of (number_of (whole two)) f) 0 ≡ false → (k : Refusal) × (gather (judged s f) (judged_accesses two) ≡ Err k)
      go two e h = rw (unmarked (seen (whole two) || over f) (mark_of (number_of (whole two)) f) false (mark-is (whole two) f) h) at (leaf-gathers two e)
