-- The bits of a leaf's rights and the bytes of a list, read back: bit a is on exactly where access a is allowed. Assumes nothing.
use Rattle.records.proofs.Cases.{clash, at, each}
use mathlib.Core.Path.{◌≡◌, refl, sym, ap, ◌∙◌}
use mathlib.Core.Bool.{Bool, true, false, ◌&&◌}
use mathlib.Core.List.{List, [], ◌∷◌}
use Prim.Native.Nat.{ℕ, zero, suc, ◌+◌, ◌*◌, ◌/◌, ◌%◌, ◌^◌, ◌≤◌, ◌<◌}
use native.Mathlib.Nat.{add-zero, zero-add, add-suc, suc-add, mul-one, mul-zero, le_of_suc-le-suc, not-suc-le-zero, div-eq_of_lt}
use lib.Dec.{eqb, leb, ltb}
use lib.ListN.{length, get_or}
use borrow.Author.Tests.{ltb-true, leb-true, leb-false, lt-leb}
use native.Mathlib.Omega.{arith}
use lib.Pow.{pow_mono}
use Rattle.records.specs.Bits.{bit}
use Rattle.records.specs.declared.leaf.Leaf.{Leaf}
use Rattle.records.specs.declared.setup.Setup.{Setup}
use Rattle.judge.specs.Demands.{is_judged}
use Rattle.judge.specs.Judge.{judged}
use Rattle.judge.specs.LeafRights.{add, gather, judged_accesses, leaf_rights}
use Rattle.judge.specs.List.{Walk, bytes, refused, step, walk}
use Rattle.records.specs.Access.{digit}
use Rattle.std.specs.Prelude.{Ok, Err}
use Rattle.rights.specs.declared.answers.Stop.TheVariants.{Faulted, Refused}
use Rattle.judge.specs.Answers.{LeafRights}
use Rattle.judge.specs.Answers.{Judgement}

-- an access is allowed
abbrev pub is_allowed : Judgement → Bool
is_allowed (Ok m) = true
is_allowed (Err (Faulted g)) = false
is_allowed (Err (Refused n)) = false

-- the weight of an access in rights
weighed : (j : Judgement) (w b : ℕ) (g : LeafRights) → add j w g ≡ Ok b → (c : ℕ) × (g ≡ Ok c) × (b ≡ w * digit (is_allowed j) + c)
weighed (Ok m) w b (Ok c) e = (c, refl, (let q : w + c ≡ b = cc in rw mul-one (sym q)))
weighed (Ok m) w b (Err n) e = clash (cc)
weighed (Err (Faulted f)) w b g e = (b, e, rw (mul-zero, zero-add))
weighed (Err (Refused n)) w b g e = clash (cc)

abbrev rights : ℕ → LeafRights
rights b = Ok b

none : (b : ℕ) → rights 0 ≡ rights b → b ≡ 0
none b e = cc

-- six bits as a number, and back
abbrev number : List Bool → ℕ
number m =
    1 * digit (get_or m 0 false) + (2 * digit (get_or m 1 false) + (4 * digit (get_or m 2 false)
    + (8 * digit (get_or m 3 false) + (16 * digit (get_or m 4 false) + (32 * digit (get_or m 5 false) + 0)))))

abbrev six : List Bool → List Bool
six m = get_or m 0 false ∷ get_or m 1 false ∷ get_or m 2 false ∷ get_or m 3 false ∷ get_or m 4 false ∷ get_or m 5 false ∷ []

abbrev bits_of : ℕ → List Bool
bits_of x = bit x 0 ∷ bit x 1 ∷ bit x 2 ∷ bit x 3 ∷ bit x 4 ∷ bit x 5 ∷ []

bits_are : (p q r s t u : Bool) → bits_of (number (p ∷ q ∷ r ∷ s ∷ t ∷ u ∷ [])) ≡ p ∷ q ∷ r ∷ s ∷ t ∷ u ∷ []
bits_are p q r s t u = each (p ∷ q ∷ r ∷ s ∷ t ∷ u ∷ []) (λ m. bits_of (number m)) six refl

small : (p q r s t u : Bool) → number (p ∷ q ∷ r ∷ s ∷ t ∷ u ∷ []) < 64
small p q r s t u = ltb-true _ _ (each (p ∷ q ∷ r ∷ s ∷ t ∷ u ∷ []) (λ m. ltb (number m) 64) (λ m. true) refl)

-- a number below 64 has no bit above 5
high : (b a : ℕ) → b < 64 → 5 < a → bit b a ≡ false
high b a h k =
    let e : b / 2 ^ a ≡ 0 = div-eq_of_lt (omega (arith, pow_mono {i = 6} {j = a} k)) in
    ap (λ (x : ℕ). eqb (x % 2) 1) e

-- the bits of a leaf's rights, by how many accesses are judged
leaf-bits-two : (j : ℕ → Judgement) (b : ℕ) → gather j (judged_accesses true) ≡ Ok b
    → (b < 64) × ((a : ℕ) → a < 6 → bit b a ≡ (leb a 5 && is_allowed (j a)))
leaf-bits-two j b e =
    let u = weighed (j 0) 1 b _ e in
    let v = weighed (j 1) 2 u.0 _ u.1 in
    let w = weighed (j 2) 4 v.0 _ v.1 in
    let x = weighed (j 3) 8 w.0 _ w.1 in
    let y = weighed (j 4) 16 x.0 _ x.1 in
    let z = weighed (j 5) 32 y.0 _ y.1 in
    let n = none z.0 z.1 in
    let q : b ≡ number (is_allowed (j 0) ∷ is_allowed (j 1) ∷ is_allowed (j 2) ∷ is_allowed (j 3) ∷ is_allowed (j 4) ∷ is_allowed (j 5) ∷ []) =
    rw (u.2, v.2, w.2, x.2, y.2, z.2, n) in (
      rw q (small (is_allowed (j 0)) (is_allowed (j 1)) (is_allowed (j 2)) (is_allowed (j 3)) (is_allowed (j 4)) (is_allowed (j 5))),
      λ a h. at 6 (λ (k : ℕ). bit b k) (λ (k : ℕ). leb k 5 && is_allowed (j k))
          (ap bits_of q ∙ bits_are (is_allowed (j 0)) (is_allowed (j 1)) (is_allowed (j 2)) (is_allowed (j 3)) (is_allowed (j 4)) (is_allowed (j 5))) a h,
    )

leaf-bits-one : (j : ℕ → Judgement) (b : ℕ) → gather j (judged_accesses false) ≡ Ok b
    → (b < 64) × ((a : ℕ) → a < 6 → bit b a ≡ (leb a 2 && is_allowed (j a)))
leaf-bits-one j b e =
    let u = weighed (j 0) 1 b _ e in
    let v = weighed (j 1) 2 u.0 _ u.1 in
    let w = weighed (j 2) 4 v.0 _ v.1 in
    let n = none w.0 w.1 in
    let q : b ≡ number (is_allowed (j 0) ∷ is_allowed (j 1) ∷ is_allowed (j 2) ∷ false ∷ false ∷ false ∷ []) = rw (u.2, v.2, w.2, n) in (
      rw q (small (is_allowed (j 0)) (is_allowed (j 1)) (is_allowed (j 2)) false false false),
      λ a h. at 6 (λ (k : ℕ). bit b k) (λ (k : ℕ). leb k 2 && is_allowed (j k))
          (ap bits_of q ∙ bits_are (is_allowed (j 0)) (is_allowed (j 1)) (is_allowed (j 2)) false false false) a h,
    )

-- bit a is on exactly where access a is judged and allowed
pub leaf-bits : (s : Setup) (l : Leaf) (b : ℕ) → leaf_rights s l ≡ Ok b → (a : ℕ) → bit b a ≡ (is_judged s.control.two a && is_allowed (judged s l a))
unfolding leaf_rights
leaf-bits s l b e a = go s.control.two e
  where
    above : (m : ℕ) → m ≤ 5 → b < 64 → ((k : ℕ) → k < 6 → bit b k ≡ (leb k m && is_allowed (judged s l k))) → (t : Bool) → leb a 5 ≡ t
        → bit b a ≡ (leb a m && is_allowed (judged s l a))
    above m g h f true q = f a (let k = leb-true a 5 q in omega arith)
    above m g h f false q = let k = leb-false a 5 q in high b a h k ∙ rw (lt-leb a m (omega arith))

    go : (two : Bool) → gather (judged s l) (judged_accesses two) ≡ Ok b → bit b a ≡ (is_judged two a && is_allowed (judged s l a))
    go true q = let x = leaf-bits-two (judged s l) b q in above 5 (omega arith) x.0 x.1 (leb a 5) refl
    go false q = let x = leaf-bits-one (judged s l) b q in above 2 (omega arith) x.0 x.1 (leb a 5) refl

-- a step that goes on
stepped : (x : LeafRights) (k : ℕ) (w : Walk) (bs : List ℕ) → step x k w ≡ bytes bs
    → (b : ℕ) × (more : List ℕ) × (x ≡ Ok b) × (w ≡ bytes more) × (b ∷ more ≡ bs)
stepped (Ok b) k (bytes more) bs e = (b, more, refl, refl, cc)
stepped (Ok b) k (refused n i) bs e = clash (cc)
stepped (Err n) k w bs e = clash (cc)

-- the bytes of a walk are the rights of its leaves
pub walked : (f : ℕ → LeafRights) (m k : ℕ) (bs : List ℕ) → walk f k m ≡ bytes bs
    → (length bs ≡ m) × ((i : ℕ) → i < m → f (k + i) ≡ Ok (get_or bs i 0))
walked f zero k bs e = (let q : [] ≡ bs = cc in ap length (sym q), λ i h. absurd (not-suc-le-zero h))
walked f (suc m) k bs e =
    let x = stepped (f k) k (walk f (suc k) m) bs e in
    let y = walked f m (suc k) x.1 x.3 in
    (ap length (sym x.4) ∙ ap suc y.0, at_leaf x.0 x.1 x.2 x.4 y.1)
  where
    at_leaf : (b : ℕ) (more : List ℕ) → f k ≡ Ok b → b ∷ more ≡ bs → ((i : ℕ) → i < m → f (suc k + i) ≡ Ok (get_or more i 0))
        → (i : ℕ) → i < suc m → f (k + i) ≡ Ok (get_or bs i 0)
    at_leaf b more p q r zero h = rw (add-zero, ← q) p
    at_leaf b more p q r (suc i) h = rw (← q, add-suc, ← suc-add) (r i (le_of_suc-le-suc h))
