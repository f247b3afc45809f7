-- The plan is what demand 3 asks. A slot bit of the register is on exactly if no leaf takes it, and a leaf takes a bit exactly if a
-- register with that bit would allow a forbidden access there. A leaf with a forbidden access that no slot stops is cured by no
-- register, and any other leaf by the register 0. Assumes nothing.
use Rattle.records.proofs.Cases.{clash}
use mathlib.Core.Path.{◌≡◌, refl, sym, ap, ◌∙◌, subst}
use mathlib.Core.List.{List}
use mathlib.Core.Bool.{Bool, true, false, cond, not, ◌&&◌, ◌||◌}
use mathlib.Core.Logic.{inl, inr}
use Prim.Native.Nat.{ℕ, zero, suc, ◌+◌, ◌/◌, ◌%◌, ◌≤◌, ◌<◌}
use native.Mathlib.Omega.{arith}
use lib.Dec.{eqb, ltb}
use lib.ListN.{length, get_or, replicate, get_or-replicate, length-take, length-drop}
use borrow.Author.Tests.{eqb-true, eq-eqb, ltb-true, ltb-false}
use Rattle.records.specs.Access.{has_right, access_number}
use Rattle.records.specs.Bits.{bit, nibble}
use Rattle.records.specs.Leaf.{leaf_slice, leaf_at}
use Rattle.records.specs.Descriptor.{stage1_of, stage2_of, limits_of}
use Rattle.records.specs.declared.access.Level.{Level}
use Rattle.records.specs.declared.access.Right.{Right}
use Rattle.records.specs.declared.access.Right.TheVariants.{Read, Write, Execute}
use Rattle.records.specs.declared.setup.Setup.{Setup}
use Rattle.rights.specs.Promise.{allowed_with}
use Rattle.records.specs.declared.access.LevelRights.{LevelRights}
use Rattle.planner.specs.Register.{slot_bit, pack_from}
use Rattle.planner.specs.Plan.{forbidden_rights, common, any, plans_of, or_refused, uncured, refused_from, first_uncured, cuts, register_for, settled, plan_leaves, plan_of}
use Rattle.planner.specs.Demands.{Usable, Passes, Allowed, Forbids, Cures, Separates, Largest, FirstUncured, Demand3, Accepted, Demanded}
use Rattle.planner.proofs.Bits.{opposed, slot-bit, right-at, right-low, seven-bit, any_none, any-one, upper, nought-slot, nought-bit, fourth, bit-slot}
use Rattle.planner.proofs.CutLaws.{Masks, Low, takes, takes_from, cuts-masks, cuts-bit, taken-by, taker, clear, hit, sevens}
use Rattle.planner.proofs.Leaves.{Ranged, ranged, leaf-low}
use Rattle.planner.proofs.Packing.{pack-slot, pack-lt-32}
use Rattle.planner.proofs.Promise.{allowed-is, bare-within}
use Rattle.planner.proofs.StartLaws.{accepted-starts}
use Rattle.std.specs.Prelude.{Ok, Err}
use Rattle.records.specs.declared.refusal.Refusal.TheVariants.{NotSeparable}
use Rattle.records.proofs.CheckLaws.{same-refusal}
use Rattle.records.specs.Values.{on_leaf}
use Rattle.planner.specs.Plan.{Plan}
use Rattle.planner.specs.Plan.{LeafPlan}

-- truth values
and_l : (a b : Bool) → (a && b) ≡ true → a ≡ true
and_l true b e = refl
and_l false b e = e

and_r : (a b : Bool) → (a && b) ≡ true → b ≡ true
and_r true b e = e
and_r false b e = clash (cc)

or_r : (a b : Bool) → (a || b) ≡ true → a ≡ false → b ≡ true
or_r true b e q = clash (cc)
or_r false b e q = e

-- more of a slot's bit allows no less
more : (f b v w : Bool) → (v ≡ true → w ≡ true) → (f && (b || v)) ≡ true → (f && (b || w)) ≡ true
more true true v w h e = refl
more true false v w h e = h e
more false b v w h e = e

-- an access is allowed by its slot bit, or where no slot takes it away
by-slot : (f b v : Bool) → f ≡ true → v ≡ true → (f && (b || v)) ≡ true
by-slot true true true p q = refl
by-slot true false true p q = refl
by-slot true b false p q = absurd (opposed q refl)
by-slot false b v p q = absurd (opposed p refl)

by_bare : (f b v : Bool) → f ≡ true → b ≡ true → (f && (b || v)) ≡ true
by_bare true true v p q = refl
by_bare true false v p q = absurd (opposed q refl)
by_bare false b v p q = absurd (opposed p refl)

common-right : (a b : LevelRights) (x : Right) → has_right (common a b) x ≡ (has_right a x && has_right b x)
common-right a b Read = refl
common-right a b Write = refl
common-right a b Execute = refl

forbidden-right : (f : ℕ) (l : Level) (x : Right) → has_right (forbidden_rights f l) x ≡ bit f (access_number l x)
forbidden-right f l Read = refl
forbidden-right f l Write = refl
forbidden-right f l Execute = refl

-- where no leaf is refused the planner goes on
goes_on : (P : ℕ → LeafPlan) (p : Plan) (m i : ℕ) → ((j : ℕ) (q : Plan) → i ≤ j → j < i + m → or_refused (P j) j q ≡ q) → refused_from P p m i ≡ p
unfolding refused_from
goes_on P p zero i h = refl
goes_on P p (suc m) i h = h i _ (omega arith) (omega arith) ∙ goes_on P p m (suc i) (λ j q lo hi. h j q (omega arith) (omega arith))

module _ (s : Setup) (l : Level) (ls : List ℕ) where
  abbrev P : ℕ → LeafPlan
  P = plans_of s l ls

  abbrev n : ℕ
  n = length ls / 18

  -- the accesses of that level that leaf j forbids, one by one and as rights
  abbrev forbid : ℕ → Right → Bool
  forbid j x = bit (leaf_at ls j).forbidden (access_number l x)

  abbrev forbidden : ℕ → LevelRights
  forbidden j = forbidden_rights (leaf_at ls j).forbidden l

  -- the answer's masks and register
  ms : List ℕ
  ms = cuts P n 0 (replicate 8 7)

  lows : (i : ℕ) → Low (P i)
  lows i = leaf-low s l _

  masks : Masks ms
  unfolding ms
  masks = cuts-masks P lows n 0 (replicate 8 7) sevens

  reg : ℕ
  reg = pack_from ms 8 0

  reg-slot : (i : ℕ) → i < 8 → nibble reg i ≡ get_or ms i 0
  unfolding reg
  reg-slot i h = pack-slot ms masks.small 8 0 i h ∙ ap (λ (k : ℕ). get_or ms k 0) (omega arith)

  reg-small : reg < 4294967296
  unfolding reg
  reg-small = pack-lt-32 ms masks.small 8 0 (omega arith)

  reg-usable : Usable reg
  reg-usable = record {
    word = let h = reg-small in omega arith;
    low = λ i h. let e = reg-slot i h in let g = masks.small i in omega arith;
    high = λ i lo hi. upper reg i 32 reg-small (omega arith);
  }

  -- a slot bit of the register is on exactly if no leaf takes it
  reg-bit : (i b : ℕ) → i < 8 → b < 3 → bit (nibble reg i) b ≡ not (takes_from P n 0 i b)
  unfolding ms
  reg-bit i b hi hb =
      let d : ◌≡◌ {A = ℕ} (get_or (replicate 8 7) i 0) 7 = get_or-replicate 8 i 7 0 hi in
      ap (λ (x : ℕ). bit x b) (reg-slot i hi)
      ∙ cuts-bit P lows n 0 (replicate 8 7) sevens i b hb
      ∙ ap (λ (x : ℕ). bit x b && not (takes_from P n 0 i b)) d
      ∙ ap (λ (x : Bool). x && not (takes_from P n 0 i b)) (seven-bit b hb)

  nought-usable : Usable 0
  nought-usable = record {
    word = omega arith;
    low = λ i h. let e = nought-slot i in omega arith;
    high = λ i lo hi. nought-slot i;
  }

  -- a leaf of the list that passes has its range and plan
  pub ranged-at : (j : ℕ) → j < n → Passes s l (leaf_at ls j) → Ranged s l (leaf_slice ls j)
  ranged-at j h p = ranged s l (leaf_slice ls j) (simp (length-take, length-drop) (omega arith)) p

  module _ (passes : (j : ℕ) → j < n → Passes s l (leaf_at ls j)) where
    R : (j : ℕ) → j < n → Ranged s l (leaf_slice ls j)
    R j h = ranged-at j h (passes j h)

    place-low : (j : ℕ) (h : j < n) → (R j h).place < 8
    place-low j h = (subst Low (R j h).plan (lows j)).0

    -- an access is allowed where it is on with every slot bit on, and with every one off or by its slot bit
    allowed-as : (r : ℕ) → Usable r → (j : ℕ) (h : j < n) (x : Right)
        → allowed_with s l r (leaf_at ls j) x
        ≡ (has_right (R j h).full x && (has_right (R j h).bare x || bit (nibble r (R j h).place) (slot_bit x)))
    allowed-as r u j h x =
        let f = leaf_at ls j in
        allowed-is s (stage1_of f.stage1) (stage2_of f.stage2) (limits_of f.limits) l (R j h).place (R j h).full (R j h).bare (R j h).is r
        (u.low (R j h).place (place-low j h)) x

    -- a forbidden access is one of the leaf's forbidden rights
    forbids-as : (j : ℕ) (b : LevelRights) (x : Right)
        → has_right (common (forbidden j) b) x ≡ (forbid j x && has_right b x)
    forbids-as j b x =
        common-right (forbidden j) b x
        ∙ ap (λ (y : Bool). y && has_right b x) (forbidden-right (leaf_at ls j).forbidden l x)

    -- leaf j takes the bit of a right at its place exactly if it forbids it and it is on with every slot bit on
    takes-as : (j : ℕ) (h : j < n) (i : ℕ) (x : Right)
        → takes (P j) i (slot_bit x) ≡ (eqb i (R j h).place && (forbid j x && has_right (R j h).full x))
    takes-as j h i x =
        ap (λ (p : LeafPlan). takes p i (slot_bit x)) (R j h).plan
        ∙ ap (λ (y : Bool). eqb i (R j h).place && y)
        (slot-bit (common (forbidden j) (R j h).full) x ∙ forbids-as j (R j h).full x)

    uncured-as : (j : ℕ) (h : j < n) → uncured (P j) ≡ any (common (forbidden j) (R j h).bare)
    uncured-as j h = ap uncured (R j h).plan

    -- before the first uncured leaf a forbidden access is off with every slot bit off
    bare-off : (j : ℕ) (h : j < n) → j < first_uncured P n 0 → (x : Right) → Forbids s l ls j x → has_right (R j h).bare x ≡ false
    bare-off j h k x f =
        let e = any_none (common (forbidden j) (R j h).bare) (sym (uncured-as j h) ∙ clear P n 0 j (omega arith) k) x in
        sym (ap (λ (y : Bool). y && has_right (R j h).bare x) f) ∙ sym (forbids-as j (R j h).bare x) ∙ e

    -- a register without the bit of a forbidden access at a leaf that is not uncured stops it
    stops : (r : ℕ) → Usable r → (j : ℕ) (h : j < n) → j < first_uncured P n 0 → (x : Right) → Forbids s l ls j x
        → (has_right (R j h).full x ≡ true → bit (nibble r (R j h).place) (slot_bit x) ≡ false) → Allowed s l ls r j x → ⊥
    stops r u j h k x f off a =
        let e = sym (allowed-as r u j h x) ∙ a in
        opposed (or_r (has_right (R j h).bare x) _ (and_r (has_right (R j h).full x) _ e) (bare-off j h k x f)) (off (and_l (has_right (R j h).full x) _ e))

    reg-separates : n ≤ first_uncured P n 0 → Separates s l ls reg
    reg-separates k j in_List x f a =
        let h : j < n = omega arith in
        stops reg reg-usable j h (omega arith) x f
        (λ g.
        let t : takes (P j) (R j h).place (slot_bit x) ≡ true = takes-as j h (R j h).place x ∙ rw (eq-eqb (R j h).place (R j h).place refl, f, g) in
        reg-bit (R j h).place (slot_bit x) (place-low j h) (right-low x)
        ∙ ap not (taken-by P n 0 j (R j h).place (slot_bit x) (omega arith) (omega arith) t))
        a

    -- a slot bit of a register that separates is the answer's too
    contains : (q : ℕ) → Usable q → Separates s l ls q → (i : ℕ) → i < 8 → (x : Right)
        → bit (nibble q i) (slot_bit x) ≡ true → bit (nibble reg i) (slot_bit x) ≡ true
    contains q u sep i hi x on = go (takes_from P n 0 i (slot_bit x)) refl
      where
        go : (t : Bool) → takes_from P n 0 i (slot_bit x) ≡ t → bit (nibble reg i) (slot_bit x) ≡ true
        go false e = reg-bit i (slot_bit x) hi (right-low x) ∙ ap not e
        go true e =
            let w = taker P n 0 i (slot_bit x) e in
            let j = w.leaf in
            let h : j < n = let y = w.high in omega arith in
            let d = sym (takes-as j h i x) ∙ w.does in
            let here = eqb-true i (R j h).place (and_l (eqb i (R j h).place) _ d) in
            let g = and_r (eqb i (R j h).place) _ d in
            let f = and_l (forbid j x) _ g in
            let full = and_r (forbid j x) _ g in
            let bit-on : bit (nibble q (R j h).place) (slot_bit x) ≡ true = ap (λ (k : ℕ). bit (nibble q k) (slot_bit x)) (sym here) ∙ on in
            absurd (sep j h x f (allowed-as q u j h x ∙ by-slot (has_right (R j h).full x) (has_right (R j h).bare x) _ full bit-on))

    reg-bits : (q : ℕ) → Usable q → Separates s l ls q → (k : ℕ) → bit q k ≡ true → bit reg k ≡ true
    reg-bits q u sep k e = bit-slot reg k ∙ go (ltb (k / 4) 8) refl (ltb (k / 4) 16) refl (ltb (k % 4) 3) refl
      where
        d : bit (nibble q (k / 4)) (k % 4) ≡ true
        d = sym (bit-slot q k) ∙ e

        none : nibble q (k / 4) ≡ 0 → bit (nibble reg (k / 4)) (k % 4) ≡ true
        none z = absurd (opposed d (ap (λ (x : ℕ). bit x (k % 4)) z ∙ nought-bit (k % 4)))

        go : (t : Bool) → ltb (k / 4) 8 ≡ t → (w : Bool) → ltb (k / 4) 16 ≡ w → (v : Bool) → ltb (k % 4) 3 ≡ v → bit (nibble reg (k / 4)) (k % 4) ≡ true
        go true p w o true r =
            let x = right-at (k % 4) (ltb-true _ _ r) in
            ap (λ (b : ℕ). bit (nibble reg (k / 4)) b) (sym x.1)
            ∙ contains q u sep (k / 4) (ltb-true _ _ p) x.0 (ap (λ (b : ℕ). bit (nibble q (k / 4)) b) x.1 ∙ d)
        go true p w o false r = absurd (opposed d (fourth (nibble q (k / 4)) (k % 4) (u.low (k / 4) (ltb-true _ _ p)) (ltb-false _ _ r) (omega arith)))
        go false p true o v r = none (u.high (k / 4) (ltb-false _ _ p) (ltb-true _ _ o))
        go false p false o v r = none (upper q (k / 4) 64 u.word (let h = ltb-false (k / 4) 16 o in omega arith))

    reg-accesses : (q : ℕ) → Usable q → Separates s l ls q → (j : ℕ) → j < n → (x : Right) → Allowed s l ls q j x → Allowed s l ls reg j x
    reg-accesses q u sep j h x a =
        allowed-as reg reg-usable j h x
        ∙ more (has_right (R j h).full x) (has_right (R j h).bare x) _ _ (contains q u sep (R j h).place (place-low j h) x) (sym (allowed-as q u j h x) ∙ a)

    largest : n ≤ first_uncured P n 0 → Largest s l ls reg
    largest h = record {
      usable = reg-usable;
      separates = reg-separates h;
      bits = reg-bits;
      accesses = reg-accesses;
    }

    -- an uncured leaf is cured by no register, and one before it by the register 0
    none-cures : (h : first_uncured P n 0 < n) (r : ℕ) → Usable r → Cures s l ls r (first_uncured P n 0) → ⊥
    none-cures h r u cures =
        let j = first_uncured P n 0 in
        let f = leaf_at ls j in
        let w = any-one (common (forbidden j) (R j h).bare) (sym (uncured-as j h) ∙ hit P n 0 (omega arith)) in
        let x = w.0 in
        let e = sym (forbids-as j (R j h).bare x) ∙ w.1 in
        let bare = and_r (forbid j x) _ e in
        let full =
        bare-within s (stage1_of f.stage1) (stage2_of f.stage2) (limits_of f.limits) l (R j h).place (R j h).full (R j h).bare (R j h).is x bare in
        cures x (and_l (forbid j x) _ e)
        (allowed-as r u j h x ∙ by_bare (has_right (R j h).full x) (has_right (R j h).bare x) _ full bare)

    nought-cures : (j : ℕ) → j < n → j < first_uncured P n 0 → Cures s l ls 0 j
    nought-cures j h k x f a =
        stops 0 nought-usable j h k x f (λ g. ap (λ (v : ℕ). bit v (slot_bit x)) (nought-slot (R j h).place) ∙ nought-bit (slot_bit x)) a

    first : first_uncured P n 0 < n → FirstUncured s l ls (first_uncured P n 0)
    first h = record {
      within = h;
      uncured = none-cures h;
      before = λ j k. (0, nought-usable, nought-cures j (omega arith) k);
    }

    -- the two answers meet the demand
    refusal : first_uncured P n 0 < n → Demand3 s l ls (Err (on_leaf NotSeparable (first_uncured P n 0)))
    refusal h = record {
      answered = inl (first_uncured P n 0, refl);
      refused = λ k e r u sep. none-cures h r u (sep (first_uncured P n 0) h);
      only = λ none. (first_uncured P n 0, refl);
      first = λ k e. subst (λ x. FirstUncured s l ls x) (same-refusal e).1 (first h);
      largest = λ r e. clash (cc);
    }

    register : n ≤ first_uncured P n 0 → Demand3 s l ls (Ok reg)
    register h = record {
      answered = inr (reg, refl);
      refused = λ k e. clash (cc);
      only = λ none. absurd (none reg reg-usable (reg-separates h));
      first = λ k e. clash (cc);
      largest = λ r e. subst (λ x. Largest s l ls x) (let q : reg ≡ r = cc in q) (largest h);
    }

    settled-meets : Demand3 s l ls (settled P n)
    unfolding settled register_for reg ms
    settled-meets = go (ltb (first_uncured P n 0) n) refl
      where
        go : (t : Bool) → ltb (first_uncured P n 0) n ≡ t
            → Demand3 s l ls (cond t (Err (on_leaf NotSeparable (first_uncured P n 0))) (Ok (pack_from (cuts P n 0 (replicate 8 7)) 8 0)))
        go true e = refusal (ltb-true _ _ e)
        go false e = register (ltb-false _ _ e)

    pub leaves-settle : plan_leaves s l ls ≡ settled P n
    unfolding plan_leaves
    leaves-settle = goes_on P (settled P n) n 0 (λ j q lo hi. ap (λ (p : LeafPlan). or_refused p j q) (R j (omega arith)).plan)

-- an accepted list's answer
pub accepted-settles : (bytes : List ℕ) (lv : ℕ) (ls : List ℕ) (s : Setup) (l : Level) → Accepted bytes lv ls s l
    → plan_of bytes lv ls ≡ settled (plans_of s l ls) (length ls / 18)
unfolding plan_of
accepted-settles bytes lv ls s l A = rw (A.read, accepted-starts bytes lv ls s l A) (leaves-settle s l ls A.passes)

-- demand 3
pub demand3 : (bytes : List ℕ) (lv : ℕ) (ls : List ℕ) (p : Plan) → p ≡ plan_of bytes lv ls → Demanded bytes lv ls p
demand3 bytes lv ls p e s l A = subst (λ q. Demand3 s l ls q) (sym (e ∙ accepted-settles bytes lv ls s l A)) (settled-meets s l ls A.passes)
