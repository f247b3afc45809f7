-- A leaf's plan from rights as bits is its plan. Assumes nothing.
use mathlib.Core.Path.{◌≡◌, refl, ap, ap₂, ◌∙◌, fun_ext}
use mathlib.Core.Bool.{Bool, false, not}
use mathlib.Core.List.{List, [], ◌∷◌}
use Prim.Native.Nat.{ℕ, ◌+◌, ◌*◌, ◌/◌, ◌%◌}
use native.Mathlib.Nat.{div-div-eq-div-mul}
use native.Mathlib.Omega.{arith}
use lib.Bits.{bit_and}
use lib.Dec.{eqb}
use lib.ListN.{get_or}
use Rattle.records.specs.Descriptor.{stage1_of, stage2_of, limits_of}
use Rattle.records.proofs.Cases.{each, each-digit}
use Rattle.records.specs.Leaf.{read_leaf, leaf_count, leaf_slice}
use Rattle.records.specs.Setup.{of_level, control_of, setup_from}
use Rattle.records.specs.declared.access.Level.{Level}
use Rattle.records.specs.declared.access.Level.TheVariants.{Privileged, Unprivileged}
use Rattle.records.specs.declared.leaf.Leaf.{Leaf}
use Rattle.records.specs.declared.setup.Words.{Words}
use Rattle.rights.specs.Checks.{leaf_check}
use Rattle.records.specs.Access.{three, bits_in, level_bits}
use Rattle.records.specs.declared.access.LevelRights.{LevelRights}
use Rattle.rights.proofs.PromiseLaws.{and-bits, any-bits, slot-low, range-by, place-below}
use Rattle.rights.specs.Promise.{range_of, LevelRange, range_mask, slot_of}
use Rattle.rights.specs.Mirror.Table.{range_by}
use Rattle.planner.specs.Mirror.Masks.{mask_plan, read_plan, plan_by, plans_by}
use Rattle.records.specs.Values.{if_passes}
use Rattle.planner.specs.Plan.{forbidden_rights, common, range_plan, leaf_plan, leaf_plan_of, in_order, plan_leaves}
use Rattle.planner.specs.Register.{slot_number}
use Rattle.planner.proofs.CutLaws.{Low}
use Rattle.std.specs.Prelude.{Result, Ok, Err}
use Rattle.records.specs.declared.refusal.Refusal.{Refusal}
use Rattle.records.specs.Values.{Check}
use Rattle.planner.specs.Plan.{LeafPlan}
use Rattle.planner.specs.Plan.{cut}
use Rattle.rights.specs.declared.promise.RangeMask.{RangeMask}
use Rattle.rights.specs.Mirror.Table.{ModeTableOf}
use Rattle.rights.specs.declared.pass.table.BaseTable.{BaseTable}

-- the forbidden bits of a level: digits 0 to 2
abbrev number : List ℕ → ℕ
number m = get_or m 0 0 + get_or m 1 0 * 2 + get_or m 2 0 * 4

abbrev rights : List ℕ → ℕ
rights m = level_bits (three (eqb (get_or m 0 0) 1) (eqb (get_or m 1 0) 1) (eqb (get_or m 2 0) 1))

three-digits : (n : ℕ) → n % 8 ≡ number (n % 2 ∷ n / 2 % 2 ∷ n / 4 % 2 ∷ [])
three-digits n = omega (arith, div-div-eq-div-mul n 2 2, div-div-eq-div-mul n 4 2)

forbidden-bits : (f : ℕ) (l : Level) → bits_in f l ≡ level_bits (forbidden_rights f l)
forbidden-bits f Privileged =
    let e : f % 8 ≡ number (f / 1 % 2 ∷ f / 2 % 2 ∷ f / 4 % 2 ∷ []) = omega (arith, three-digits f) in
    e ∙ each-digit (f / 1 ∷ f / 2 ∷ f / 4 ∷ []) number rights refl
forbidden-bits f Unprivileged =
    three-digits (f / 8)
    ∙ ap₂ (λ (a b : ℕ). number (f / 8 % 2 ∷ a % 2 ∷ b % 2 ∷ [])) (div-div-eq-div-mul f 8 2) (div-div-eq-div-mul f 8 4)
    ∙ each-digit (f / 8 ∷ f / 16 ∷ f / 32 ∷ []) number rights refl

-- the slot that has the bits of some rights
slot-order : (a : LevelRights) → slot_of (level_bits a) ≡ slot_number a
slot-order a =
    each (a.read ∷ a.write ∷ a.execute ∷ []) (λ (m : List Bool). slot_of (level_bits (three (get_or m 0 false) (get_or m 1 false) (get_or m 2 false))))
    (λ (m : List Bool). slot_number (three (get_or m 0 false) (get_or m 1 false) (get_or m 2 false))) refl

in-common : (f : ℕ) (l : Level) (a : LevelRights) → bit_and (bits_in f l) (level_bits a) ≡ level_bits (common (forbidden_rights f l) a)
in-common f l a = ap (λ (n : ℕ). bit_and n (level_bits a)) (forbidden-bits f l) ∙ and-bits (forbidden_rights f l) a

abbrev the_cut : ℕ → ℕ → Bool → LeafPlan
the_cut k t u = Ok (cut k t u)

mask-plan : (f : ℕ) (l : Level) (x : LevelRange) → mask_plan f l (range_mask x) ≡ range_plan f l x
mask-plan f l (LevelRange.Range k full bare) =
    ap₂ (λ (t : ℕ) (u : Bool). the_cut k t u) (ap slot_of (in-common f l full) ∙ slot-order (common (forbidden_rights f l) full))
    (ap (λ (n : ℕ). not (eqb n 0)) (in-common f l bare) ∙ any-bits (common (forbidden_rights f l) bare))
mask-plan f l (LevelRange.NoRange n) = refl

module _ (q : Words) (b : BaseTable) (l : Level) (h : ModeTableOf q.control q.pir.privileged q.pir.unprivileged b) where
  -- that level's overlay is on
  abbrev on : Bool
  on = of_level (control_of q.control).overlay l

  read-plan : (x : (Result Leaf Refusal)) → read_plan q.control on b l x ≡ leaf_plan (setup_from q) l x
  read-plan (Err n) = refl
  read-plan (Ok f) =
      ap (if_passes (leaf_check f) Err)
      (ap (mask_plan f.forbidden l) (range-by q b f.stage1 f.stage2 f.limits l h)
      ∙ mask-plan f.forbidden l (range_of (setup_from q) (stage1_of f.stage1) (stage2_of f.stage2) (limits_of f.limits) l))

  -- by a setup's table a leaf's plan is its plan
  pub plan-by : (bytes : List ℕ) → plan_by q.control on b l bytes ≡ leaf_plan_of (setup_from q) l bytes
  unfolding plan_by leaf_plan_of
  plan-by bytes = read-plan (read_leaf bytes)

  -- and so are the plans of a list's leaves, in order
  pub leaves_by : (ls : List ℕ) → in_order (plans_by q.control on b l ls) (leaf_count ls) ≡ plan_leaves (setup_from q) l ls
  unfolding plan_leaves
  leaves_by ls = ap (λ (P : ℕ → LeafPlan). in_order P (leaf_count ls)) (fun_ext (λ i. plan-by (leaf_slice ls i)))

-- by any table a leaf's place is below 8, and it takes bits of a slot
pub by-low : (w : ℕ) (on : Bool) (b : BaseTable) (l : Level) (bytes : List ℕ) → Low (plan_by w on b l bytes)
unfolding plan_by
by-low w on b l bytes = go (read_leaf bytes)
  where
    checked : (f : Leaf) (a : Check) (r : (Result RangeMask Refusal)) → range_by w on b f.stage1 f.stage2 f.limits l ≡ r
        → Low (if_passes a Err (mask_plan f.forbidden l r))
    checked f (Ok u) (Ok r) e =
        (place-below w on b f.stage1 f.stage2 f.limits l r.place r.full r.bare e, slot-low (bit_and (bits_in f.forbidden l) r.full))
    checked f (Ok u) (Err n) e = tt
    checked f (Err n) r e = tt

    go : (x : (Result Leaf Refusal)) → Low (read_plan w on b l x)
    go (Err n) = tt
    go (Ok f) = checked f (leaf_check f) (range_by w on b f.stage1 f.stage2 f.limits l) refl
