-- A leaf's plan from rights as bits of a number, as the code makes it, and a turn of its loop. Nothing here needs to be believed: the law `plan-by` of
-- proofs/MaskLaws says that the plan is `leaf_plan_of`, `first-go` of proofs/Turns what a turn does. Assumes nothing.
use Rattle.std.specs.Prelude.{ℕ, List, Bool, cond, not, eqb, Result, Ok, Err, Option, Some, None}
use Rattle.std.specs.Int.Bits.{bit_and}
use Rattle.records.specs.Access.{bits_in}
use Rattle.records.specs.Leaf.{read_leaf, leaf_slice}
use Rattle.records.specs.Values.{if_passes}
use Rattle.records.specs.declared.access.Level.{Level}
use Rattle.rights.specs.Checks.{leaf_check}
use Rattle.rights.specs.Mirror.Table.{range_by}
use Rattle.rights.specs.Promise.{slot_of}
use Rattle.records.specs.declared.refusal.Refusal.{Refusal}
use Rattle.records.specs.declared.leaf.Leaf.{Leaf}
use Rattle.rights.specs.declared.pass.table.BaseTable.{BaseTable}
use Rattle.rights.specs.declared.promise.RangeMask.{RangeMask}
use Rattle.planner.specs.declared.cut.Cut.{Cut}
use Rattle.planner.specs.Plan.{cut, LeafPlan}

-- the slot bits that must be off, and whether no register cures the leaf
abbrev pub mask_cut : ℕ → Level → RangeMask → Cut
mask_cut f l r = cut r.place (slot_of (bit_and (bits_in f l) r.full)) (not (eqb (bit_and (bits_in f l) r.bare) 0))

abbrev pub mask_plan : ℕ → Level → Result RangeMask Refusal → LeafPlan
mask_plan f l (Err n) = Err n
mask_plan f l (Ok r) = Ok (mask_cut f l r)

-- a leaf's plan by the control word w of a setup, where `on` is whether that level's overlay is and b the setup's tables for stage 1
abbrev pub read_plan : ℕ → Bool → BaseTable → Level → Result Leaf Refusal → LeafPlan
read_plan w on b l (Err n) = Err n
read_plan w on b l (Ok f) =
    if_passes (leaf_check f) Err (mask_plan f.forbidden l (range_by w on b f.stage1 f.stage2 f.limits l))

unfoldable pub plan_by : ℕ → Bool → BaseTable → Level → List ℕ → Result Cut Refusal
plan_by w on b l bytes = read_plan w on b l (read_leaf bytes)

-- the plans of a list's leaves, by index
abbrev pub plans_by : ℕ → Bool → BaseTable → Level → List ℕ → ℕ → Result Cut Refusal
plans_by w on b l ls i = plan_by w on b l (leaf_slice ls i)

-- one turn of the search for the first leaf that no register cures: `first` is the one found so far
abbrev pub first_of : Option ℕ → ℕ → Bool → Option ℕ
first_of (Some k) i u = Some k
first_of None i u = cond u (Some i) None

-- the first leaf found, or what a search of the leaves after it gives
abbrev pub found_or : Option ℕ → ℕ → ℕ
found_or (Some k) m = k
found_or None m = m
