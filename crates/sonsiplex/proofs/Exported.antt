-- What the list and the planner answer can be packed. Assumes nothing.
use mathlib.Core.Path.{◌≡◌}
use mathlib.Core.Logic.{inl, inr}
use mathlib.Core.List.{List}
use Prim.Native.Nat.{ℕ, ◌^◌, ◌<◌}
use native.Mathlib.Omega.{arith}
use Rattle.records.specs.Values.{Values}
use Rattle.judge.proofs.Bounds as list
use Rattle.judge.specs.Answers.{list_values}
use Rattle.judge.specs.List.{list_of}
use Rattle.planner.proofs.Bounds as plan
use Rattle.planner.specs.Plan.{plan_values, plan_of}
use Rattle.judge.specs.Answers.{Listed}
use Rattle.planner.specs.Plan.{Plan}

-- a leaf's index, a number of leaves and a register that can be packed
abbrev pub Fit : Values → Type 0
Fit v = (v.leaf < 2 ^ 16) × (v.count < 2 ^ 32) × (v.register < 2 ^ 32)

list-fits : (x : Listed) → list.Within x → Fit (list_values x)
list-fits _ (list.done n h) = (omega arith, omega arith, omega arith)
list-fits _ (list.refusal k i h) = (omega arith, omega arith, omega arith)

plan-fits : (x : Plan) → plan.Within 2048 x → Fit (plan_values x)
plan-fits _ (plan.register r h) = (omega arith, omega arith, h)
plan-fits _ (plan.refusal k i (inl e)) = (omega arith, omega arith, omega arith)
plan-fits _ (plan.refusal k i (inr h)) = (omega arith, omega arith, omega arith)

-- an answer that is the list's, and one that is the planner's, can be packed
pub list-fit : (b ls o c : List ℕ) (x y : Listed) → x ≡ (list_of b ls o c).answer → x ≡ y → Fit (list_values y)
list-fit b ls o c x y e f = list-fits y (rw (← f, e) (list.within b ls o c))

pub plan-fit : (b : List ℕ) (lv : ℕ) (ls : List ℕ) (x y : Plan) → x ≡ plan_of b lv ls → x ≡ y → Fit (plan_values y)
plan-fit b lv ls x y e f = plan-fits y (rw (← f, e) (plan.within b lv ls))
