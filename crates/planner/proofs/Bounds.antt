-- How large an answer can be: a register has its low 32 bits alone, and a refusal names one of at most 2,048 leaves. Assumes nothing.
use mathlib.Core.Path.{◌≡◌, refl}
use mathlib.Core.List.{List}
use mathlib.Core.Bool.{Bool, true, false, cond}
use mathlib.Core.Logic.{◌⊎◌, inl, inr}
use Prim.Native.Nat.{ℕ, zero, suc, ◌+◌, ◌/◌, ◌^◌, ◌≤◌, ◌<◌}
use native.Mathlib.Omega.{arith}
use lib.Dec.{ltb}
use lib.ListN.{length, replicate}
use borrow.Author.Tests.{ltb-true}
use Rattle.records.specs.declared.access.Level.{Level}
use Rattle.records.specs.Setup.{read_setup}
use Rattle.records.specs.declared.setup.Setup.{Setup}
use Rattle.records.specs.Leaf.{leaf_slice}
use Rattle.planner.specs.Plan.{plans_of, or_refused, refused_from, first_uncured, register_for, settled, plan_leaves, plan_from, plan_setup, start_of, plan_of}
use Rattle.planner.proofs.CutLaws.{cuts-masks, sevens}
use Rattle.planner.proofs.Leaves.{leaf-low}
use Rattle.planner.proofs.Packing.{pack-lt-32}
use Rattle.planner.proofs.StartLaws.{fits}
use Rattle.std.specs.Prelude.{Result, Ok, Err}
use Rattle.records.specs.declared.refusal.Refusal.{Refusal}
use Rattle.records.specs.declared.refusal.Refusal.TheVariants.{NotSeparable}
use Rattle.records.specs.Values.{on_leaf}
use Rattle.planner.specs.Plan.{Plan}
use Rattle.planner.specs.Plan.{LeafPlan}

-- within a list of n leaves
pub data Within (n : ℕ) : Plan → Type 0 where
  register : (r : ℕ) → r < 2 ^ 32 → Within n (Ok r)
  refusal : (k : Refusal) (i : ℕ) → (i ≡ 0) ⊎ (i < n) → Within n (Err (on_leaf k i))

-- a leaf's refusal names that leaf
refused-within : (P : ℕ → LeafPlan) (p : Plan) (n m i : ℕ) → i + m ≤ n → Within n p → Within n (refused_from P p m i)
unfolding refused_from
refused-within P p n zero i h w = w
refused-within P p n (suc m) i h w = go (P i) (refused-within P p n m (suc i) (omega arith) w)
  where
    go : (x : LeafPlan) → Within n (refused_from P p m (suc i)) → Within n (or_refused x i (refused_from P p m (suc i)))
    go (Ok c) v = v
    go (Err k) v = refusal k i (inr (omega arith))

module _ (s : Setup) (l : Level) (ls : List ℕ) where
  settled-within : (n : ℕ) → Within n (settled (plans_of s l ls) n)
  unfolding settled register_for
  settled-within n = go (ltb (first_uncured (plans_of s l ls) n 0) n) refl
    where
      go : (t : Bool) → ltb (first_uncured (plans_of s l ls) n 0) n ≡ t
          → Within n (cond t (Err (on_leaf NotSeparable (first_uncured (plans_of s l ls) n 0))) (Ok (register_for (plans_of s l ls) n)))
      go true e = refusal NotSeparable _ (inr (ltb-true _ _ e))
      go false e =
          register _
          (pack-lt-32 _ (cuts-masks (plans_of s l ls) (λ i. leaf-low s l (leaf_slice ls i)) n 0 (replicate 8 7) sevens).small 8 0 (omega arith))

-- every answer
pub within : (bytes : List ℕ) (lv : ℕ) (ls : List ℕ) → Within 2048 (plan_of bytes lv ls)
unfolding plan_of plan_leaves
within bytes lv ls = read (read_setup bytes)
  where
    wider : (p : Plan) (n : ℕ) → n ≤ 2048 → Within n p → Within 2048 p
    wider p n h (register r b) = register r b
    wider p n h (refusal k i (inl e)) = refusal k i (inl e)
    wider p n h (refusal k i (inr e)) = refusal k i (inr (omega arith))

    go : (s : Setup) (x : (Result Level Refusal)) → start_of s.control lv (length ls) ≡ x → Within 2048 (plan_from s ls x)
    go s (Err k) e = refusal k 0 (inl refl)
    go s (Ok l) e =
        wider _ (length ls / 18) (fits (length ls) l s.control lv e).1
        (refused-within (plans_of s l ls) (settled (plans_of s l ls) (length ls / 18)) (length ls / 18) (length ls / 18) 0 (omega arith) (settled-within s l ls (length ls / 18)))

    read : (x : (Result Setup Refusal)) → Within 2048 (plan_setup lv ls x)
    read (Err n) = refusal n 0 (inl refl)
    read (Ok s) = go s (start_of s.control lv (length ls)) refl
