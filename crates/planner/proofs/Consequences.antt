-- What follows from demand 3 and the plan's definition, the empty list and each bit of the answer; and what the definitions say in
-- other words, the numbers of accesses and a leaf that passes. Assumes nothing.
use mathlib.Core.Path.{◌≡◌, refl}
use mathlib.Core.Bool.{true}
use mathlib.Core.List.{List, []}
use mathlib.Core.Logic.{◌↔◌}
use Prim.Native.Nat.{ℕ, ◌<◌}
use native.Mathlib.Omega.{arith}
use Rattle.records.specs.Access.{access_of, access_at, access_number}
use Rattle.records.specs.Bits.{bit}
use Rattle.records.specs.Descriptor.{stage1_of, stage2_of, limits_of, slot_at}
use Rattle.records.specs.declared.access.Level.{Level}
use Rattle.records.specs.declared.access.Level.TheVariants.{Privileged, Unprivileged}
use Rattle.records.specs.declared.access.Right.{Right}
use Rattle.records.specs.declared.access.Right.TheVariants.{Read, Write, Execute}
use Rattle.records.specs.declared.leaf.Leaf.{Leaf}
use Rattle.records.specs.declared.setup.Setup.{Setup}
use Rattle.rights.proofs.PromiseLaws.{access-not-refused, open-slot, rights-with}
use Rattle.rights.specs.Checks.{leaf_check}
use Rattle.rights.specs.Promise.{range_of, between, put, all_open, LevelRange, answer_with}
use Rattle.planner.specs.Demands.{Usable, Passes, Separates, Accepted}
use Rattle.planner.specs.Plan.{cuts, first_uncured, plan_of, register_for, settled}
use Rattle.planner.specs.Register.{pack_from}
use Rattle.planner.proofs.Leaves.{not-refused}
use Rattle.planner.proofs.Theorem.{accepted-settles, demand3}
use Rattle.std.specs.Prelude.{Ok, Err}
use Rattle.rights.specs.declared.answers.Stop.TheVariants.{Refused}
use Rattle.records.specs.declared.refusal.Refusal.{Refusal}

-- an empty list gives 0000000077777777
pub empty : (bytes : List ℕ) (lv : ℕ) (s : Setup) (l : Level) → Accepted bytes lv [] s l → plan_of bytes lv [] ≡ Ok 0x77777777
unfolding settled register_for first_uncured cuts pack_from
empty bytes lv s l A = accepted-settles bytes lv [] s l A

-- each bit is on in the answer exactly if it is on in some usable register that separates
pub exactly : (bytes : List ℕ) (lv : ℕ) (ls : List ℕ) (s : Setup) (l : Level) → Accepted bytes lv ls s l
    → (r : ℕ) → plan_of bytes lv ls ≡ Ok r → (k : ℕ)
    → (bit r k ≡ true) ↔ ((q : ℕ) × Usable q × Separates s l ls q × (bit q k ≡ true))
exactly bytes lv ls s l A r e k =
    let m = (demand3 bytes lv ls (plan_of bytes lv ls) refl s l A).largest r e in
    ((λ on. (r, m.usable, m.separates, on)), (λ w. m.bits w.0 w.1 w.2 k w.3))

-- the number of an access is the one it has among all accesses
pub access-number : (l : Level) (x : Right) → access_at (access_number l x) ≡ access_of l x
access-number Privileged Read = refl
access-number Privileged Write = refl
access-number Privileged Execute = refl
access-number Unprivileged Read = refl
access-number Unprivileged Write = refl
access-number Unprivileged Execute = refl

-- a leaf passes exactly if it has no 5 and the range of its rights is not refused
pub passes-as : (s : Setup) (l : Level) (f : Leaf)
    → Passes s l f
    ↔ ((leaf_check f ≡ (Ok tt))
    × ((n : Refusal) → range_of s (stage1_of f.stage1) (stage2_of f.stage2) (limits_of f.limits) l ≡ LevelRange.NoRange n → ⊥))
passes-as s l f = (
  (λ p. (p.checked, not-refused s l f p)),
  (λ w. record {
    checked = w.0;
    met = λ x n. go (range_of s (stage1_of f.stage1) (stage2_of f.stage2) (limits_of f.limits) l) refl w.1 x n;
  }),
)
  where
    go : (r : LevelRange) → range_of s (stage1_of f.stage1) (stage2_of f.stage2) (limits_of f.limits) l ≡ r
        → ((n : Refusal) → range_of s (stage1_of f.stage1) (stage2_of f.stage2) (limits_of f.limits) l ≡ LevelRange.NoRange n → ⊥)
        → (x : Right) (n : Refusal) → answer_with s l all_open f x ≡ (Err (Refused n)) → ⊥
    go (LevelRange.NoRange m) e none x n q = none m e
    go (LevelRange.Range k full bare) e none x n q =
        let d = stage1_of f.stage1 in
        let z : slot_at all_open d.poindex < 8 = let h = open-slot d.poindex in omega arith in
        access-not-refused (put s l all_open) d (stage2_of f.stage2) (limits_of f.limits) l (between full bare (slot_at all_open d.poindex))
        (rights-with s d (stage2_of f.stage2) (limits_of f.limits) l k full bare e all_open z) x n q
