-- What a leaf's plan says of the leaf: its place and the bits it takes, and what a leaf that passes has. Assumes nothing.
use mathlib.Core.Path.{◌≡◌, refl}
use mathlib.Core.List.{List}
use Prim.Native.Nat.{ℕ}
use native.Mathlib.Omega.{arith}
use lib.ListN.{length}
use borrow.Author.Tests.{eq-eqb}
use Rattle.records.specs.Leaf.{leaf_of, read_leaf}
use Rattle.records.specs.Descriptor.{stage1_of, stage2_of, limits_of}
use Rattle.records.specs.declared.access.Level.{Level}
use Rattle.records.specs.declared.leaf.Leaf.{Leaf}
use Rattle.records.specs.declared.setup.Setup.{Setup}
use Rattle.rights.proofs.PromiseLaws.{access-refused, place_is, refused-is}
use Rattle.rights.specs.Checks.{leaf_check}
use Rattle.rights.specs.Promise.{range_of, put, all_open, LevelRange}
use Rattle.records.specs.declared.access.LevelRights.{LevelRights}
use Rattle.planner.specs.Demands.{Passes}
use Rattle.planner.specs.Register.{slot_number}
use Rattle.records.specs.Values.{if_passes}
use Rattle.planner.specs.Plan.{any, common, forbidden_rights, range_plan, leaf_plan, leaf_plan_of}
use Rattle.planner.proofs.Bits.{slot-low}
use Rattle.planner.proofs.CutLaws.{Low}
use Rattle.std.specs.Prelude.{Result, Ok, Err}
use Rattle.records.specs.declared.refusal.Refusal.{Refusal}
use Rattle.records.specs.Values.{Check}
use Rattle.planner.specs.Plan.{cut}

pub leaf-low : (s : Setup) (l : Level) (b : List ℕ) → Low (leaf_plan_of s l b)
unfolding leaf_plan_of
leaf-low s l b = go (read_leaf b)
  where
    checked : (f : Leaf) (a : Check) (r : LevelRange)
        → range_of s (stage1_of f.stage1) (stage2_of f.stage2) (limits_of f.limits) l ≡ r
        → Low (if_passes a Err (range_plan f.forbidden l r))
    checked f (Ok u) (LevelRange.Range k full bare) e =
        let q = place_is s (stage1_of f.stage1) (stage2_of f.stage2) (limits_of f.limits) l k full bare e in
        (omega arith, slot-low (common (forbidden_rights f.forbidden l) full))
    checked f (Ok u) (LevelRange.NoRange n) e = tt
    checked f (Err n) r e = tt

    go : (x : (Result Leaf Refusal)) → Low (leaf_plan s l x)
    go (Err n) = tt
    go (Ok f) = checked f (leaf_check f) (range_of s (stage1_of f.stage1) (stage2_of f.stage2) (limits_of f.limits) l) refl

-- the range of a leaf that passes is not refused
pub not-refused : (s : Setup) (l : Level) (f : Leaf) → Passes s l f → (n : Refusal)
    → range_of s (stage1_of f.stage1) (stage2_of f.stage2) (limits_of f.limits) l ≡ LevelRange.NoRange n → ⊥
not-refused s l f p n e =
    let w =
    access-refused (put s l all_open) (stage1_of f.stage1) (stage2_of f.stage2) (limits_of f.limits) l n
    (refused-is s (stage1_of f.stage1) (stage2_of f.stage2) (limits_of f.limits) l n e) in
    p.met w.0 n w.1

-- what a leaf that passes has: the range of its rights, and its plan
pub record Ranged (s : Setup) (l : Level) (b : List ℕ) : Type 0 where
  pub place : ℕ
  pub full : LevelRights
  pub bare : LevelRights
  pub is : range_of s (stage1_of (leaf_of b).stage1) (stage2_of (leaf_of b).stage2) (limits_of (leaf_of b).limits) l ≡ LevelRange.Range place full bare
  pub plan : leaf_plan_of s l b
      ≡ Ok (cut place (slot_number (common (forbidden_rights (leaf_of b).forbidden l) full)) (any (common (forbidden_rights (leaf_of b).forbidden l) bare)))

pub ranged : (s : Setup) (l : Level) (b : List ℕ) → length b ≡ 18 → Passes s l (leaf_of b) → Ranged s l b
unfolding leaf_plan_of read_leaf
ranged s l b h p = go (range_of s (stage1_of (leaf_of b).stage1) (stage2_of (leaf_of b).stage2) (limits_of (leaf_of b).limits) l) refl
  where
    go : (r : LevelRange) → range_of s (stage1_of (leaf_of b).stage1) (stage2_of (leaf_of b).stage2) (limits_of (leaf_of b).limits) l ≡ r
        → Ranged s l b
    go (LevelRange.Range k f g) e = record {
      place = k;
      full = f;
      bare = g;
      is = e;
      plan = rw (eq-eqb (length b) 18 h, p.checked, e);
    }
    go (LevelRange.NoRange n) e = absurd (not-refused s l (leaf_of b) p n e)
