-- The bytes of causes: how many, and which stands where. Assumes nothing.
use mathlib.Core.Path.{◌≡◌, refl, ap, ◌∙◌}
use mathlib.Core.List.{List}
use Prim.Native.Nat.{ℕ, zero, suc, ◌+◌, ◌/◌, ◌%◌, ◌<◌}
use native.Mathlib.Nat.{add-zero, add-suc, suc-add, le_of_suc-le-suc, not-suc-le-zero}
use lib.ListN.{length, get_or}
use Rattle.records.specs.Leaf.{leaf_at}
use Rattle.records.specs.declared.setup.Setup.{Setup}
use Rattle.judge.specs.List.{cause_at, causes_from}

module _ (s : Setup) (ls : List ℕ) where
  pub length-causes : (m k : ℕ) → length (causes_from s ls k m) ≡ m
  length-causes zero k = refl
  length-causes (suc m) k = ap suc (length-causes m (suc k))

  -- byte j of causes
  pub at_byte : (m k j : ℕ) → j < m → get_or (causes_from s ls k m) j 0 ≡ cause_at s (leaf_at ls ((k + j) / 6)) ((k + j) % 6)
  at_byte zero k j h = absurd (not-suc-le-zero h)
  at_byte (suc m) k zero h = rw (add-zero k)
  at_byte (suc m) k (suc j) h = at_byte m (suc k) j (le_of_suc-le-suc h) ∙ rw (suc-add k j, add-suc k j)
