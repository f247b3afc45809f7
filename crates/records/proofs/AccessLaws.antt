-- What an access number that was read tells. Assumes nothing.
use Rattle.records.proofs.Cases.{clash}
use mathlib.Core.Path.{◌≡◌, refl}
use mathlib.Core.Bool.{Bool, true, false}
use Prim.Native.Nat.{ℕ, ◌≤◌, ◌<◌}
use lib.Dec.{leb}
use borrow.Author.Tests.{leb-true, leb-false}
use Rattle.records.specs.Access.{access_at, read_access}
use Rattle.records.specs.declared.access.Access.{Access}
use Rattle.std.specs.Prelude.{Some, None}

-- a number that no access has is above 5
pub unknown : (n : ℕ) → read_access n ≡ None → 5 < n
unfolding read_access
unknown n e = go (leb n 5) refl
  where
    go : (t : Bool) → leb n 5 ≡ t → 5 < n
    go true q = let f : Some (access_at n) ≡ None = rw q at e in clash (cc)
    go false q = leb-false n 5 q

-- an access that was read has a number up to 5
pub known : (n : ℕ) (a : Access) → read_access n ≡ Some a → (n ≤ 5) × (a ≡ access_at n)
unfolding read_access
known n a e = go (leb n 5) refl
  where
    go : (t : Bool) → leb n 5 ≡ t → (n ≤ 5) × (a ≡ access_at n)
    go true q = let f : Some (access_at n) ≡ Some a = rw q at e in (leb-true n 5 q, cc)
    go false q = let f : None ≡ Some a = rw q at e in clash (cc)
