-- What `access_check` gives of an access number that was read, and of one that is none. Assumes nothing.
use mathlib.Core.Path.{◌≡◌}
use mathlib.Core.Bool.{Bool, true, false}
use Prim.Native.Nat.{ℕ, ◌≤◌, ◌<◌}
use native.Mathlib.Omega.{arith}
use borrow.Author.Tests.{le-leb, lt-leb}
use Rattle.records.proofs.AccessLaws.{unknown, known}
use Rattle.records.specs.Access.{read_access}
use Rattle.records.specs.declared.access.Access.{Access}
use Rattle.rights.specs.Checks.{access_check}
use Rattle.std.specs.Prelude.{Ok, Err, Some, None}
use Rattle.records.specs.declared.refusal.Refusal.TheVariants.{UnknownAccess}

-- with two levels each access is judged
pub known_of_two : (two : Bool) (n : ℕ) (a : Access) → two ≡ true → read_access n ≡ Some a → Ok a ≡ access_check two n
unfolding access_check
known_of_two two n a t e = let k = known n a e in rw (t, le-leb n 5 k.0, k.1)

-- accesses 0 to 2 always are
pub known_of_three : (two : Bool) (n : ℕ) (a : Access) → n ≤ 2 → read_access n ≡ Some a → Ok a ≡ access_check two n
unfolding access_check
known_of_three true n a h e = let k = known n a e in rw (le-leb n 5 k.0, k.1)
known_of_three false n a h e = let k = known n a e in rw (le-leb n 2 h, k.1)

-- a number that no access has is refused
pub refused_unknown : (two : Bool) (n : ℕ) → read_access n ≡ None → Err UnknownAccess ≡ access_check two n
unfolding access_check
refused_unknown true n e = rw (lt-leb n 5 (unknown n e))
refused_unknown false n e = let h = unknown n e in let g : 2 < n = omega arith in rw (lt-leb n 2 g)
