-- What a copy to the start of a buffer leaves in it: the first k elements of v, and then what was there. Assumes nothing.
use mathlib.Core.Path.{◌≡◌}
use mathlib.Core.List.{List, ◌++◌}
use Prim.Native.Nat.{ℕ, ◌≤◌}
use lib.ListN.{length, take, drop}
use lib.Seq.{length-take-le}
use Rattle.records.specs.Bytes.{over}

pub copied : (k : ℕ) (x v a : List ℕ) → k ≤ length v → x ≡ take k v → x ++ drop k a ≡ over (take k v) a
copied k x v a h e = rw (e, length-take-le k v h)
