-- What is found from the first leaf field on is the fields whose values are in place, and then what is found from the next place on.
use Rattle.std.proofs.Common.{length, ◌+◌, ◌-◌, ◌≡◌, ◌*◌, ◌≤◌, drop, take}
use Rattle.records.specs.MapFile.{prepend, leaves_of}
use Rattle.records.proofs.mapfile.leaf_fields.Given as goal

abbrev pub invariant-loop-n : goal.invariant-loop-n
invariant-loop-n l = record {
  within : 55 + l.n * 21 ≤ length l.file;
  kept : length l.values ≡ length l.fn.values;
  found : leaves_of 2048 (drop 55 l.file) ≡ prepend l.n (take (l.n * 18) l.values) (leaves_of (2048 - l.n) (drop (55 + l.n * 21) l.file));
}
