-- `r` is the register of the masks from `s` on.
use Rattle.std.proofs.Common.{◌≡◌, ◌-◌, ◌≤◌}
use Rattle.planner.specs.Register.{pack_from}
use Rattle.planner.proofs.masks.pack.Given as goal

abbrev pub invariant-loop-s : goal.invariant-loop-s
invariant-loop-s l = record { within : l.s ≤ 8; packed : l.r ≡ pack_from l.masks (8 - l.s) l.s }
