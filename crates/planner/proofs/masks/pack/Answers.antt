-- The masks from `s` on fill less than 28 bits, so one more mask fits.
use Rattle.std.proofs.Common.{◌-◌, arith}
use Rattle.planner.proofs.Packing.{pack-lt-28}
use Rattle.planner.proofs.masks.pack.Goals as goal

pub overflow_mul-r : goal.overflow_mul-r
overflow_mul-r c = let l = c.loop-s in omega (arith, pack-lt-28 c.args.masks c.requires (8 - l.s) l.s (omega arith))

pub overflow_add-r : goal.overflow_add-r
overflow_add-r c =
    let l = c.loop-s in
    omega (arith, pack-lt-28 c.args.masks c.requires (8 - l.s) l.s (omega arith), c.requires (l.s - 1))
