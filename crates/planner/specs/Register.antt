-- Document 01, 'Stage 1 rights' **Overlay** for a slot's bits, and 'What form each place needs' for the eight slot masks: a slot's bits, a mask that is
-- cut, and the register that masks are packed into. Assumes nothing.
use Rattle.std.specs.Prelude.{ℕ, zero, suc, ◌+◌, ◌*◌, ◌-◌, List, cond, get_or}
use Rattle.std.specs.Int.Bits.{bit_and}
use Rattle.records.specs.declared.access.Right.{Right}
use Rattle.records.specs.declared.access.Right.TheVariants.{Read, Write, Execute}
use Rattle.records.specs.declared.access.LevelRights.{LevelRights}

-- a slot's bit for a right: bit 0 R, bit 1 X, bit 2 W
abbrev pub slot_bit : Right → ℕ
slot_bit Read = 0
slot_bit Execute = 1
slot_bit Write = 2

-- the slot that has the bits of these rights
abbrev pub slot_number : LevelRights → ℕ
slot_number v = cond v.read 1 0 + 2 * cond v.execute 1 0 + 4 * cond v.write 1 0

-- a mask without the bits taken
abbrev pub cut_mask : ℕ → ℕ → ℕ
cut_mask mask taken = mask - bit_and mask taken

-- the register of m masks from place s on, each in four bits
unfoldable pub pack_from : List ℕ → ℕ → ℕ → ℕ
pack_from ms zero s = 0
pack_from ms (suc m) s = pack_from ms m (suc s) * 16 + get_or ms s 0
