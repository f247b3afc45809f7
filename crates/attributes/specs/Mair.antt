-- Document 01, 'Memory type and shareability', first to third paragraphs: stage 1's byte, with stage 1 on and off; Devices, Normal memory,
-- and the class and hints of a nibble. With them refusal 8 at stage 1. Assumes nothing.
use Rattle.std.specs.Prelude.{ℕ, ◌+◌, ◌*◌, ◌/◌, ◌%◌, Bool, cond, not, ◌&&◌, ◌||◌, eqb, ltb}
use Rattle.records.specs.Bits.{bit}
use Rattle.records.specs.Setup.{byte_in}
use Rattle.records.specs.declared.descriptor.Stage1.{Stage1}
use Rattle.records.specs.declared.setup.Setup.{Setup}

-- a MAIR byte's outer nibble is high, its inner nibble low
abbrev pub outer : ℕ → ℕ
outer b = b / 16

abbrev pub inner : ℕ → ℕ
inner b = b % 16

abbrev pub nibbles : ℕ → ℕ → ℕ
nibbles o i = 16 * o + i

-- the byte at AttrIndx[2:0] of MAIR, or of MAIR2 when AIE and AttrIndx[3] are set
abbrev pub picked_byte : Bool → ℕ → ℕ → ℕ → Bool → ℕ
picked_byte aie mair mair2 attrindx attrindx3 = byte_in (cond (aie && attrindx3) mair2 mair) attrindx

-- stage 1 on: the byte that its descriptor picks
unfoldable pub mair_byte : Setup → Stage1 → ℕ
mair_byte s d = picked_byte s.control.aie s.mair s.mair2 d.attrindx d.attrindx3

-- the byte of Device n: 00, 04, 08, 0C are nGnRnE, nGnRE, nGRE, GRE, the stricter earlier
abbrev pub device : ℕ → ℕ
device n = 4 * n

-- a byte is a Device: 00, 04, 08 or 0C
abbrev pub is_device : ℕ → Bool
is_device b = ltb b 16 && eqb (b % 4) 0

-- a byte is Normal: both nibbles are non-zero
abbrev pub is_normal : ℕ → Bool
is_normal b = not (eqb (outer b) 0) && not (eqb (inner b) 0)

-- the classes of a level, Non-cacheable below Write-Through below Write-Back: by the numbers that a half of MemAttr has for them
abbrev pub non_cacheable : ℕ
non_cacheable = 1

abbrev pub write_through : ℕ
write_through = 2

abbrev pub write_back : ℕ
write_back = 3

-- the class of a non-zero nibble: 4 is Non-cacheable; else its top two bits tell, 00 (1 to 3) and 10 (8 to 11) Write-Through,
-- 01 (5 to 7) and 11 (12 to 15) Write-Back
abbrev pub class_of : ℕ → ℕ
class_of n = cond (eqb n 4) non_cacheable (cond (bit n 2) write_back write_through)

-- the hints of a cacheable nibble, where they stand in it: bit 3, clear where it is transient, and the low two bits, Read-Allocate and
-- Write-Allocate
abbrev pub hints : ℕ → ℕ
hints n = 8 * (n / 8 % 2) + n % 4

-- the nibble of a cacheable class with these hints: bit 2 is Write-Back's
abbrev pub cacheable_nibble : ℕ → ℕ → ℕ
cacheable_nibble c h = cond (eqb c write_back) (4 + h) h

-- all other bytes give 8, the tagging and XS bytes included
abbrev pub valid_byte : ℕ → Bool
valid_byte b = is_device b || is_normal b

-- refusal 8 at stage 1: it is on, and its byte is reserved or needs an extension
unfoldable pub reserved_byte : Setup → Stage1 → Bool
reserved_byte s d = s.control.stage1 && not (valid_byte (mair_byte s d))

-- stage 1 off: with DC, FF; else for data 00; for fetches AA if instruction cacheable, else 44
unfoldable pub off_byte : Setup → Bool → ℕ
off_byte s fetch = cond s.control.dc (nibbles 15 15) (cond fetch (cond s.control.icacheable (nibbles 10 10) (nibbles 4 4)) (device 0))

-- stage 1's byte for an access, where `fetch` is whether it executes
unfoldable pub stage1_byte : Setup → Stage1 → Bool → ℕ
stage1_byte s d fetch = cond s.control.stage1 (mair_byte s d) (off_byte s fetch)
