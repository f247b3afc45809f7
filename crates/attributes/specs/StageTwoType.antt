-- Document 01, 'Memory type and shareability', fourth and fifth paragraphs: what MemAttr says with FWB clear and with FWB set, and
-- refusal 8 at stage 2. Assumes nothing.
use Rattle.std.specs.Prelude.{ℕ, ◌/◌, ◌%◌, Bool, cond, ◌&&◌, ◌||◌, eqb, ltb}
use Rattle.records.specs.Bits.{bit}
use Rattle.records.specs.declared.descriptor.Stage2.{Stage2}
use Rattle.records.specs.declared.setup.Setup.{Setup}

-- MemAttr has four bits
unfoldable pub mem_attr_of : Stage2 → ℕ
mem_attr_of e = e.memattr % 16

-- FWB clear or set: MemAttr 0 to 3 are the Devices, in the order of their bytes
abbrev pub device_code : ℕ → Bool
device_code m = ltb m 4

-- FWB clear: 4, 8 and 12 give 8
abbrev pub reserved_clear : ℕ → Bool
reserved_clear m = eqb m 4 || (eqb m 8 || eqb m 12)

-- FWB clear: [3:2] is outer and [1:0] inner, with 1 Non-cacheable, 2 Write-Through, 3 Write-Back
abbrev pub outer_class : ℕ → ℕ
outer_class m = m / 4

abbrev pub inner_class : ℕ → ℕ
inner_class m = m % 4

-- FWB set: MemAttr[3] set, or [2:0] = 4, gives 8
abbrev pub reserved_set : ℕ → Bool
reserved_set m = bit m 3 || eqb (m % 8) 4

-- MemAttr m is reserved or needs an extension
abbrev pub reserved_code : Bool → ℕ → Bool
reserved_code fwb m = cond fwb (reserved_set m) (reserved_clear m)

-- refusal 8 at stage 2: it is on, and its MemAttr is reserved or needs an extension
unfoldable pub reserved_mem_attr : Setup → Stage2 → Bool
reserved_mem_attr s e = s.control.stage2 && reserved_code s.control.fwb (mem_attr_of e)

-- Stage 2's own type is a Device or 44. With FWB clear 5 is Non-cacheable at both levels. With FWB set 5 makes Normal 44, 6 is
-- Write-Back, and 7 has no type of its own: it keeps stage 1's, whose Device or 44 counts at stage 1.
abbrev pub uncached_code : ℕ → Bool
uncached_code m = device_code m || eqb m 5
