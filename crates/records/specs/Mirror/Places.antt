-- Where a descriptor stands in tables that have an entry for each value of some of its bits. Nothing here needs to be believed: the laws of proofs/PlaceLaws
-- (`low1-fields`, `low2-fields`, `flag-fields`, `state-fields`, `never-fields`, `ap-bits`, `codes_at`, `slots_at`) say of each place which bits and fields of the
-- descriptor it has. Assumes nothing.
use Rattle.std.specs.Prelude.{ℕ, ◌+◌, ◌*◌, ◌/◌, ◌%◌, ◌^◌}
use Rattle.records.specs.Bits.{field}
use Rattle.records.specs.declared.descriptor.places.CodesPlace.{CodesPlace}
use Rattle.records.specs.declared.descriptor.places.LeafPlaces.{LeafPlaces}
use Rattle.records.specs.declared.descriptor.places.Places.{Places}
use Rattle.records.specs.declared.descriptor.places.SlotsPlace.{SlotsPlace}
use Rattle.records.specs.declared.leaf.Leaf.{Leaf}

-- bits 54:51 and 6; and bits 62:59
abbrev pub codes_place : ℕ → CodesPlace
codes_place d = record { 0 = field d 51 4 + field d 6 1 * 16 }

abbrev pub slots_place : ℕ → SlotsPlace
slots_place d = record { 0 = field d 59 4 }

-- the places of a descriptor, and of a leaf
unfoldable pub places_of : ℕ → Places
places_of d = record {
  low1 = field d 0 5 + field d 59 1 * 32;
  low2 = field d 0 6;
  ap = field d 6 2;
  flags = field d 8 3;
  state = field d 7 4;
  never = field d 51 4;
  codes = codes_place d;
  slots = slots_place d;
}

abbrev pub leaf_places : Leaf → LeafPlaces
leaf_places f = record { stage1 = places_of f.stage1; stage2 = places_of f.stage2; limits = f.limits; forbidden = f.forbidden }

-- a descriptor of entry k in a table of base codes, and in a table of slots
abbrev pub codes_descriptor : ℕ → ℕ
codes_descriptor k = k % 16 * 2 ^ 51 + k / 16 % 2 * 2 ^ 6

abbrev pub slots_descriptor : ℕ → ℕ
slots_descriptor k = k % 16 * 2 ^ 59

-- the entry at the place of base codes, of 32, and at that of slots, of 16 in each of four parts
abbrev pub codes_index : CodesPlace → ℕ
codes_index c = c.0 % 32

abbrev pub slots_index : SlotsPlace → ℕ → ℕ
slots_index c part = c.0 % 16 + part % 64 / 16 * 16
