-- Fields of a descriptor as one number each. Nothing here needs to be believed: the laws of proofs/FieldLaws tie their bits to the fields of
-- specs/Descriptor. Assumes nothing.
use Rattle.std.specs.Prelude.{ℕ, ◌+◌, ◌*◌}
use Rattle.records.specs.Bits.{field}
use Rattle.records.specs.Descriptor.{attr_indx}

-- valid, AF and bit k, which tells dirty state
abbrev pub state_of : ℕ → ℕ → ℕ
state_of k d = field d 0 1 + field d 10 1 * 2 + field d k 1 * 4

-- AP[2:1], PXN and UXN; S2AP and XN
abbrev pub permissions_of : ℕ → ℕ
permissions_of d = field d 6 2 + field d 53 2 * 4

-- AttrIndx, all four bits
abbrev pub attr_indx_of : ℕ → ℕ
attr_indx_of d = attr_indx d + field d 59 1 * 8
