-- Document 01, 'Setup and leaf records': limits, and the fields of a stage 1 and a stage 2 descriptor.
-- A definition for each field that the paper names; no other bit of a descriptor is read. Assumes nothing.
use Rattle.std.specs.Prelude.{ℕ, ◌+◌, ◌*◌, ◌%◌, Bool, List, get_or}
use Rattle.records.specs.Bits.{bit, field, nibble}
use Rattle.records.specs.declared.descriptor.index.PIIndex.{PIIndex}
use Rattle.records.specs.declared.descriptor.index.POIndex.{POIndex}
use Rattle.records.specs.declared.descriptor.Limits.{Limits}
use Rattle.records.specs.declared.descriptor.Stage1.{Stage1}
use Rattle.records.specs.declared.descriptor.Stage2.{Stage2}

-- the limits byte: bits 1:0 APTable, 2 PXNTable, 3 UXNTable (XNTable with one level)
unfoldable pub limits_of : ℕ → Limits
limits_of l = record { aptable0 = bit l 0; aptable1 = bit l 1; pxntable = bit l 2; uxntable = bit l 3 }

-- bits that the descriptors of both stages have: 0 valid, 9:8 SH, 10 AF
abbrev pub valid : ℕ → Bool
valid d = bit d 0

abbrev pub sh : ℕ → ℕ
sh d = field d 8 2

abbrev pub af : ℕ → Bool
af d = bit d 10

-- stage 1: 4:2 AttrIndx[2:0], 59 AttrIndx[3]
abbrev pub attr_indx : ℕ → ℕ
attr_indx d = field d 2 3

abbrev pub attr_indx3 : ℕ → Bool
attr_indx3 d = bit d 59

-- stage 1: 7:6 AP[2:1]
abbrev pub ap1 : ℕ → Bool
ap1 d = bit d 6

abbrev pub ap2 : ℕ → Bool
ap2 d = bit d 7

-- stage 1: 53 PXN, 54 UXN (XN with one level)
abbrev pub pxn : ℕ → Bool
pxn d = bit d 53

abbrev pub uxn : ℕ → Bool
uxn d = bit d 54

-- stage 1: PIIndex, bits 3 to 0, is descriptor bits 54, 53, 51, 6
abbrev pub pi_index : ℕ → PIIndex
pi_index d = record { 0 = field d 54 1 * 8 + field d 53 1 * 4 + field d 51 1 * 2 + field d 6 1 }

-- stage 1: 62:60 POIndex
abbrev pub po_index : ℕ → POIndex
po_index d = record { 0 = field d 60 3 }

-- the bits that 'Dirty state' names beside those above: 51 under Direct and at stage 2, 7 under Indirect
abbrev pub bit51 : ℕ → Bool
bit51 d = bit d 51

abbrev pub bit7 : ℕ → Bool
bit7 d = bit d 7

-- stage 2: 5:2 MemAttr
abbrev pub mem_attr : ℕ → ℕ
mem_attr d = field d 2 4

-- stage 2: 7:6 S2AP, bit 0 for reads and bit 1 for writes
abbrev pub s2ap_read : ℕ → Bool
s2ap_read d = bit d 6

abbrev pub s2ap_write : ℕ → Bool
s2ap_write d = bit d 7

-- stage 2: 54:53 XN
abbrev pub xn : ℕ → ℕ
xn d = field d 53 2

-- the fields of a stage 1 descriptor
unfoldable pub stage1_of : ℕ → Stage1
stage1_of d = record {
  valid = valid d;
  attrindx = attr_indx d;
  ap1 = ap1 d;
  ap2 = ap2 d;
  sh = sh d;
  af = af d;
  pxn = pxn d;
  uxn = uxn d;
  attrindx3 = attr_indx3 d;
  piindex = pi_index d;
  poindex = po_index d;
  bit7 = bit7 d;
  bit51 = bit51 d;
}

-- the fields of a stage 2 descriptor
unfoldable pub stage2_of : ℕ → Stage2
stage2_of d = record {
  valid = valid d;
  memattr = mem_attr d;
  read = s2ap_read d;
  write = s2ap_write d;
  sh = sh d;
  af = af d;
  xn = xn d;
  bit51 = bit51 d;
}

-- the place of the base code that a PIIndex picks, 0 to 15; the code in a PIR, and the entry of a table that has one for each place
abbrev pub code_place : PIIndex → ℕ
code_place i = i.0 % 16

abbrev pub code_at : ℕ → PIIndex → ℕ
code_at pir i = nibble pir (code_place i)

abbrev pub entry_of : {A : Type 0} → A → List A → PIIndex → A
entry_of other t i = get_or t (code_place i) other

-- the place of the overlay slot that a POIndex picks, 0 to 7, and the slot in a POR
abbrev pub place_of : POIndex → ℕ
place_of i = i.0 % 8

abbrev pub slot_at : ℕ → POIndex → ℕ
slot_at por i = nibble por (place_of i)
