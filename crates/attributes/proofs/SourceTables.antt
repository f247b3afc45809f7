-- The tables of the sources, row by row, in their own terms: source 003's encoding of a MAIR byte and source 000's tables D8-96 to
-- D8-98, D8-100 to D8-103, with its rules on hints and on Outer Shareable. Written from the sources and not from the specs, whose
-- definitions `Sources` compares with them. Where a source leaves a choice, document 01 makes it: FEAT_MTE2, FEAT_MTE_PERM and FEAT_XS
-- are absent, reserved values give 8 or 9, and stage 1's Device or Non-cacheable memory is Outer Shareable as it goes into stage 2.
-- Table D8-99 is for FEAT_MTE_PERM and has no rows here. Assumes nothing.
use Prim.Native.Nat.{ℕ, ◌+◌, ◌*◌, ◌/◌, ◌%◌}
use mathlib.Core.List.{List, [], ◌∷◌}
use mathlib.Core.Bool.{Bool, true, false}
use lib.ListN.{get_or}
use Rattle.std.specs.Prelude.{Result, Ok, Err}
use Rattle.records.specs.declared.refusal.Refusal.{Refusal}
use Rattle.records.specs.declared.refusal.Refusal.TheVariants.{MemoryCode, ReservedSh}
use Rattle.attributes.specs.declared.Memory.{Memory}

-- what table D8-96 assigns to a level
pub data Cacheability : Type 0 where
  NonCacheable : Cacheability
  WriteThrough : Cacheability
  WriteBack : Cacheability

-- the Transient allocation hint, and the R and W bits as a number
pub data Hints : Type 0 where
  transient : ℕ → Hints
  non_transient : ℕ → Hints

-- a level of stage 1: Non-cacheable, or Write-Through or Write-Back with hints
pub data Level : Type 0 where
  NC : Level
  WT : Hints → Level
  Wb : Hints → Level

-- the Device memory types, from the strictest
pub data Device : Type 0 where
  nGnRnE : Device
  nGnRE : Device
  nGRE : Device
  GRE : Device

-- a memory type: a Device; Normal with its outer and inner level; or an encoding that is refused
pub data MemoryType : Type 0 where
  Dev : Device → MemoryType
  Normal : Level → Level → MemoryType
  Reserved : MemoryType

-- source 003, 'oooo' and 'iiii': 00RW (RW not 00), 0100, 01RW (RW not 00), 10RW, 11RW; 0000 is told by the whole byte
abbrev levels : List Level
levels =
    NC ∷ WT (transient 1) ∷ WT (transient 2) ∷ WT (transient 3) ∷
    NC ∷ Wb (transient 1) ∷ Wb (transient 2) ∷ Wb (transient 3) ∷
    WT (non_transient 0) ∷ WT (non_transient 1) ∷ WT (non_transient 2) ∷ WT (non_transient 3) ∷
    Wb (non_transient 0) ∷ Wb (non_transient 1) ∷ Wb (non_transient 2) ∷ Wb (non_transient 3) ∷ []

-- source 003, the bytes 0000 dd00, 0000 dd01 (FEAT_XS), 0000 dd1x
abbrev low_bytes : List MemoryType
low_bytes =
    Dev nGnRnE ∷ Reserved ∷ Reserved ∷ Reserved ∷ Dev nGnRE ∷ Reserved ∷ Reserved ∷ Reserved ∷
    Dev nGRE ∷ Reserved ∷ Reserved ∷ Reserved ∷ Dev GRE ∷ Reserved ∷ Reserved ∷ Reserved ∷ []

-- source 003, 'Attr': 0000 iiii as above; oooo 0000 is reserved or wants FEAT_XS or FEAT_MTE2; the rest is Normal
abbrev attr : ℕ → ℕ → MemoryType
attr o i = get_or (get_or low_bytes i Reserved ∷ []) o (get_or (Reserved ∷ []) i (Normal (get_or levels o NC) (get_or levels i NC)))

-- the memory type of a byte
abbrev encoding : ℕ → MemoryType
encoding b = attr (b / 16) (b % 16)

-- stage 2's type with FWB disabled
pub data Stage2Type : Type 0 where
  dev : Device → Stage2Type
  normal : Cacheability → Cacheability → Stage2Type
  reserved : Stage2Type

-- table D8-96
abbrev mem_attr : List Stage2Type
mem_attr =
    dev nGnRnE ∷ dev nGnRE ∷ dev nGRE ∷ dev GRE ∷
    reserved ∷ normal NonCacheable NonCacheable ∷ normal NonCacheable WriteThrough ∷ normal NonCacheable WriteBack ∷
    reserved ∷ normal WriteThrough NonCacheable ∷ normal WriteThrough WriteThrough ∷ normal WriteThrough WriteBack ∷
    reserved ∷ normal WriteBack NonCacheable ∷ normal WriteBack WriteThrough ∷ normal WriteBack WriteBack ∷ []

-- table D8-97, from its last rule to its first: No Early write acknowledge, Non-Reordering and Non-Gathering have precedence
abbrev devices_combined : Device → Device → Device
devices_combined nGnRnE e = nGnRnE
devices_combined nGnRE nGnRnE = nGnRnE
devices_combined nGnRE nGnRE = nGnRE
devices_combined nGnRE nGRE = nGnRE
devices_combined nGnRE GRE = nGnRE
devices_combined nGRE nGnRnE = nGnRnE
devices_combined nGRE nGnRE = nGnRE
devices_combined nGRE nGRE = nGRE
devices_combined nGRE GRE = nGRE
devices_combined GRE e = e

-- table D8-98, the hints by rule R_WYQVN: stage 1's
abbrev levels_combined : Level → Cacheability → Level
levels_combined NC c = NC
levels_combined (WT h) NonCacheable = NC
levels_combined (WT h) WriteThrough = WT h
levels_combined (WT h) WriteBack = WT h
levels_combined (Wb h) NonCacheable = NC
levels_combined (Wb h) WriteThrough = WT h
levels_combined (Wb h) WriteBack = Wb h

-- tables D8-97 and D8-98 together: Device has precedence over Normal
abbrev combined_disabled : MemoryType → Stage2Type → MemoryType
combined_disabled Reserved t = Reserved
combined_disabled (Dev d) reserved = Reserved
combined_disabled (Normal o i) reserved = Reserved
combined_disabled (Dev d) (dev e) = Dev (devices_combined d e)
combined_disabled (Normal o i) (dev e) = Dev e
combined_disabled (Dev d) (normal p j) = Dev d
combined_disabled (Normal o i) (normal p j) = Normal (levels_combined o p) (levels_combined i j)

-- table D8-101, MemAttr[1:0] 10 at a level; rules R_THYXB and R_TBQKG: stage 1's hints, else Read-Allocate, Write-Allocate, Non-transient
abbrev level_forced : Level → Level
level_forced NC = Wb (non_transient 3)
level_forced (WT h) = Wb h
level_forced (Wb h) = Wb h

-- table D8-101, rows 01, 10 and 11 of MemAttr[1:0]
abbrev uncached_row : MemoryType → MemoryType
uncached_row Reserved = Reserved
uncached_row (Dev d) = Dev d
uncached_row (Normal o i) = Normal NC NC

abbrev forced_row : MemoryType → MemoryType
forced_row Reserved = Reserved
forced_row (Dev d) = Normal (Wb (non_transient 3)) (Wb (non_transient 3))
forced_row (Normal o i) = Normal (level_forced o) (level_forced i)

-- tables D8-100 and D8-101 in the order of MemAttr[3:0]; MemAttr[3] is RES0 without FEAT_MTE_PERM, and document 01 gives 8 where it is set
abbrev combined_enabled : MemoryType → ℕ → MemoryType
combined_enabled t m =
    get_or
    (combined_disabled t (dev nGnRnE) ∷ combined_disabled t (dev nGnRE) ∷ combined_disabled t (dev nGRE) ∷ combined_disabled t (dev GRE) ∷
    Reserved ∷ uncached_row t ∷ forced_row t ∷ t ∷ [])
    m Reserved

-- the resultant memory type with FWB disabled or enabled
abbrev combined_type : Bool → MemoryType → ℕ → MemoryType
combined_type false t m = combined_disabled t (get_or mem_attr m reserved)
combined_type true t m = combined_enabled t m

-- rules R_PYFVQ and R_WLQYW: Device memory, and Normal Inner Non-cacheable, Outer Non-cacheable
abbrev outer_always : MemoryType → Bool
outer_always Reserved = false
outer_always (Dev d) = true
outer_always (Normal NC NC) = true
outer_always (Normal NC (WT h)) = false
outer_always (Normal NC (Wb h)) = false
outer_always (Normal (WT h) i) = false
outer_always (Normal (Wb h) i) = false

-- rule R_YHCTP, of stage 2's own type in the order of MemAttr: a Device or Non-cacheable at both levels, with FWB enabled or disabled
abbrev outer_always2 : List Bool
outer_always2 = true ∷ true ∷ true ∷ true ∷ false ∷ true ∷ []

-- by source 003, the bits of a nibble that its hints are
abbrev hint_bits : Hints → ℕ
hint_bits (transient n) = n
hint_bits (non_transient n) = 8 + n

-- a level's nibble
abbrev level_bits : Level → ℕ
level_bits NC = 4
level_bits (WT h) = hint_bits h
level_bits (Wb h) = 4 + hint_bits h

-- the combination of a byte and MemAttr: refused, or a byte with whether stage 1's type, stage 2's and the result are Outer Shareable always
pub data Typed : Type 0 where
  refused : Typed
  typed : ℕ → Bool → Bool → Bool → Typed

-- by source 003, the byte of a Device
abbrev device_bits : Device → ℕ
device_bits nGnRnE = 0
device_bits nGnRE = 4
device_bits nGRE = 8
device_bits GRE = 12

-- a resultant type, where stage 1's type is Outer Shareable always (u) and stage 2's is (v)
abbrev typed_as : Bool → Bool → MemoryType → Typed
typed_as u v Reserved = refused
typed_as u v (Dev d) = typed (device_bits d) u v true
typed_as u v (Normal o i) = typed (16 * level_bits o + level_bits i) u v (outer_always (Normal o i))

-- what the tables say of a byte and MemAttr
unfoldable pub typed_in : Bool → ℕ → ℕ → Typed
typed_in fwb b m = typed_as (outer_always (encoding b)) (get_or outer_always2 m false) (combined_type fwb (encoding b) m)

-- what SH[1:0] assigns
pub data Shareability : Type 0 where
  NonShareable : Shareability
  OuterShareable : Shareability
  InnerShareable : Shareability
  ReservedSH : Shareability

-- the table of SH[1:0], the same at stage 1 and, as table D8-102, at stage 2
abbrev shareability : List Shareability
shareability = NonShareable ∷ ReservedSH ∷ OuterShareable ∷ InnerShareable ∷ []

-- table D8-103, and 9 for a reserved SH at either stage
abbrev shareability_combined : Shareability → Shareability → Shareability
shareability_combined ReservedSH b = ReservedSH
shareability_combined OuterShareable ReservedSH = ReservedSH
shareability_combined InnerShareable ReservedSH = ReservedSH
shareability_combined NonShareable ReservedSH = ReservedSH
shareability_combined OuterShareable NonShareable = OuterShareable
shareability_combined OuterShareable OuterShareable = OuterShareable
shareability_combined OuterShareable InnerShareable = OuterShareable
shareability_combined InnerShareable OuterShareable = OuterShareable
shareability_combined InnerShareable InnerShareable = InnerShareable
shareability_combined InnerShareable NonShareable = InnerShareable
shareability_combined NonShareable OuterShareable = OuterShareable
shareability_combined NonShareable InnerShareable = InnerShareable
shareability_combined NonShareable NonShareable = NonShareable

-- Outer Shareable where a type is that always; a reserved SH stays reserved
abbrev treated : Bool → Shareability → Shareability
treated false s = s
treated true NonShareable = OuterShareable
treated true OuterShareable = OuterShareable
treated true InnerShareable = OuterShareable
treated true ReservedSH = ReservedSH

-- the answer with byte b and a shareability
abbrev answered : ℕ → Shareability → Result Memory Refusal
answered b NonShareable = Ok (record { byte = b; sh = 0 })
answered b OuterShareable = Ok (record { byte = b; sh = 2 })
answered b InnerShareable = Ok (record { byte = b; sh = 3 })
answered b ReservedSH = Err ReservedSh

-- what the tables say once the types are known, with SH x at stage 1 and y at stage 2
unfoldable pub answer_in : Typed → ℕ → ℕ → Result Memory Refusal
answer_in refused x y = Err MemoryCode
answer_in (typed b u v w) x y =
    answered b
    (treated w
    (shareability_combined (treated u (get_or shareability x ReservedSH)) (treated v (get_or shareability y ReservedSH))))
