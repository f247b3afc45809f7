-- The words of a leaf by groups of fields that stand side by side in a descriptor, for lists that are long enough to make tables of them: an entry of a group's
-- table is the pair of its fields, one before the other, at the bits that are the entry's number. Nothing here needs to be believed: `stage2-groups`,
-- `slots-groups`, `direct-groups`, `indirect-groups`, `off-groups` and `leaf-groups` of proofs/GroupedStages say that they give the number of a leaf's word. Assumes nothing.
use Rattle.std.specs.Prelude.{ℕ, ◌+◌, ◌*◌, ◌/◌, ◌%◌, ◌<◌, ◌≡◌, Bool, true, false, cond, ◌&&◌, ◌||◌, List, Option, Some, None, is_some, eqb, ltb, get_or}
use Rattle.std.specs.Option.{ForSome}
use Rattle.std.specs.Int.Bits.{bit_and, bit_or}
use Rattle.records.specs.Descriptor.{pi_index, po_index, code_at, slot_at}
use Rattle.records.specs.Mirror.Places.{codes_descriptor, slots_descriptor, codes_index, slots_index}
use Rattle.records.specs.declared.access.Level.TheVariants.{Privileged, Unprivileged}
use Rattle.records.specs.declared.descriptor.fields.ByMemory.{ByMemory}
use Rattle.records.specs.declared.descriptor.places.Places.{Places}
use Rattle.records.specs.declared.descriptor.places.SlotsPlace.{SlotsPlace}
use Rattle.records.specs.declared.setup.Control.{Control}
use Rattle.records.specs.declared.setup.Setup.{Setup}
use Rattle.rights.specs.Mirror.Parts.{all_mask, one_mask, unknown_mask, state1_words, state2_words, permissions2_words, last_words, slot_words, code_words, descriptor_words, limits_words}
use Rattle.rights.specs.Mirror.Parts.{after, pair_at, join_at, whole_number, slot_if, limits_if, last_index, code_if, off_number, levels_number}
use Rattle.rights.specs.declared.words.groups.DirectGroups.{DirectGroups}
use Rattle.rights.specs.declared.words.groups.IndirectGroups.{IndirectGroups}
use Rattle.rights.specs.declared.words.groups.OffGroups.{OffGroups}
use Rattle.rights.specs.declared.words.groups.Stage2Groups.{Stage2Groups}
use Rattle.rights.specs.declared.words.pair.Pair.{Pair}
use Rattle.rights.specs.declared.words.pair.Table.{Table}

-- fields before others
unfoldable pub before : Pair → Pair → Pair
before p q = record { keeps = bit_and p.keeps q.keeps; takes = bit_or p.takes (bit_and p.keeps q.takes) }

-- what is left under a mask
unfoldable pub masked : Pair → ℕ → Pair
masked p m = record { keeps = bit_and m p.keeps; takes = bit_and m p.takes }

-- the masks: by whether the memory is refused, and by the levels
abbrev pub known_mask : Bool → ℕ
known_mask refused = cond refused unknown_mask all_mask

abbrev pub levels_mask : Bool → ℕ
levels_mask two = cond two all_mask one_mask

-- the groups, where t is the table of a stage's states and m has what is refused of the stage's memory. The state by valid, AF and dirty state
abbrev pub state_at : List Pair → ℕ → ℕ → ℕ → Pair
state_at t valid af dirty = pair_at t (valid + af * 2 + dirty * 4)

-- valid, with AttrIndx or MemAttr
abbrev pub low_pair : List Pair → ByMemory → ℕ → ℕ → Pair
low_pair t m mask k = masked (masked (state_at t (k % 2) 1 0) (known_mask (get_or m.kind (k / 4) false))) mask

-- AF with SH
abbrev pub flag_pair : List Pair → ByMemory → ℕ → Pair
flag_pair t m k = masked (state_at t 1 (k / 4) 0) (known_mask (get_or m.sh (k % 4) false))

-- AF with SH and dirty state, under Indirect
abbrev pub state_pair : ByMemory → ℕ → Pair
state_pair m k = masked (before (state_at state1_words 1 (k / 8) 0) (state_at state1_words 1 1 (k % 2))) (known_mask (get_or m.sh (k / 2 % 4) false))

-- dirty state with execute never, where b is the table of execute never with AP or S2AP, and the latter is a
abbrev pub never_pair : List Pair → List Pair → ℕ → ℕ → Pair
never_pair t b a k = before (state_at t 1 1 (k % 2)) (pair_at b (a + k / 4 * 4))

-- S2AP, the last field
abbrev pub s2ap_word : ℕ → ℕ
s2ap_word k = join_at permissions2_words k whole_number

-- AP with the limits and the steps that read rights
abbrev pub limits_pair : Control → ℕ → Pair
limits_pair c k =
    let p = pair_at (descriptor_words c.two) (k % 4) in let q = pair_at (limits_words c.two) (limits_if c.unlimited (k / 4)) in
    before p (before q (pair_at last_words (last_index c.wxn c.pan (bit_and p.keeps q.keeps))))

-- the codes of both levels that the descriptor of an entry picks
abbrev pub codes_pair : Setup → ℕ → Pair
codes_pair s k =
    let i = pi_index (codes_descriptor k) in
    before (pair_at (code_words Privileged) (code_at s.pir.privileged i % 16)) (pair_at (code_words Unprivileged) (code_if s.control.two (code_at s.pir.unprivileged i)))

-- the part of the table of slots, by whether overlays apply to the codes of either level
abbrev pub part_of : Bool → Bool → ℕ
part_of p u = cond p 16 0 + cond u 32 0

abbrev pub applies_at : Setup → ℕ → ℕ
applies_at s k = let i = pi_index (codes_descriptor k) in part_of (ltb (code_at s.pir.privileged i % 16) 8) (ltb (code_at s.pir.unprivileged i) 8)

-- the slots of both levels that the descriptor of an entry picks
abbrev pub slots_pair : Setup → ℕ → Pair
slots_pair s k =
    let i = po_index (slots_descriptor k) in
    before (pair_at (slot_words Privileged) (slot_if (s.control.overlay.privileged && eqb (k / 16 % 2) 1) (slot_at s.por.privileged i)))
    (pair_at (slot_words Unprivileged) (slot_if (s.control.overlay.unprivileged && eqb (k / 32) 1) (slot_at s.por.unprivileged i)))

-- an overlay is on
abbrev pub overlaid : Setup → Bool
overlaid s = s.control.overlay.privileged || s.control.overlay.unprivileged

-- the pair of entry k of a table, and the same before what follows
abbrev pub pair_in : {n : ℕ} → Table n → ℕ → Pair
pair_in t k = record { keeps = get_or t.keeps k 0; takes = get_or t.takes k 0 }

abbrev pub join_in : {n : ℕ} → Table n → ℕ → ℕ → ℕ
join_in t k w = after (pair_in t k) w

-- a table of n entries
abbrev pub Grouped : (n : ℕ) → (ℕ → Pair) → Table n → Type 0
Grouped n f g = (k : ℕ) → k < n → pair_in g k ≡ f k

-- the table of slots, which is made where an overlay is on
abbrev pub SlotsGrouped : Setup → Option (Table 64) → Type 0
SlotsGrouped s (Some g) = (overlaid s ≡ true) × Grouped 64 (slots_pair s) g
SlotsGrouped s None = overlaid s ≡ false

-- the groups of stage 2, and of stage 1 under Direct and under Indirect
pub record IsStage2 (m : ByMemory) (g : Stage2Groups) : Type 0 where
  pub low : Grouped 64 (low_pair state2_words m (levels_mask true)) g.low
  pub flags : Grouped 8 (flag_pair state2_words m) g.flags
  pub never : Grouped 16 (never_pair state2_words permissions2_words 3) g.never
  pub s2ap : (k : ℕ) → k < 4 → get_or g.s2ap k 0 ≡ s2ap_word k

-- those of stage 2, which are made where the stage is on
abbrev pub IsStage2If : ByMemory → Bool → Option Stage2Groups → Type 0
IsStage2If m on g = (is_some g ≡ on) × ForSome g (IsStage2 m)

pub record IsDirect (s : Setup) (m : ByMemory) (g : DirectGroups) : Type 0 where
  pub low : Grouped 64 (low_pair state1_words m (levels_mask s.control.two)) g.low
  pub flags : Grouped 8 (flag_pair state1_words m) g.flags
  pub never : Grouped 16 (never_pair state1_words (descriptor_words s.control.two) 1) g.never
  pub limits : Grouped 64 (limits_pair s.control) g.limits
  pub slots : SlotsGrouped s g.slots

pub record IsIndirect (s : Setup) (m : ByMemory) (g : IndirectGroups) : Type 0 where
  pub low : Grouped 64 (low_pair state1_words m (levels_mask s.control.two)) g.low
  pub state : Grouped 16 (state_pair m) g.state
  pub codes : Grouped 32 (codes_pair s) g.codes
  pub applies : (k : ℕ) → k < 32 → get_or g.applies k 0 ≡ applies_at s k
  pub slots : SlotsGrouped s g.slots

-- THE PASS BY GROUPS as the code makes it. Stage 2 at places e of its descriptor
unfoldable pub stage2_at : Stage2Groups → Places → ℕ
stage2_at g e = join_in g.low (e.low2 % 64) (join_in g.flags (e.flags % 8) (join_in g.never (e.never % 16) (get_or g.s2ap (e.ap % 4) 0)))

abbrev pub stage2_grouped : Option Stage2Groups → Places → ℕ
stage2_grouped (Some g) e = stage2_at g e
stage2_grouped None e = whole_number

-- the slots, at a place in a part
abbrev pub slots_grouped : Option (Table 64) → SlotsPlace → ℕ → ℕ → ℕ
slots_grouped (Some g) d part w = join_in g (slots_index d part) w
slots_grouped None d part w = w

-- stage 1 under Direct, with limits l, before the word of stage 2: 48 is the part of the slots where overlays apply to the rights of both levels
unfoldable pub direct_grouped : DirectGroups → Places → ℕ → ℕ → ℕ
direct_grouped g d l w =
    join_in g.low (d.low1 % 64) (join_in g.flags (d.flags % 8) (join_in g.never (d.never % 16) (join_in g.limits (d.ap % 4 + l % 16 * 4) (slots_grouped g.slots d.slots 48 w))))

-- stage 1 under Indirect, whose words read no limits
unfoldable pub indirect_grouped : IndirectGroups → Places → ℕ → ℕ → ℕ
indirect_grouped g d l w =
    let c = codes_index d.codes in
    join_in g.low (d.low1 % 64) (join_in g.state (d.state % 16) (join_in g.codes c (slots_grouped g.slots d.slots (get_or g.applies c 0) w)))

-- stage 1 off
abbrev pub off_grouped : OffGroups → Places → ℕ → ℕ → ℕ
off_grouped g d l w = levels_number g.two (off_number w)
