-- The fields of a leaf as parts of its word, each by the definitions of this layer, and the tables of their words. Nothing here needs to be believed:
-- `word-law` of proofs/WordLaws ties it to the answers of single accesses. Assumes nothing.
use Rattle.std.specs.Prelude.{ℕ, ◌+◌, ◌*◌, ◌/◌, ◌%◌, ◌^◌, Bool, true, false, cond, not, ◌&&◌, ◌||◌, List, [], ◌∷◌, leb, ltb, get_or}
use Rattle.std.specs.Int.Bits.{bit_and, bit_or}
use Rattle.records.specs.Access.{access_of, six, has, has_right, digit}
use Rattle.records.specs.Bits.{bit}
use Rattle.records.specs.Descriptor.{stage1_of, stage2_of, limits_of, pi_index, po_index, code_at, slot_at}
use Rattle.records.specs.Mirror.Fields.{state_of, permissions_of}
use Rattle.records.specs.declared.access.Access.{Access}
use Rattle.records.specs.declared.access.Level.{Level}
use Rattle.records.specs.declared.access.Level.TheVariants.{Privileged, Unprivileged}
use Rattle.records.specs.declared.access.Right.{Right}
use Rattle.records.specs.declared.access.Right.TheVariants.{Read, Write, Execute}
use Rattle.records.specs.declared.access.Rights.{Rights}
use Rattle.records.specs.declared.descriptor.Limits.{Limits}
use Rattle.records.specs.declared.descriptor.Stage1.{Stage1}
use Rattle.records.specs.declared.descriptor.Stage2.{Stage2}
use Rattle.records.specs.declared.leaf.Leaf.{Leaf}
use Rattle.records.specs.declared.setup.Control.{Control}
use Rattle.records.specs.declared.setup.Setup.{Setup}
use Rattle.rights.specs.Direct.{ap, ap_one, limited, ap_table, execute_never, unprivileged_write, wxn, pan}
use Rattle.rights.specs.Indirect.{code_of}
use Rattle.rights.specs.Mirror.Words.{Word, Part, whole, joined, pairs}
use Rattle.rights.specs.Overlay.{slot_rights}
use Rattle.rights.specs.Stage1.{dirty}
use Rattle.rights.specs.Stage2.{xn_px, xn_ux}
use Rattle.rights.specs.Steps.{meet}
use Rattle.rights.specs.declared.indirect.Code.{Code}
use Rattle.rights.specs.declared.words.pair.Pair.{Pair}

abbrev pub same_level : Level → Level → Bool
same_level Privileged Privileged = true
same_level Privileged Unprivileged = false
same_level Unprivileged Privileged = false
same_level Unprivileged Unprivileged = true

abbrev pub executes : Right → Bool
executes Read = false
executes Write = false
executes Execute = true

-- valid, AF and dirty state of a stage whose faults have causes t and f; `kept` is whether base codes are judged before it
abbrev pub state_part : ℕ → ℕ → Bool → Bool → Bool → Bool → Part
state_part t f kept v a d = record {
  keeps = λ (x : Access). v && a;
  meets = λ (x : Access). (v && a) && d;
  cause = λ (x : Access). cond v f t;
  codes = λ (j : ℕ). kept || (v && a);
  known = true;
}

-- rights that a field keeps, with the causes of what it takes away
abbrev pub rights_part : Rights → (Access → ℕ) → Bool → Part
rights_part r cause codes = record { keeps = λ (x : Access). has r x; meets = λ (x : Access). false; cause = cause; codes = λ (j : ℕ). codes; known = true }

-- one cause for execution, another for reads and writes
abbrev pub by_right : ℕ → ℕ → Access → ℕ
by_right execution other x = cond (executes x.right) execution other

-- S2AP and XN, 10 for execution and 9 for reads and writes
abbrev pub stage2_part : Bool → Bool → ℕ → Part
stage2_part r w xn = rights_part (six r w (xn_px xn) r w (xn_ux xn)) (by_right 10 9) true

-- AP, PXN and UXN, 3 and 1; APTable, PXNTable and UXNTable, 4 and 2. With one level XN stands where PXN does with two, and AP gives no unprivileged right
abbrev pub descriptor_part : Bool → Bool → Bool → Bool → Bool → Part
descriptor_part two ap1 ap2 pxn uxn =
    rights_part (cond two (meet (ap ap2 ap1) (execute_never pxn uxn)) (meet (ap_one ap2) (execute_never uxn false)))
    (λ (x : Access). cond (two || same_level Privileged x.level) (by_right 3 1 x) 1) false

abbrev pub limits_part : Bool → Bool → Bool → Bool → Bool → Part
limits_part two t0 t1 pt ut =
    rights_part (cond two (meet (ap_table t1 t0) (execute_never pt ut)) (meet (ap_table t1 false) (execute_never ut false))) (by_right 4 2) true

-- the rights of which those steps read that read rights: pw and ur, and uw, which holds where both do
abbrev pub read_by : Bool → Bool → Rights
read_by pw ur = six true pw true ur (pw && ur) true

-- unprivileged write (5), WXN (6) and PAN (7)
abbrev pub last_part : Bool → Bool → Bool → Bool → Part
last_part pw w ur p = record {
  keeps = λ (x : Access). has (meet (unprivileged_write (pw && ur)) (meet (wxn w (read_by pw ur)) (pan p (read_by pw ur)))) x;
  meets = λ (x : Access). false;
  cause = λ (x : Access). cond (executes x.right) (cond (same_level Privileged x.level && (pw && ur)) 5 6) 7;
  codes = λ (j : ℕ). true;
  known = true;
}

-- a base code at a level, cause 1
abbrev pub code_has : Code → Right → Bool
code_has c Read = c.read
code_has c Write = c.write
code_has c Execute = c.execute

abbrev pub code_part : Level → Code → Part
code_part l c = record {
  keeps = λ (x : Access). not (same_level l x.level) || code_has c x.right;
  meets = λ (x : Access). false;
  cause = λ (x : Access). 1;
  codes = λ (j : ℕ). get_or (cond (same_level l Privileged) ((c.reserved || c.unjudged) ∷ true ∷ c.execute ∷ []) (true ∷ (c.reserved || c.unjudged) ∷ c.write ∷ [])) j false;
  known = true;
}

-- an overlay slot at a level, cause 8; from 8 on it is reserved
abbrev pub slot_part : Level → ℕ → Part
slot_part l v = record {
  keeps = λ (x : Access). not (same_level l x.level) || (not (leb 8 v) && has_right (slot_rights v) x.right);
  meets = λ (x : Access). same_level l x.level && leb 8 v;
  cause = λ (x : Access). 8;
  codes = λ (j : ℕ). true;
  known = true;
}

-- the tables: entry k is the part of field k
abbrev pub state_at : ℕ → ℕ → Bool → ℕ → Part
state_at t f kept k = state_part t f kept (bit k 0) (bit k 1) (bit k 2)

abbrev pub stage2_at : ℕ → Part
stage2_at k = stage2_part (bit k 0) (bit k 1) (k / 4)

abbrev pub last_at : ℕ → Part
last_at k = last_part (bit k 0) (bit k 1) (bit k 2) (bit k 3)

abbrev pub descriptor_at : Bool → ℕ → Part
descriptor_at two k = descriptor_part two (bit k 0) (bit k 1) (bit k 2) (bit k 3)

abbrev pub limits_at : Bool → ℕ → Part
limits_at two k = limits_part two (bit k 0) (bit k 1) (bit k 2) (bit k 3)

abbrev pub code_part_at : Level → ℕ → Part
code_part_at l k = code_part l (code_of k)

-- valid, AF and dirty state of stage 1 and of stage 2, S2AP and XN, the steps that read rights
unfoldable pub state1_words : List Pair
state1_words = pairs 8 (state_at 11 12 false)

unfoldable pub state2_words : List Pair
state2_words = pairs 8 (state_at 13 14 true)

unfoldable pub permissions2_words : List Pair
permissions2_words = pairs 16 stage2_at

unfoldable pub last_words : List Pair
last_words = pairs 16 last_at

-- slots of a level
unfoldable pub slot_words : Level → List Pair
slot_words l = pairs 16 (slot_part l)

-- base rights: under Indirect the codes of a level, under Direct the descriptor and the limits
unfoldable pub code_words : Level → List Pair
code_words l = pairs 16 (code_part_at l)

unfoldable pub descriptor_words : Bool → List Pair
descriptor_words two = pairs 16 (descriptor_at two)

unfoldable pub limits_words : Bool → List Pair
limits_words two = pairs 16 (limits_at two)

-- THE PASS AS THE CODE MAKES IT. What some fields keep and take away, before the word of what follows
unfoldable pub after : Pair → ℕ → ℕ
after p w = bit_or p.takes (bit_and p.keeps w)

-- the pair at index i of a table, and the same before what follows
abbrev pub nothing : Pair
nothing = record { keeps = 0; takes = 0 }

abbrev pub pair_at : List Pair → ℕ → Pair
pair_at t i = get_or t i nothing

abbrev pub join_at : List Pair → ℕ → ℕ → ℕ
join_at t i w = after (pair_at t i) w

abbrev pub whole_number : ℕ
whole_number = 0x7FFF000000000000

abbrev pub stage2_number : Bool → ℕ → ℕ
stage2_number on e = cond on (join_at state2_words (state_of 51 e) (join_at permissions2_words (permissions_of e) whole_number)) whole_number

-- the slot that counts: 7, which stops nothing, where no overlay applies
abbrev pub slot_if : Bool → ℕ → ℕ
slot_if on v = cond on (v % 16) 7

abbrev pub overlaid_number : ℕ → ℕ → ℕ → ℕ
overlaid_number p u w = join_at (slot_words Privileged) p (join_at (slot_words Unprivileged) u w)

abbrev pub slots_number : Setup → ℕ → Bool → Bool → ℕ → ℕ
slots_number s d p u w =
    cond (s.control.overlay.privileged || s.control.overlay.unprivileged)
    (overlaid_number (slot_if (s.control.overlay.privileged && p) (slot_at s.por.privileged (po_index d)))
    (slot_if (s.control.overlay.unprivileged && u) (slot_at s.por.unprivileged (po_index d))) w)
    w

-- limits, unless disabled
abbrev pub limits_if : Bool → ℕ → ℕ
limits_if unlimited t = cond unlimited 0 (t % 16)

-- pw, WXN, ur and PAN, where the rights that the fields before keep are bits 48 to 53 of m
abbrev pub last_index : Bool → Bool → ℕ → ℕ
last_index w p m = m / 2 ^ 49 % 2 + m / 2 ^ 51 % 2 * 4 + (digit w * 2 + digit p * 8)

unfoldable pub direct_number : Control → ℕ → ℕ → ℕ → ℕ
direct_number c d l w =
    let b = descriptor_words c.two in let t = limits_words c.two in let i = permissions_of d in let j = limits_if c.unlimited l in
    join_at b i (join_at t j (join_at last_words (last_index c.wxn c.pan (bit_and (pair_at b i).keeps (pair_at t j).keeps)) w))

-- the unprivileged code, which is not read with one level
abbrev pub code_if : Bool → ℕ → ℕ
code_if two u = cond two (u % 16) 0

unfoldable pub indirect_number : Setup → ℕ → ℕ → ℕ
indirect_number s d w =
    let p = code_at s.pir.privileged (pi_index d) % 16 in let u = code_at s.pir.unprivileged (pi_index d) in
    join_at (code_words Privileged) p (join_at (code_words Unprivileged) (code_if s.control.two u) (slots_number s d (ltb p 8) (ltb u 8) w))

unfoldable pub stage1_number : Setup → Leaf → ℕ → ℕ
stage1_number s f w =
    cond s.control.indirect (join_at state1_words (state_of 7 f.stage1) (indirect_number s f.stage1 w))
    (join_at state1_words (state_of 51 f.stage1) (direct_number s.control f.stage1 f.limits (slots_number s f.stage1 true true w)))

-- stage 1 off: no base code is read
unfoldable pub off_number : ℕ → ℕ
off_number w = bit_and 0x3F3FFFFFFFFFFFFF w

-- masks: all that a word has, what is judged with one level, and memory that is not known
abbrev pub all_mask : ℕ
all_mask = 0x7FFFFFFFFFFFFFFF

abbrev pub one_mask : ℕ
one_mask = 0x47C7000000FFFFFF

abbrev pub unknown_mask : ℕ
unknown_mask = 0x40FFFFFFFFFFFFFF

-- one level: the unprivileged accesses are not judged
unfoldable pub one_number : ℕ → ℕ
one_number w = bit_and one_mask w

abbrev pub levels_number : Bool → ℕ → ℕ
levels_number two w = cond two w (one_number w)

-- memory that is not known: no access is good
unfoldable pub unknown_number : ℕ → ℕ
unknown_number w = bit_and unknown_mask w

abbrev pub known_number : Bool → ℕ → ℕ
known_number known w = cond known w (unknown_number w)

unfoldable pub leaf_number : Setup → Leaf → ℕ
leaf_number s f =
    levels_number s.control.two
    (cond s.control.stage1 (stage1_number s f (stage2_number s.control.stage2 f.stage2)) (off_number (stage2_number s.control.stage2 f.stage2)))

-- THE WORD OF A LEAF, part by part
abbrev pub stage2_word : Bool → Stage2 → Word
stage2_word on e =
    cond on (joined (state_part 13 14 true e.valid e.af e.bit51) (joined (stage2_part e.read e.write e.xn) whole)) whole

abbrev pub slots_word : Setup → Stage1 → Bool → Bool → Word → Word
slots_word s d p u w =
    cond (s.control.overlay.privileged || s.control.overlay.unprivileged)
    (joined (slot_part Privileged (slot_if (s.control.overlay.privileged && p) (slot_at s.por.privileged d.poindex)))
    (joined (slot_part Unprivileged (slot_if (s.control.overlay.unprivileged && u) (slot_at s.por.unprivileged d.poindex))) w))
    w

abbrev pub direct_word : Bool → Bool → Part → Part → Word → Word
direct_word w p first second left =
    joined first (joined second (joined (last_part (first.keeps (access_of Privileged Write) && second.keeps (access_of Privileged Write)) w
    (first.keeps (access_of Unprivileged Read) && second.keeps (access_of Unprivileged Read)) p) left))

abbrev pub descriptor_of : Control → Stage1 → Part
descriptor_of c d = descriptor_part c.two d.ap1 d.ap2 d.pxn d.uxn

abbrev pub limits_part_of : Control → Limits → Part
limits_part_of c t =
    limits_part c.two (limited c t.aptable0) (limited c t.aptable1) (limited c t.pxntable) (limited c t.uxntable)

abbrev pub indirect_word : Setup → Stage1 → ℕ → ℕ → Word → Word
indirect_word s d p u w =
    joined (code_part_at Privileged p) (joined (code_part_at Unprivileged (code_if s.control.two u)) (slots_word s d (ltb p 8) (ltb u 8) w))

abbrev pub base_word : Setup → Stage1 → Limits → Word → Word
base_word s d t w =
    cond s.control.indirect
    (indirect_word s d (code_at s.pir.privileged d.piindex % 16) (code_at s.pir.unprivileged d.piindex) w)
    (direct_word s.control.wxn s.control.pan (descriptor_of s.control d) (limits_part_of s.control t) (slots_word s d true true w))

-- stage 1 off; and one level
abbrev pub off_part : Part
off_part = record { keeps = λ (x : Access). true; meets = λ (x : Access). false; cause = λ (x : Access). 0; codes = λ (j : ℕ). false; known = true }

abbrev pub one_part : Part
one_part = record { keeps = λ (x : Access). same_level Privileged x.level; meets = λ (x : Access). false; cause = λ (x : Access). 0; codes = λ (j : ℕ). true; known = true }

-- memory that is known, or not
abbrev pub known_part : Bool → Part
known_part k = record { keeps = λ (x : Access). true; meets = λ (x : Access). false; cause = λ (x : Access). 0; codes = λ (j : ℕ). true; known = k }

abbrev pub stages_word : Setup → Stage1 → Stage2 → Limits → Word
stages_word s d e t =
    cond s.control.stage1 (joined (state_part 11 12 false d.valid d.af (dirty s.control d)) (base_word s d t (stage2_word s.control.stage2 e)))
    (joined off_part (stage2_word s.control.stage2 e))

unfoldable pub leaf_word : Setup → Leaf → Word
leaf_word s f =
    let w = stages_word s (stage1_of f.stage1) (stage2_of f.stage2) (limits_of f.limits) in cond s.control.two w (joined one_part w)
