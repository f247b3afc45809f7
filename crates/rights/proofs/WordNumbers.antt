-- The number that the code makes of a leaf is that of the leaf's word. Assumes nothing.
use mathlib.Core.Path.{◌≡◌, refl, sym, ap, ap₂, ◌∙◌}
use mathlib.Core.Bool.{Bool, true, false, cond, not, ◌&&◌, ◌||◌, and-true, and-false}
use mathlib.Core.List.{List, [], ◌∷◌}
use Prim.Native.Nat.{ℕ, ◌+◌, ◌*◌, ◌/◌, ◌%◌, ◌^◌, ◌<◌}
use native.Mathlib.Nat.{zero-add}
use native.Mathlib.Omega.{arith}
use lib.Bits.{bit_and, bit_or, or_zero_l}
use lib.Dec.{ltb}
use lib.ListN.{get_or, take, drop}
use borrow.Author.Tests.{ltb-true}
use Rattle.records.proofs.BitLaws.{ands, and-bits, low_bits, high_bits}
use Rattle.records.proofs.Cases.{each}
use Rattle.records.proofs.FieldLaws.{state-bits, permission-bits, limit-bits}
use Rattle.records.specs.Access.{access_of, digit}
use Rattle.records.specs.Bits.{bit}
use Rattle.records.specs.Descriptor.{stage1_of, stage2_of, limits_of, pi_index, po_index, code_at, slot_at}
use Rattle.records.specs.Mirror.BitLists.{bits}
use Rattle.records.specs.Mirror.Fields.{state_of, permissions_of}
use Rattle.records.specs.declared.access.Level.TheVariants.{Privileged, Unprivileged}
use Rattle.records.specs.declared.access.Right.TheVariants.{Read, Write}
use Rattle.records.specs.declared.leaf.Leaf.{Leaf}
use Rattle.records.specs.declared.setup.Control.{Control}
use Rattle.records.specs.declared.setup.Setup.{Setup}
use Rattle.rights.specs.Mirror.Parts.{state_part, stage2_part, limits_part, last_part, slot_part, state_at, stage2_at, last_at, descriptor_at, limits_at, code_part_at, one_mask, unknown_mask}
use Rattle.rights.specs.Mirror.Parts.{state1_words, state2_words, permissions2_words, last_words, slot_words, code_words, descriptor_words, limits_words, after, pair_at, join_at}
use Rattle.rights.specs.Mirror.Parts.{whole_number, stage2_number, slot_if, slots_number, limits_if, last_index, direct_number}
use Rattle.rights.specs.Mirror.Parts.{code_if, indirect_number, stage1_number, off_number, one_number, levels_number, unknown_number, known_number, leaf_number}
use Rattle.rights.specs.Mirror.Parts.{stage2_word, slots_word, direct_word, descriptor_of, limits_part_of, indirect_word, base_word, off_part, one_part, known_part, stages_word, leaf_word}
use Rattle.rights.specs.Mirror.Words.{Word, Part, whole, joined, keep_bits, number_of, keep_of, take_of, pair_of}
use Rattle.rights.specs.Stage1.{dirty}
use Rattle.rights.specs.declared.words.pair.Pair.{Pair}
use Rattle.rights.proofs.Joins.{join-law, pair-law, entry, join-at}

number-cond : (b : Bool) (x y : Word) → cond b (number_of x) (number_of y) ≡ number_of (cond b x y)
number-cond true x y = refl
number-cond false x y = refl

pub whole-number : whole_number ≡ number_of whole
unfolding number_of
whole-number = refl

-- valid, AF and dirty state
state-is : (t f k d : ℕ) (kept : Bool) → state_at t f kept (state_of k d) ≡ state_part t f kept (bit d 0) (bit d 10) (bit d k)
state-is t f k d kept = let e = state-bits k d in rw (e.0, e.1, e.2)

state-low : (k d : ℕ) → state_of k d < 8
state-low k d = low (d / 2 ^ 0) (d / 2 ^ 10) (d / 2 ^ k)
  where
    low : (x y z : ℕ) → x % 2 ^ 1 + y % 2 ^ 1 * 2 + z % 2 ^ 1 * 4 < 8
    low x y z = omega arith

at-state1 : (k d : ℕ) (w : Word) → join_at state1_words (state_of k d) (number_of w) ≡ number_of (joined (state_part 11 12 false (bit d 0) (bit d 10) (bit d k)) w)
unfolding state1_words
at-state1 k d w = join-at 8 (state_at 11 12 false) (state_of k d) (state-low k d) w ∙ ap (λ (p : Part). number_of (joined p w)) (state-is 11 12 k d false)

at-state2 : (d : ℕ) (w : Word) → join_at state2_words (state_of 51 d) (number_of w) ≡ number_of (joined (state_part 13 14 true (bit d 0) (bit d 10) (bit d 51)) w)
unfolding state2_words
at-state2 d w = join-at 8 (state_at 13 14 true) (state_of 51 d) (state-low 51 d) w ∙ ap (λ (p : Part). number_of (joined p w)) (state-is 13 14 51 d true)

-- stage 2
permissions-low : (d : ℕ) → permissions_of d < 16
permissions-low d = low (d / 2 ^ 6) (d / 2 ^ 53)
  where
    low : (x y : ℕ) → x % 2 ^ 2 + y % 2 ^ 2 * 4 < 16
    low x y = omega arith

at-stage2 : (e : ℕ) (w : Word)
    → join_at permissions2_words (permissions_of e) (number_of w) ≡ number_of (joined (stage2_part (stage2_of e).read (stage2_of e).write (stage2_of e).xn) w)
unfolding permissions2_words stage2_of
at-stage2 e w = let b = permission-bits e in join-at 16 stage2_at (permissions_of e) (permissions-low e) w ∙ rw (b.0, b.1, b.4)

stage2-number : (on : Bool) (e : ℕ) → stage2_number on e ≡ number_of (stage2_word on (stage2_of e))
unfolding stage2_of
stage2-number false e = whole-number
stage2-number true e =
    ap (λ (n : ℕ). join_at state2_words (state_of 51 e) (join_at permissions2_words (permissions_of e) n)) whole-number
    ∙ ap (join_at state2_words (state_of 51 e)) (at-stage2 e whole)
    ∙ at-state2 e (joined (stage2_part (stage2_of e).read (stage2_of e).write (stage2_of e).xn) whole)

-- overlay slots
pub slot-low : (on : Bool) (v : ℕ) → slot_if on v < 16
slot-low true v = omega arith
slot-low false v = omega arith

at_slots : (p u : ℕ) (w : Word) → p < 16 → u < 16
    → join_at (slot_words Privileged) p (join_at (slot_words Unprivileged) u (number_of w)) ≡ number_of (joined (slot_part Privileged p) (joined (slot_part Unprivileged u) w))
unfolding slot_words
at_slots p u w h g =
    ap (join_at (slot_words Privileged) p) (join-at 16 (slot_part Unprivileged) u g w) ∙ join-at 16 (slot_part Privileged) p h (joined (slot_part Unprivileged u) w)

slots-number : (s : Setup) (d : ℕ) (p u : Bool) (w : Word) → slots_number s d p u (number_of w) ≡ number_of (slots_word s (stage1_of d) p u w)
unfolding stage1_of
slots-number s d p u w =
    ap (λ (n : ℕ). cond (s.control.overlay.privileged || s.control.overlay.unprivileged) n (number_of w))
    (at_slots _ _ w (slot-low (s.control.overlay.privileged && p) (slot_at s.por.privileged (po_index d))) (slot-low (s.control.overlay.unprivileged && u) (slot_at s.por.unprivileged (po_index d))))
    ∙ number-cond (s.control.overlay.privileged || s.control.overlay.unprivileged) _ w

-- Direct
limits-low : (b : Bool) (t : ℕ) → limits_if b t < 16
limits-low true t = omega arith
limits-low false t = omega arith

module _ (c : Control) (d t : ℕ) where
  abbrev first : Part
  first = descriptor_of c (stage1_of d)

  abbrev second : Part
  second = limits_part_of c (limits_of t)

  first-is : descriptor_at c.two (permissions_of d) ≡ first
  unfolding stage1_of
  first-is = let b = permission-bits d in rw (b.0, b.1, b.2, b.3)

  second_is : limits_at c.two (limits_if c.unlimited t) ≡ second
  unfolding limits_of
  second_is = go c.unlimited
    where
      go : (b : Bool) → limits_at c.two (limits_if b t) ≡ limits_part c.two (bit t 0 && not b) (bit t 1 && not b) (bit t 2 && not b) (bit t 3 && not b)
      go true = rw (and-false (bit t 0), and-false (bit t 1), and-false (bit t 2), and-false (bit t 3))
      go false = let b = limit-bits t in rw (b.0, b.1, b.2, b.3, and-true (bit t 0), and-true (bit t 1), and-true (bit t 2), and-true (bit t 3))

  -- a right that two parts keep, read from their words
  right-bit : (p q : Part) (k : ℕ) (b : Bool) → take 1 (drop k (ands (keep_bits p) (keep_bits q))) ≡ b ∷ [] → bit_and (keep_of p) (keep_of q) / 2 ^ k % 2 ≡ digit b
  unfolding keep_of
  right-bit p q k b e =
      ap (λ (n : ℕ). n / 2 ^ k % 2) (and-bits (keep_bits p) (keep_bits q)) ∙ ap (λ (n : ℕ). n % 2 ^ 1) (high_bits k (ands (keep_bits p) (keep_bits q)))
      ∙ low_bits 1 (drop k (ands (keep_bits p) (keep_bits q))) ∙ ap bits e ∙ zero-add (digit b)

  last-is : (pw w ur p : Bool) → last_at (digit pw + digit ur * 4 + (digit w * 2 + digit p * 8)) ≡ last_part pw w ur p
  last-is pw w ur p =
      each (pw ∷ w ∷ ur ∷ p ∷ []) (λ (m : List Bool). last_at (digit (get_or m 0 false) + digit (get_or m 2 false) * 4 + (digit (get_or m 1 false) * 2 + digit (get_or m 3 false) * 8)))
      (λ (m : List Bool). last_part (get_or m 0 false) (get_or m 1 false) (get_or m 2 false) (get_or m 3 false)) refl

  module _ (w : Word) where
    abbrev i : ℕ
    i = permissions_of d

    abbrev j : ℕ
    j = limits_if c.unlimited t

    first_pair : pair_at (descriptor_words c.two) i ≡ pair_of first
    unfolding descriptor_words
    first_pair = entry 16 (descriptor_at c.two) i (permissions-low d) ∙ ap pair_of first-is

    second_pair : pair_at (limits_words c.two) j ≡ pair_of second
    unfolding limits_words
    second_pair = entry 16 (limits_at c.two) j (limits-low c.unlimited t) ∙ ap pair_of second_is

    abbrev pw : Bool
    pw = first.keeps (access_of Privileged Write) && second.keeps (access_of Privileged Write)

    abbrev ur : Bool
    ur = first.keeps (access_of Unprivileged Read) && second.keeps (access_of Unprivileged Read)

    abbrev index : ℕ
    index = last_index c.wxn c.pan (bit_and (pair_at (descriptor_words c.two) i).keeps (pair_at (limits_words c.two) j).keeps)

    index_is : index ≡ digit pw + digit ur * 4 + (digit c.wxn * 2 + digit c.pan * 8)
    index_is = rw (first_pair, second_pair, right-bit first second 49 pw refl, right-bit first second 51 ur refl)

    index-low : (a b x y : Bool) → digit a + digit b * 4 + (digit x * 2 + digit y * 8) < 16
    index-low a b x y =
        ltb-true _ _ (each (a ∷ b ∷ x ∷ y ∷ []) (λ (m : List Bool). ltb (digit (get_or m 0 false) + digit (get_or m 1 false) * 4 + (digit (get_or m 2 false) * 2 + digit (get_or m 3 false) * 8)) 16)
        (λ (m : List Bool). true) refl)

    at_last : join_at last_words index (number_of w) ≡ number_of (joined (last_part pw c.wxn ur c.pan) w)
    unfolding last_words
    at_last =
        rw index_is
        (join-at 16 last_at (digit pw + digit ur * 4 + (digit c.wxn * 2 + digit c.pan * 8)) (index-low pw ur c.wxn c.pan) w
        ∙ ap (λ (p : Part). number_of (joined p w)) (last-is pw c.wxn ur c.pan))

    pub direct-number : direct_number c d t (number_of w) ≡ number_of (direct_word c.wxn c.pan first second w)
    unfolding direct_number
    direct-number =
        let last = joined (last_part pw c.wxn ur c.pan) w in
        ap (λ (n : ℕ). join_at (descriptor_words c.two) i (join_at (limits_words c.two) j n)) at_last
        ∙ ap (λ (p : Pair). join_at (descriptor_words c.two) i (after p (number_of last))) second_pair
        ∙ ap (λ (p : Pair). after p (after (pair_of second) (number_of last))) first_pair
        ∙ ap (after (pair_of first)) (pair-law second last) ∙ pair-law first (joined second last)

-- Indirect
pub code-low : (two : Bool) (u : ℕ) → code_if two u < 16
code-low true u = omega arith
code-low false u = omega arith

at-codes : (p u : ℕ) (w : Word) → p < 16 → u < 16
    → join_at (code_words Privileged) p (join_at (code_words Unprivileged) u (number_of w)) ≡ number_of (joined (code_part_at Privileged p) (joined (code_part_at Unprivileged u) w))
unfolding code_words
at-codes p u w h g =
    ap (join_at (code_words Privileged) p) (join-at 16 (code_part_at Unprivileged) u g w) ∙ join-at 16 (code_part_at Privileged) p h (joined (code_part_at Unprivileged u) w)

module _ (s : Setup) (f : Leaf) (w : Word) where
  abbrev d : ℕ
  d = f.stage1

  abbrev p : ℕ
  p = code_at s.pir.privileged (pi_index d) % 16

  abbrev u : ℕ
  u = code_at s.pir.unprivileged (pi_index d)

  indirect-number : indirect_number s d (number_of w) ≡ number_of (indirect_word s (stage1_of d) p u w)
  unfolding indirect_number
  indirect-number =
      ap (λ (n : ℕ). join_at (code_words Privileged) p (join_at (code_words Unprivileged) (code_if s.control.two u) n)) (slots-number s d (ltb p 8) (ltb u 8) w)
      ∙ at-codes p (code_if s.control.two u) (slots_word s (stage1_of d) (ltb p 8) (ltb u 8) w) (omega arith) (code-low s.control.two (code_at s.pir.unprivileged (pi_index d)))

  stage1-number : stage1_number s f (number_of w)
      ≡ number_of (joined (state_part 11 12 false (stage1_of d).valid (stage1_of d).af (dirty s.control (stage1_of d))) (base_word s (stage1_of d) (limits_of f.limits) w))
  unfolding stage1_number stage1_of
  stage1-number = go s.control.indirect
    where
      go : (i : Bool)
          → cond i (join_at state1_words (state_of 7 d) (indirect_number s d (number_of w)))
          (join_at state1_words (state_of 51 d) (direct_number s.control d f.limits (slots_number s d true true (number_of w))))
          ≡ number_of (joined (state_part 11 12 false (bit d 0) (bit d 10) (cond i (bit d 7) (bit d 51)))
          (cond i (indirect_word s (stage1_of d) p u w)
          (direct_word s.control.wxn s.control.pan (descriptor_of s.control (stage1_of d)) (limits_part_of s.control (limits_of f.limits)) (slots_word s (stage1_of d) true true w))))
      go true = ap (join_at state1_words (state_of 7 d)) indirect-number ∙ at-state1 7 d (indirect_word s (stage1_of d) p u w)
      go false =
          ap (λ (n : ℕ). join_at state1_words (state_of 51 d) (direct_number s.control d f.limits n)) (slots-number s d true true w)
          ∙ ap (join_at state1_words (state_of 51 d)) (direct-number s.control d f.limits (slots_word s (stage1_of d) true true w))
          ∙ at-state1 51 d _

-- stage 1 off, and one level
off-keeps : 0x3F3FFFFFFFFFFFFF ≡ keep_of off_part
unfolding keep_of
off-keeps = refl

off-takes : take_of off_part ≡ 0
unfolding take_of
off-takes = refl

pub one-keeps : one_mask ≡ keep_of one_part
unfolding keep_of
one-keeps = refl

pub one-takes : take_of one_part ≡ 0
unfolding take_of
one-takes = refl

pub mask-law : (p : Part) (w : Word) → take_of p ≡ 0 → bit_and (keep_of p) (number_of w) ≡ number_of (joined p w)
mask-law p w e = sym (or_zero_l (bit_and (keep_of p) (number_of w))) ∙ ap (λ (n : ℕ). bit_or n (bit_and (keep_of p) (number_of w))) (sym e) ∙ join-law p w

pub off-number : (w : Word) → off_number (number_of w) ≡ number_of (joined off_part w)
unfolding off_number
off-number w = ap (λ (n : ℕ). bit_and n (number_of w)) off-keeps ∙ mask-law off_part w off-takes

one_number_lem : (w : Word) → one_number (number_of w) ≡ number_of (joined one_part w)
unfolding one_number
one_number_lem w = ap (λ (n : ℕ). bit_and n (number_of w)) one-keeps ∙ mask-law one_part w one-takes

pub levels-number : (two : Bool) (w : Word) → levels_number two (number_of w) ≡ number_of (cond two w (joined one_part w))
levels-number true w = refl
levels-number false w = one_number_lem w

pub unknown-keeps : unknown_mask ≡ keep_of (known_part false)
unfolding keep_of
unknown-keeps = refl

pub known-takes : (k : Bool) → take_of (known_part k) ≡ 0
unfolding take_of
known-takes k = refl

pub known-number : (k : Bool) (w : Word) → known_number k (number_of w) ≡ number_of (joined (known_part k) w)
unfolding unknown_number number_of
known-number true w = refl
known-number false w = ap (λ (n : ℕ). bit_and n (number_of w)) unknown-keeps ∙ mask-law (known_part false) w (known-takes false)

-- THE NUMBER OF A LEAF
pub number-law : (s : Setup) (f : Leaf) → leaf_number s f ≡ number_of (leaf_word s f)
unfolding leaf_number leaf_word
number-law s f =
    ap (levels_number s.control.two)
    (ap (λ (n : ℕ). cond s.control.stage1 (stage1_number s f n) (off_number n)) (stage2-number s.control.stage2 f.stage2)
    ∙ ap₂ (cond s.control.stage1) (stage1-number s f second) (off-number second) ∙ number-cond s.control.stage1 _ _)
    ∙ levels-number s.control.two (stages_word s (stage1_of f.stage1) (stage2_of f.stage2) (limits_of f.limits))
  where
    second : Word
    second = stage2_word s.control.stage2 (stage2_of f.stage2)
