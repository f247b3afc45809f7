-- Each stage by groups, from its last field to its first. Assumes nothing.
use mathlib.Core.Path.{◌≡◌, refl, sym, ap, ap₂, ◌∙◌}
use mathlib.Core.Bool.{Bool, true, false, cond, not, ◌&&◌}
use Rattle.std.specs.Prelude.{Option, Some, None}
use mathlib.Core.List.{List, [], ◌∷◌}
use Prim.Native.Nat.{ℕ, ◌+◌, ◌*◌, ◌/◌, ◌%◌, ◌^◌, ◌<◌}
use native.Mathlib.Nat.{div-div-eq-div-mul}
use native.Mathlib.Omega.{arith}
use lib.Dec.{eqb, ltb}
use lib.ListN.{get_or}
use Rattle.records.proofs.Cases.{at, each, nth}
use Rattle.records.proofs.FieldLaws.{limit-bits}
use Rattle.records.proofs.PlaceLaws.{low2-fields, low1-fields, flag-fields, state-fields, never-fields, ap-bits, codes_at, slots_at}
use Rattle.records.specs.Access.{access_of, digit}
use Rattle.records.specs.Bits.{bit, field}
use Rattle.records.specs.Descriptor.{stage1_of, stage2_of, limits_of, pi_index, po_index, code_at, slot_at}
use Rattle.records.specs.Mirror.Places.{places_of, codes_index, slots_index}
use Rattle.records.specs.declared.access.Level.TheVariants.{Privileged, Unprivileged}
use Rattle.records.specs.declared.access.Right.TheVariants.{Read, Write}
use Rattle.records.specs.declared.descriptor.index.PIIndex.{PIIndex}
use Rattle.records.specs.declared.descriptor.index.POIndex.{POIndex}
use Rattle.records.specs.declared.descriptor.fields.ByMemory.{ByMemory}
use Rattle.records.specs.declared.leaf.Leaf.{Leaf}
use Rattle.records.specs.declared.setup.Control.{Control}
use Rattle.records.specs.declared.setup.Setup.{Setup}
use Rattle.rights.specs.Mirror.Groups.{before, masked, known_mask, levels_mask, state_at, low_pair, s2ap_word, slots_pair, join_in, Grouped, SlotsGrouped, part_of, overlaid, IsStage2, IsStage2If, IsDirect, IsIndirect, stage2_grouped, slots_grouped, direct_grouped, indirect_grouped}
use Rattle.rights.specs.Mirror.Groups as groups
use Rattle.rights.specs.Mirror.Parts.{state_part, stage2_part, descriptor_part, last_part, slot_part, stage2_at, last_at, descriptor_at, limits_at, code_part_at, after, pair_at, join_at}
use Rattle.rights.specs.Mirror.Parts.{state1_words, state2_words, permissions2_words, last_words, slot_words, code_words, descriptor_words}
use Rattle.rights.specs.Mirror.Parts.{slot_if, code_if, direct_number, stage2_word, slots_word, direct_word, descriptor_of, limits_part_of, off_part, one_part, known_part, indirect_word, leaf_word, off_number, levels_number}
use Rattle.rights.specs.Mirror.Parts as parts
use Rattle.rights.specs.Mirror.Words.{Word, Part, whole, joined, number_of, pairs}
use Rattle.rights.specs.Stage2.{xn_px, xn_ux}
use Rattle.rights.specs.declared.words.groups.DirectGroups.{DirectGroups}
use Rattle.rights.specs.declared.words.groups.IndirectGroups.{IndirectGroups}
use Rattle.rights.specs.declared.words.groups.Stage2Groups.{Stage2Groups}
use Rattle.rights.specs.declared.words.pair.Table.{Table}
use Rattle.rights.proofs.GroupLaws.{before-after, group-law, Is, same_word, behind, through, same_number, Of, entry_of, step, two_steps, known_step, levels-step, state-apart, direct-apart, stage2-apart}
use Rattle.rights.proofs.Joins.{join-at}
use Rattle.rights.proofs.WordNumbers.{whole-number, direct-number, slot-low, code-low, off-number, levels-number}

-- the words of a stage's state
state-is : (t f : ℕ) (kept v a d : Bool) → parts.state_at t f kept (digit v + digit a * 2 + digit d * 4) ≡ state_part t f kept v a d
state-is t f kept v a d =
    each (v ∷ a ∷ d ∷ []) (λ (m : List Bool). parts.state_at t f kept (digit (nth m 0) + digit (nth m 1) * 2 + digit (nth m 2) * 4)) (λ (m : List Bool). state_part t f kept (nth m 0) (nth m 1) (nth m 2)) refl

state-low : (v a d : Bool) → digit v + digit a * 2 + digit d * 4 < 8
state-low true true true = omega arith
state-low true true false = omega arith
state-low true false true = omega arith
state-low true false false = omega arith
state-low false true true = omega arith
state-low false true false = omega arith
state-low false false true = omega arith
state-low false false false = omega arith

state-of : (t f : ℕ) (kept : Bool) (v a d : ℕ) (p q r : Bool) → v ≡ digit p → a ≡ digit q → d ≡ digit r
    → Of (state_at (pairs 8 (parts.state_at t f kept)) v a d) (state_part t f kept p q r)
state-of t f kept v a d p q r e g h =
    rw (e, g, h, ← (state-is t f kept p q r)) (entry_of 8 (parts.state_at t f kept) (digit p + digit q * 2 + digit r * 4) (state-low p q r))

state1-of : (v a d : ℕ) (p q r : Bool) → v ≡ digit p → a ≡ digit q → d ≡ digit r → Of (state_at state1_words v a d) (state_part 11 12 false p q r)
unfolding state1_words
state1-of = state-of 11 12 false

state2-of : (v a d : ℕ) (p q r : Bool) → v ≡ digit p → a ≡ digit q → d ≡ digit r → Of (state_at state2_words v a d) (state_part 13 14 true p q r)
unfolding state2_words
state2-of = state-of 13 14 true

-- STAGE 2: what it knows of the memory, where m has what is refused
abbrev pub known2 : ByMemory → ℕ → Bool
known2 m e = not (get_or m.kind ((places_of e).low2 % 64 / 4) false) && (not (get_or m.sh ((places_of e).flags % 8 % 4) false) && true)

module _ (m : ByMemory) (g : Stage2Groups) (hg : IsStage2 m g) (e : ℕ) where
  xn-of : (x : ℕ) → x < 4 → Of (pair_at permissions2_words (3 + x * 4)) (stage2_part true true x)
  unfolding permissions2_words
  xn-of x h =
      rw (← (at 4 (λ (j : ℕ). stage2_at (3 + j * 4)) (λ (j : ℕ). stage2_part true true j) refl x h)) (entry_of 16 stage2_at (3 + x * 4) (omega arith))

  s2ap-is : (k : ℕ) → k < 4 → s2ap_word k ≡ number_of (joined (stage2_at k) whole)
  unfolding permissions2_words
  s2ap-is k h = ap (join_at permissions2_words k) whole-number ∙ join-at 16 stage2_at k (omega arith) whole

  s2ap-part : (k : ℕ) → k < 4 → stage2_at k ≡ stage2_part (bit k 0) (bit k 1) 0
  unfolding xn_px xn_ux
  s2ap-part = at 4 stage2_at (λ (k : ℕ). stage2_part (bit k 0) (bit k 1) 0) refl

  abbrev part2 : Word
  part2 = joined (state_part 13 14 true (bit e 0) (bit e 10) (bit e 51)) (joined (stage2_part (bit e 6) (bit e 7) (field e 53 2)) whole)

  on-groups : Is (groups.stage2_at g (places_of e)) (known2 m e) part2
  unfolding groups.stage2_at
  on-groups =
      let p = places_of e in
      let i0 = p.ap % 4 in
      let b = ap-bits e in
      let f = flag-fields e in
      let v = never-fields e in
      let x = field e 53 2 in
      let last = joined (stage2_part (bit e 6) (bit e 7) 0) whole in
      let n0 = get_or g.s2ap i0 0 in
      let h0 : Is n0 true last =
      hg.s2ap i0 (omega arith)
      ∙ s2ap-is i0 (omega arith) ∙ ap (λ (q : Part). number_of (joined q whole)) (s2ap-part i0 (omega arith) ∙ ap₂ (λ (r w : Bool). stage2_part r w 0) b.0 b.1) ∙ sym (same_number last) in
      let i1 = p.never % 16 in
      let n1 = join_in g.never i1 n0 in
      let w1 = joined (stage2_part true true x) last in
      let s1 = state_part 13 14 true true true (bit e 51) in
      let h1 : Is n1 true (joined s1 w1) =
      group-law 16 _ g.never hg.never i1 n0 (omega arith)
      ∙ two_steps (state_at state2_words 1 1 (i1 % 2)) (pair_at permissions2_words (3 + i1 / 4 * 4)) s1 (stage2_part true true x)
      (state2-of 1 1 (i1 % 2) true true (bit e 51) refl refl v.0) (rw v.1 (xn-of x (omega arith))) n0 true last h0 in
      let i2 = p.flags % 8 in
      let n2 = join_in g.flags i2 n1 in
      let s2 = state_part 13 14 true true (bit e 10) false in
      let w2 = joined s2 (joined s1 w1) in
      let r2 = get_or m.sh (i2 % 4) false in
      let k2 = not r2 && true in
      let q2 = state_at state2_words 1 (i2 / 4) 0 in
      let h2 : Is n2 k2 w2 =
      group-law 8 _ g.flags hg.flags i2 n1 (omega arith)
      ∙ known_step r2 q2 n1 true w2 (step q2 s2 (state2-of 1 (i2 / 4) 0 true (bit e 10) false refl f.0 refl) n1 true (joined s1 w1) h1) in
      let i3 = p.low2 % 64 in
      let n3 = join_in g.low i3 n2 in
      let s3 = state_part 13 14 true (bit e 0) true false in
      let w3 = joined s3 w2 in
      let q3 = state_at state2_words (i3 % 2) 1 0 in
      let r3 = get_or m.kind (i3 / 4) false in
      let h3 : Is n3 (known2 m e) w3 =
      group-law 64 _ g.low hg.low i3 n2 (omega arith)
      ∙ levels-step true (masked q3 (known_mask r3)) n2 (known2 m e) w3
      (known_step r3 q3 n2 k2 w3 (step q3 s3 (state2-of (i3 % 2) 1 0 (bit e 0) true false (low2-fields e).0 refl refl) n2 k2 w2 h2)) in
      same_word n3 (known2 m e) w3 part2
      (state-apart 13 14 true (bit e 0) (bit e 10) (bit e 51) w1 ∙ behind (state_part 13 14 true (bit e 0) (bit e 10) (bit e 51)) _ _ (stage2-apart (bit e 6) (bit e 7) x whole (omega arith))) h3

pub stage2-groups : (m : ByMemory) (on : Bool) (g : Option Stage2Groups) → IsStage2If m on g → (e : ℕ) → Is (stage2_grouped g (places_of e)) (cond on (known2 m e) true) (stage2_word on (stage2_of e))
unfolding stage2_of
stage2-groups m on (Some g) h e = rw (← h.0) (on-groups m g (h.1 g refl) e)
stage2-groups m on None h e = rw (← h.0) (whole-number ∙ sym (same_number whole))

-- STAGE 1's first fields: valid with AttrIndx, AF with SH, under the mask of the levels
module _ (m : ByMemory) (low : Table 64) (two : Bool) (hl : Grouped 64 (low_pair state1_words m (levels_mask two)) low) (d : ℕ) where
  low1 : (n : ℕ) (k : Bool) (w : Word) → Is n k w → let z = joined (state_part 11 12 false (bit d 0) true false) w in
      Is (join_in low ((places_of d).low1 % 64) n) (not (get_or m.kind ((places_of d).low1 % 64 / 4) false) && k) (cond two z (joined one_part z))
  low1 n k w h =
      let i = (places_of d).low1 % 64 in
      let z = joined (state_part 11 12 false (bit d 0) true false) w in
      let q = state_at state1_words (i % 2) 1 0 in
      let r = get_or m.kind (i / 4) false in
      group-law 64 _ low hl i n (omega arith)
      ∙ levels-step two (masked q (known_mask r)) n (not r && k) z
      (known_step r q n k z (step q (state_part 11 12 false (bit d 0) true false) (state1-of (i % 2) 1 0 (bit d 0) true false (low1-fields d).0 refl refl) n k w h))

-- words with the same number have it with one level too
levels-same : (two : Bool) (w v : Word) → number_of w ≡ number_of v → number_of (cond two w (joined one_part w)) ≡ number_of (cond two v (joined one_part v))
levels-same true w v e = e
levels-same false w v e = behind one_part w v e

-- THE SLOTS, where p and u are whether overlays apply to the base rights of either level
part-fields : (p u : Bool) → (part_of p u % 64 / 16 * 16 ≡ part_of p u)
    × ((k : ℕ) → k < 16 → (k + part_of p u < 64) × ((k + part_of p u) / 16 % 2 ≡ digit p) × ((k + part_of p u) / 32 ≡ digit u))
part-fields true true = (refl, λ k h. (omega arith, omega arith, omega arith))
part-fields true false = (refl, λ k h. (omega arith, omega arith, omega arith))
part-fields false true = (refl, λ k h. (omega arith, omega arith, omega arith))
part-fields false false = (refl, λ k h. (omega arith, omega arith, omega arith))

one-digit : (b : Bool) → eqb (digit b) 1 ≡ b
one-digit true = refl
one-digit false = refl

module _ (s : Setup) (d : ℕ) (p u : Bool) where
  abbrev pslot : ℕ
  pslot = slot_if (s.control.overlay.privileged && p) (slot_at s.por.privileged (po_index d))

  abbrev uslot : ℕ
  uslot = slot_if (s.control.overlay.unprivileged && u) (slot_at s.por.unprivileged (po_index d))

  pslot-of : Of (pair_at (slot_words Privileged) pslot) (slot_part Privileged pslot)
  unfolding slot_words
  pslot-of = entry_of 16 (slot_part Privileged) pslot (slot-low (s.control.overlay.privileged && p) (slot_at s.por.privileged (po_index d)))

  uslot-of : Of (pair_at (slot_words Unprivileged) uslot) (slot_part Unprivileged uslot)
  unfolding slot_words
  uslot-of = entry_of 16 (slot_part Unprivileged) uslot (slot-low (s.control.overlay.unprivileged && u) (slot_at s.por.unprivileged (po_index d)))

  both : (slots : Table 64) → Grouped 64 (slots_pair s) slots → (n : ℕ) (k : Bool) (w : Word) → Is n k w
      → Is (join_in slots (slots_index (places_of d).slots (part_of p u)) n) k (joined (slot_part Privileged pslot) (joined (slot_part Unprivileged uslot) w))
  both slots hs n k w h =
      let f = part-fields p u in
      let a = slots_at d (part_of p u) f.0 in
      let i = a.0 + part_of p u in
      let g = f.1 a.0 a.1 in
      ap (λ (j : ℕ). join_in slots j n) a.2 ∙ group-law 64 _ slots hs i n g.0
      ∙ ap (λ (j : POIndex). by j (eqb (i / 16 % 2) 1) (eqb (i / 32) 1)) a.3
      ∙ ap₂ (by (po_index d)) (ap (λ (x : ℕ). eqb x 1) g.1 ∙ one-digit p) (ap (λ (x : ℕ). eqb x 1) g.2 ∙ one-digit u)
      ∙ two_steps (pair_at (slot_words Privileged) pslot) (pair_at (slot_words Unprivileged) uslot) (slot_part Privileged pslot) (slot_part Unprivileged uslot) pslot-of uslot-of n k w h
    where
      by : POIndex → Bool → Bool → ℕ
      by i a b =
          after (before (pair_at (slot_words Privileged) (slot_if (s.control.overlay.privileged && a) (slot_at s.por.privileged i)))
          (pair_at (slot_words Unprivileged) (slot_if (s.control.overlay.unprivileged && b) (slot_at s.por.unprivileged i)))) n

  pub slots-groups : (g : Option (Table 64)) → SlotsGrouped s g → (n : ℕ) (k : Bool) (w : Word) → Is n k w
      → Is (slots_grouped g (places_of d).slots (part_of p u) n) k (slots_word s (stage1_of d) p u w)
  unfolding stage1_of
  slots-groups (Some g) hs n k w h = rw hs.0 (both g hs.1 n k w h)
  slots-groups None hs n k w h = rw hs h

-- DIRECT
module _ (s : Setup) (m : ByMemory) (g : DirectGroups) (hg : IsDirect s m g) (d t : ℕ) where
  abbrev c : Control
  c = s.control

  -- AP by itself
  abbrev ap_of : ℕ
  ap_of = (places_of d).ap % 4

  abbrev first : Part
  first = descriptor_of c (stage1_of (ap_of * 2 ^ 6))

  abbrev second : Part
  second = limits_part_of c (limits_of (t % 16))

  -- AP and the limits
  limits-is : (n : ℕ) → join_in g.limits (ap_of + t % 16 * 4) n ≡ direct_number c (ap_of * 2 ^ 6) (t % 16) n
  unfolding direct_number
  limits-is n =
      let k = ap_of + t % 16 * 4 in
      let i : k % 4 ≡ ap_of = omega arith in
      let j : k / 4 ≡ t % 16 = omega arith in
      let q : (ap_of * 2 ^ 6) / 2 ^ 6 % 2 ^ 2 + (ap_of * 2 ^ 6) / 2 ^ 53 % 2 ^ 2 * 4 ≡ ap_of = omega arith in
      group-law 64 _ g.limits hg.limits k n (omega arith)
      ∙ rw (i, j, q)
      (before-after _ _ n ∙ ap (after (pair_at (descriptor_words c.two) ap_of)) (before-after _ _ n))

  -- what is known goes through these three
  through-three : (k : Bool) (w : Word) → number_of (direct_word c.wxn c.pan first second (joined (known_part k) w)) ≡ number_of (joined (known_part k) (direct_word c.wxn c.pan first second w))
  through-three k w =
      go (last_part (first.keeps (access_of Privileged Write) && second.keeps (access_of Privileged Write)) c.wxn (first.keeps (access_of Unprivileged Read) && second.keeps (access_of Unprivileged Read)) c.pan)
    where
      go : (l : Part) → number_of (joined first (joined second (joined l (joined (known_part k) w)))) ≡ number_of (joined (known_part k) (joined first (joined second (joined l w))))
      go l =
          behind first _ _ (behind second _ _ (through l k w) ∙ through second k (joined l w)) ∙ through first k (joined second (joined l w))

  ap-is : first ≡ descriptor_part c.two (bit d 6) (bit d 7) false false
  unfolding stage1_of
  ap-is =
      let a = ap_of in
      let b = ap-bits d in
      let i : a < 4 = omega arith in
      let e0 : bit (a * 2 ^ 6) 6 ≡ bit a 0 = ap (λ (n : ℕ). eqb n 1) (lower a) in
      let e1 : bit (a * 2 ^ 6) 7 ≡ bit a 1 = ap (λ (n : ℕ). eqb n 1) (upper a) in
      let e2 : bit (a * 2 ^ 6) 53 ≡ false = ap (λ (n : ℕ). eqb n 1) (none a i) in
      let e3 : bit (a * 2 ^ 6) 54 ≡ false = ap (λ (n : ℕ). eqb n 1) (nothing a i) in
      rw (e0, e1, e2, e3, b.0, b.1)
    where
      lower : (a : ℕ) → (a * 2 ^ 6) / 2 ^ 6 % 2 ≡ a / 2 ^ 0 % 2
      lower a = omega arith

      upper : (a : ℕ) → (a * 2 ^ 6) / 2 ^ 7 % 2 ≡ a / 2 ^ 1 % 2
      upper a = omega arith

      none : (a : ℕ) → a < 4 → (a * 2 ^ 6) / 2 ^ 53 % 2 ≡ 0
      none a h = omega arith

      nothing : (a : ℕ) → a < 4 → (a * 2 ^ 6) / 2 ^ 54 % 2 ≡ 0
      nothing a h = omega arith

  second_is : second ≡ limits_part_of c (limits_of t)
  unfolding limits_of
  second_is = let b = limit-bits t in rw (b.0, b.1, b.2, b.3)

  -- PXN and UXN
  abbrev never-part : Part
  never-part = descriptor_part c.two true false (bit d 53) (bit d 54)

  never-of : Of (pair_at (descriptor_words c.two) (1 + field d 53 2 * 4)) never-part
  unfolding descriptor_words
  never-of =
      let x = field d 53 2 in
      let e0 : bit x 0 ≡ bit d 53 = ap (λ (n : ℕ). eqb n 1) (lower (d / 2 ^ 53)) in
      let e1 : bit x 1 ≡ bit d 54 = ap (λ (n : ℕ). eqb n 1) (upper (d / 2 ^ 53) ∙ ap (λ (n : ℕ). n % 2) (div-div-eq-div-mul d (2 ^ 53) 2)) in
      rw (← e0, ← e1, ← (at 4 (λ (j : ℕ). descriptor_at c.two (1 + j * 4)) (λ (j : ℕ). descriptor_part c.two true false (bit j 0) (bit j 1)) refl x (omega arith)))
      (entry_of 16 (descriptor_at c.two) (1 + x * 4) (omega arith))
    where
      lower : (y : ℕ) → y % 2 ^ 2 / 2 ^ 0 % 2 ≡ y % 2
      lower y = omega arith

      upper : (y : ℕ) → y % 2 ^ 2 / 2 ^ 1 % 2 ≡ y / 2 % 2
      upper y = omega arith

  pub direct-groups : (n : ℕ) (k : Bool) (w : Word) → Is n k w
      → let z = joined (state_part 11 12 false (bit d 0) (bit d 10) (bit d 51)) (direct_word c.wxn c.pan (descriptor_of c (stage1_of d)) (limits_part_of c (limits_of t)) (slots_word s (stage1_of d) true true w)) in
      Is (direct_grouped g (places_of d) t n) (not (get_or m.kind ((places_of d).low1 % 64 / 4) false) && (not (get_or m.sh ((places_of d).flags % 8 % 4) false) && k)) (cond c.two z (joined one_part z))
  unfolding direct_grouped stage1_of
  direct-groups n k w h =
      let p = places_of d in
      let v = never-fields d in
      let x = p.never % 16 in
      let f = p.flags % 8 in
      let n0 = slots_grouped g.slots p.slots 48 n in
      let w0 = slots_word s (stage1_of d) true true w in
      let i0 : Is n0 k w0 = slots-groups s d true true g.slots hg.slots n k w h in
      let n1 = join_in g.limits (ap_of + t % 16 * 4) n0 in
      let w1 = direct_word c.wxn c.pan first second w0 in
      let i1 : Is n1 k w1 =
      limits-is n0 ∙ ap (direct_number c (ap_of * 2 ^ 6) (t % 16)) i0 ∙ direct-number c (ap_of * 2 ^ 6) (t % 16) (joined (known_part k) w0) ∙ through-three k w0 in
      let n2 = join_in g.never x n1 in
      let s3 = state_part 11 12 false true true (bit d 51) in
      let w2 = joined s3 (joined never-part w1) in
      let i2 : Is n2 k w2 =
      group-law 16 _ g.never hg.never x n1 (omega arith)
      ∙ two_steps (state_at state1_words 1 1 (x % 2)) (pair_at (descriptor_words c.two) (1 + x / 4 * 4)) s3 never-part
      (state1-of 1 1 (x % 2) true true (bit d 51) refl refl v.0) (rw v.1 never-of) n1 k w1 i1 in
      let n3 = join_in g.flags f n2 in
      let s2 = state_part 11 12 false true (bit d 10) false in
      let w3 = joined s2 w2 in
      let q = state_at state1_words 1 (f / 4) 0 in
      let r = get_or m.sh (f % 4) false in
      let k3 = not r && k in
      let i3 : Is n3 k3 w3 =
      group-law 8 _ g.flags hg.flags f n2 (omega arith)
      ∙ known_step r q n2 k w3 (step q s2 (state1-of 1 (f / 4) 0 true (bit d 10) false refl (flag-fields d).0 refl) n2 k w2 i2) in
      let w4 = joined (state_part 11 12 false (bit d 0) true false) w3 in
      let z = joined (state_part 11 12 false (bit d 0) (bit d 10) (bit d 51)) (direct_word c.wxn c.pan (descriptor_of c (stage1_of d)) (limits_part_of c (limits_of t)) w0) in
      let e : number_of w4 ≡ number_of z =
      state-apart 11 12 false (bit d 0) (bit d 10) (bit d 51) (joined never-part w1)
      ∙ behind (state_part 11 12 false (bit d 0) (bit d 10) (bit d 51)) _ _
      (ap₂ (λ (f l : Part). number_of (joined never-part (direct_word c.wxn c.pan f l w0))) ap-is second_is
      ∙ direct-apart c.wxn c.pan c.two (bit d 6) (bit d 7) (bit d 53) (bit d 54) (limits_part_of c (limits_of t)) w0) in
      same_word _ (not (get_or m.kind (p.low1 % 64 / 4) false) && k3) (cond c.two w4 (joined one_part w4)) (cond c.two z (joined one_part z)) (levels-same c.two w4 z e)
      (low1 m g.low c.two hg.low d n3 k3 w3 i3)

-- INDIRECT
module _ (s : Setup) (m : ByMemory) (g : IndirectGroups) (hg : IsIndirect s m g) (d t : ℕ) where
  abbrev pcode : ℕ
  pcode = code_at s.pir.privileged (pi_index d) % 16

  abbrev ucode : ℕ
  ucode = code_at s.pir.unprivileged (pi_index d)

  privileged-of : Of (pair_at (code_words Privileged) pcode) (code_part_at Privileged pcode)
  unfolding code_words
  privileged-of = entry_of 16 (code_part_at Privileged) pcode (omega arith)

  unprivileged-of : Of (pair_at (code_words Unprivileged) (code_if s.control.two ucode)) (code_part_at Unprivileged (code_if s.control.two ucode))
  unfolding code_words
  unprivileged-of = entry_of 16 (code_part_at Unprivileged) (code_if s.control.two ucode) (code-low s.control.two ucode)

  -- the part of a leaf's slots
  part-is : get_or g.applies (codes_index (places_of d).codes) 0 ≡ part_of (ltb pcode 8) (ltb ucode 8)
  part-is =
      let a = codes_at d in
      hg.applies _ a.0 ∙ ap (λ (i : PIIndex). part_of (ltb (code_at s.pir.privileged i % 16) 8) (ltb (code_at s.pir.unprivileged i) 8)) a.1

  pub indirect-groups : (n : ℕ) (k : Bool) (w : Word) → Is n k w
      → let z = joined (state_part 11 12 false (bit d 0) (bit d 10) (bit d 7)) (indirect_word s (stage1_of d) pcode ucode w) in
      Is (indirect_grouped g (places_of d) t n) (not (get_or m.kind ((places_of d).low1 % 64 / 4) false) && (not (get_or m.sh ((places_of d).state % 16 / 2 % 4) false) && k))
      (cond s.control.two z (joined one_part z))
  unfolding indirect_grouped
  indirect-groups n k w h =
      let p = places_of d in
      let f = state-fields d in
      let a = codes_at d in
      let two = s.control.two in
      let i = codes_index p.codes in
      let n0 = slots_grouped g.slots p.slots (get_or g.applies i 0) n in
      let w0 = slots_word s (stage1_of d) (ltb pcode 8) (ltb ucode 8) w in
      let i0 : Is n0 k w0 = ap (λ (x : ℕ). slots_grouped g.slots p.slots x n) part-is ∙ slots-groups s d (ltb pcode 8) (ltb ucode 8) g.slots hg.slots n k w h in
      let n1 = join_in g.codes i n0 in
      let w1 = joined (code_part_at Privileged pcode) (joined (code_part_at Unprivileged (code_if two ucode)) w0) in
      let i1 : Is n1 k w1 =
      group-law 32 _ g.codes hg.codes i n0 a.0
      ∙ ap (λ (i : PIIndex). after (before (pair_at (code_words Privileged) (code_at s.pir.privileged i % 16)) (pair_at (code_words Unprivileged) (code_if two (code_at s.pir.unprivileged i)))) n0) a.1
      ∙ two_steps (pair_at (code_words Privileged) pcode) (pair_at (code_words Unprivileged) (code_if two ucode)) (code_part_at Privileged pcode) (code_part_at Unprivileged (code_if two ucode)) privileged-of unprivileged-of n0 k w0 i0 in
      let j = p.state % 16 in
      let n2 = join_in g.state j n1 in
      let s2 = state_part 11 12 false true (bit d 10) false in
      let s3 = state_part 11 12 false true true (bit d 7) in
      let w2 = joined s2 (joined s3 w1) in
      let q2 = state_at state1_words 1 (j / 8) 0 in
      let q3 = state_at state1_words 1 1 (j % 2) in
      let r = get_or m.sh (j / 2 % 4) false in
      let k2 = not r && k in
      let i2 : Is n2 k2 w2 =
      group-law 16 _ g.state hg.state j n1 (omega arith)
      ∙ known_step r (before q2 q3) n1 k w2
      (two_steps q2 q3 s2 s3 (state1-of 1 (j / 8) 0 true (bit d 10) false refl f.2 refl) (state1-of 1 1 (j % 2) true true (bit d 7) refl refl f.0) n1 k w1 i1) in
      let w3 = joined (state_part 11 12 false (bit d 0) true false) w2 in
      let z = joined (state_part 11 12 false (bit d 0) (bit d 10) (bit d 7)) w1 in
      same_word _ (not (get_or m.kind (p.low1 % 64 / 4) false) && k2) (cond two w3 (joined one_part w3)) (cond two z (joined one_part z)) (levels-same two w3 z (state-apart 11 12 false (bit d 0) (bit d 10) (bit d 7) w1))
      (low1 m g.low two hg.low d n2 k2 w2 i2)

-- STAGE 1 OFF
pub off-groups : (two : Bool) (n : ℕ) (k : Bool) (w : Word) → Is n k w → let z = joined off_part w in Is (levels_number two (off_number n)) k (cond two z (joined one_part z))
off-groups two n k w h =
    let z = joined off_part w in
    ap (λ (m : ℕ). levels_number two (off_number m)) h
    ∙ ap (levels_number two) (off-number (joined (known_part k) w) ∙ through off_part k w)
    ∙ levels-number two (joined (known_part k) z) ∙ go two
  where
    go : (t : Bool) → number_of (cond t (joined (known_part k) (joined off_part w)) (joined one_part (joined (known_part k) (joined off_part w))))
        ≡ number_of (joined (known_part k) (cond t (joined off_part w) (joined one_part (joined off_part w))))
    go true = refl
    go false = through one_part k (joined off_part w)

-- THE LEAF, where z is whether stage 1 is on
module _ (s : Setup) (f : Leaf) (z : Bool) (on : s.control.stage1 ≡ z) (n : ℕ) (k : Bool) where
  abbrev d : ℕ
  d = f.stage1

  abbrev after-stage1 : Word
  after-stage1 = stage2_word s.control.stage2 (stage2_of f.stage2)

  abbrev direct : Word
  direct = direct_word s.control.wxn s.control.pan (descriptor_of s.control (stage1_of d)) (limits_part_of s.control (limits_of f.limits)) (slots_word s (stage1_of d) true true after-stage1)

  abbrev indirect : Word
  indirect = indirect_word s (stage1_of d) (code_at s.pir.privileged (pi_index d) % 16) (code_at s.pir.unprivileged (pi_index d)) after-stage1

  abbrev by-stage : Bool → Bool → Word
  by-stage on i = cond on (joined (state_part 11 12 false (bit d 0) (bit d 10) (cond i (bit d 7) (bit d 51))) (cond i indirect direct)) (joined off_part after-stage1)

  abbrev levels : Word → Word
  levels w = cond s.control.two w (joined one_part w)

  pub leaf-groups : (i : Bool) → s.control.indirect ≡ i → Is n k (levels (by-stage z i)) → Is n k (leaf_word s f)
  unfolding leaf_word stage1_of
  leaf-groups i e h = pick s.control.stage1 s.control.indirect on e
    where
      pick : (a b : Bool) → a ≡ z → b ≡ i → Is n k (levels (by-stage a b))
      pick a b x y = rw (x, y) h
