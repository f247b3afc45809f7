-- An entry of a group has the words of its fields, one before the other: what it does to the number of a word. Fields that the tables of single fields have
-- together are taken apart, and what is known of the memory goes through every field. Assumes nothing.
use mathlib.Core.Path.{◌≡◌, refl, sym, ap, ap₂, ◌∙◌}
use mathlib.Core.Bool.{Bool, true, false, cond, not, ◌&&◌, and_assoc}
use mathlib.Core.List.{List, [], ◌∷◌}
use Prim.Native.Nat.{ℕ, ◌<◌}
use lib.Bits.{bit_and, bit_or}
use Rattle.records.proofs.BitLaws.{and-and, or-or, and-or}
use Rattle.records.proofs.Cases.{at, each, nth}
use Rattle.records.specs.Access.{access_of}
use Rattle.records.specs.declared.access.Level.TheVariants.{Privileged, Unprivileged}
use Rattle.records.specs.declared.access.Right.TheVariants.{Read, Write}
use Rattle.rights.specs.Direct.{ap as ap_of}
use Rattle.rights.specs.Mirror.Groups.{before, masked, known_mask, levels_mask, join_in, Grouped}
use Rattle.rights.specs.Mirror.Parts.{after, pair_at, all_mask, one_mask, state_part, stage2_part, descriptor_part, last_part, direct_word, one_part, known_part, known_number}
use Rattle.rights.specs.Mirror.Words.{Word, Part, joined, number_of, keep_of, take_of, pair_of, pairs}
use Rattle.rights.specs.Stage2.{xn_px, xn_ux}
use Rattle.rights.specs.declared.words.pair.Pair.{Pair}
use Rattle.rights.specs.declared.words.pair.Table.{Table}
use Rattle.rights.proofs.Joins.{join-law, pair-law, entry}
use Rattle.rights.proofs.WordNumbers.{mask-law, known-number, one-keeps, one-takes, unknown-keeps, known-takes}

-- one before the other
pub before-after : (p q : Pair) (n : ℕ) → after (before p q) n ≡ after p (after q n)
unfolding before after
before-after p q n =
    sym (or-or p.takes (bit_and p.keeps q.takes) (bit_and (bit_and p.keeps q.keeps) n))
    ∙ ap (bit_or p.takes) (ap (bit_or (bit_and p.keeps q.takes)) (sym (and-and p.keeps q.keeps n)) ∙ sym (and-or p.keeps q.takes (bit_and q.keeps n)))

masked-after : (m : ℕ) (p : Pair) (n : ℕ) → after (masked p m) n ≡ bit_and m (after p n)
unfolding masked after
masked-after m p n =
    ap (bit_or (bit_and m p.takes)) (sym (and-and m p.keeps n)) ∙ sym (and-or m p.takes (bit_and p.keeps n))

-- an entry of a group's table
pub group-law : (n : ℕ) (f : ℕ → Pair) (g : Table n) → Grouped n f g → (k w : ℕ) → k < n → join_in g k w ≡ after (f k) w
group-law n f g h k w i = ap (λ (p : Pair). after p w) (h k i)

-- a number is that of a word whose memory is known as k
abbrev pub Is : ℕ → Bool → Word → Type 0
Is n k w = n ≡ number_of (joined (known_part k) w)

-- words with the same number have it with what is known too
pub same_word : (n : ℕ) (k : Bool) (w v : Word) → number_of w ≡ number_of v → Is n k w → Is n k v
same_word n k w v e h = h ∙ sym (known-number k w) ∙ ap (known_number k) e ∙ known-number k v

-- and behind the same field
pub behind : (p : Part) (w v : Word) → number_of w ≡ number_of v → number_of (joined p w) ≡ number_of (joined p v)
behind p w v e = sym (join-law p w) ∙ ap (λ (n : ℕ). bit_or (take_of p) (bit_and (keep_of p) n)) e ∙ join-law p v

-- what is known goes through a field
pub through : (p : Part) (k : Bool) (w : Word) → number_of (joined p (joined (known_part k) w)) ≡ number_of (joined (known_part k) (joined p w))
through p k w =
    ap (λ (b : Bool). number_of (record { right = (joined p w).right; meets = (joined p w).meets; cause = (joined p w).cause; codes = (joined p w).codes; known = b })) (swap p.known k w.known)
  where
    swap : (a b c : Bool) → (a && (b && c)) ≡ (b && (a && c))
    swap true b c = refl
    swap false true c = refl
    swap false false c = refl

-- the pair is a field's
abbrev pub Of : Pair → Part → Type 0
Of q p = q ≡ pair_of p

pub entry_of : (n : ℕ) (f : ℕ → Part) (k : ℕ) → k < n → Of (pair_at (pairs n f) k) (f k)
entry_of = entry

pub step : (q : Pair) (p : Part) → Of q p → (n : ℕ) (k : Bool) (w : Word) → Is n k w → Is (after q n) k (joined p w)
step q p o n k w h = rw (o, h) (pair-law p (joined (known_part k) w) ∙ through p k w)

pub two_steps : (q r : Pair) (p t : Part) → Of q p → Of r t → (n : ℕ) (k : Bool) (w : Word) → Is n k w → Is (after (before q r) n) k (joined p (joined t w))
two_steps q r p t o u n k w h = before-after q r n ∙ step q p o (after r n) k (joined t w) (step r t u n k w h)

all-keeps : all_mask ≡ keep_of (known_part true)
unfolding keep_of
all-keeps = refl

pub same_number : (w : Word) → number_of (joined (known_part true) w) ≡ number_of w
unfolding number_of
same_number w = refl

-- under the masks
known-masked : (r : Bool) (w : Word) → bit_and (known_mask r) (number_of w) ≡ number_of (joined (known_part (not r)) w)
known-masked false w = ap (λ (n : ℕ). bit_and n (number_of w)) all-keeps ∙ mask-law (known_part true) w (known-takes true)
known-masked true w = ap (λ (n : ℕ). bit_and n (number_of w)) unknown-keeps ∙ mask-law (known_part false) w (known-takes false)

pub known_step : (r : Bool) (q : Pair) (n : ℕ) (k : Bool) (w : Word) → Is (after q n) k w → Is (after (masked q (known_mask r)) n) (not r && k) w
known_step r q n k w h =
    masked-after (known_mask r) q n ∙ ap (bit_and (known_mask r)) h ∙ known-masked r (joined (known_part k) w)
    ∙ ap (λ (b : Bool). number_of (record { right = w.right; meets = w.meets; cause = w.cause; codes = w.codes; known = b })) (sym (and_assoc (not r) k w.known))

pub levels-step : (two : Bool) (q : Pair) (n : ℕ) (k : Bool) (w : Word) → Is (after q n) k w → Is (after (masked q (levels_mask two)) n) k (cond two w (joined one_part w))
levels-step true q n k w h =
    masked-after all_mask q n ∙ ap₂ bit_and all-keeps h ∙ mask-law (known_part true) (joined (known_part k) w) (known-takes true) ∙ same_number (joined (known_part k) w)
levels-step false q n k w h =
    masked-after one_mask q n ∙ ap₂ bit_and one-keeps h ∙ mask-law one_part (joined (known_part k) w) one-takes ∙ through one_part k w

-- FIELDS TAKEN APART: valid, AF and dirty state
pub state-apart : (t f : ℕ) (kept v a d : Bool) (w : Word)
    → number_of (joined (state_part t f kept v true false) (joined (state_part t f kept true a false) (joined (state_part t f kept true true d) w))) ≡ number_of (joined (state_part t f kept v a d) w)
unfolding number_of
state-apart t f true true true true w = refl
state-apart t f true true true false w = refl
state-apart t f true true false d w = refl
state-apart t f true false a d w = refl
state-apart t f false true true true w = refl
state-apart t f false true true false w = refl
state-apart t f false true false d w = refl
state-apart t f false false a d w = refl

-- AP, and PXN and UXN, which stand beside AP 01
descriptor-apart : (two ap1 ap2 pxn uxn : Bool) (w : Word)
    → number_of (joined (descriptor_part two true false pxn uxn) (joined (descriptor_part two ap1 ap2 false false) w)) ≡ number_of (joined (descriptor_part two ap1 ap2 pxn uxn) w)
unfolding number_of ap_of
descriptor-apart two ap1 ap2 pxn uxn w =
    each (two ∷ ap1 ∷ ap2 ∷ pxn ∷ uxn ∷ [])
    (λ (v : List Bool). number_of (joined (descriptor_part (nth v 0) true false (nth v 3) (nth v 4)) (joined (descriptor_part (nth v 0) (nth v 1) (nth v 2) false false) w)))
    (λ (v : List Bool). number_of (joined (descriptor_part (nth v 0) (nth v 1) (nth v 2) (nth v 3) (nth v 4)) w)) refl

-- the steps that read rights read none of execution
pub direct-apart : (wxn pan two ap1 ap2 pxn uxn : Bool) (second : Part) (w : Word)
    → number_of (joined (descriptor_part two true false pxn uxn) (direct_word wxn pan (descriptor_part two ap1 ap2 false false) second w))
    ≡ number_of (direct_word wxn pan (descriptor_part two ap1 ap2 pxn uxn) second w)
unfolding ap_of
direct-apart wxn pan two ap1 ap2 pxn uxn second w =
    descriptor-apart two ap1 ap2 pxn uxn (joined second (joined (last (keeps false false)) w))
    ∙ ap (λ (k : Bool × Bool). number_of (joined (descriptor_part two ap1 ap2 pxn uxn) (joined second (joined (last k) w)))) same
  where
    keeps : Bool → Bool → Bool × Bool
    keeps p u = ((descriptor_part two ap1 ap2 p u).keeps (access_of Privileged Write), (descriptor_part two ap1 ap2 p u).keeps (access_of Unprivileged Read))

    last : Bool × Bool → Part
    last k = last_part (k.0 && second.keeps (access_of Privileged Write)) wxn (k.1 && second.keeps (access_of Unprivileged Read)) pan

    same : keeps false false ≡ keeps pxn uxn
    same =
        each (two ∷ ap1 ∷ ap2 ∷ pxn ∷ uxn ∷ [])
        (λ (v : List Bool). ((descriptor_part (nth v 0) (nth v 1) (nth v 2) false false).keeps (access_of Privileged Write), (descriptor_part (nth v 0) (nth v 1) (nth v 2) false false).keeps (access_of Unprivileged Read)))
        (λ (v : List Bool). ((descriptor_part (nth v 0) (nth v 1) (nth v 2) (nth v 3) (nth v 4)).keeps (access_of Privileged Write), (descriptor_part (nth v 0) (nth v 1) (nth v 2) (nth v 3) (nth v 4)).keeps (access_of Unprivileged Read))) refl

-- S2AP, and XN, which stands beside S2AP 11
pub stage2-apart : (r w : Bool) (x : ℕ) (z : Word) → x < 4 → number_of (joined (stage2_part true true x) (joined (stage2_part r w 0) z)) ≡ number_of (joined (stage2_part r w x) z)
unfolding number_of xn_px xn_ux
stage2-apart true true x z h =
    at 4 (λ (x : ℕ). number_of (joined (stage2_part true true x) (joined (stage2_part true true 0) z))) (λ (x : ℕ). number_of (joined (stage2_part true true x) z)) refl x h
stage2-apart true false x z h =
    at 4 (λ (x : ℕ). number_of (joined (stage2_part true true x) (joined (stage2_part true false 0) z))) (λ (x : ℕ). number_of (joined (stage2_part true false x) z)) refl x h
stage2-apart false true x z h =
    at 4 (λ (x : ℕ). number_of (joined (stage2_part true true x) (joined (stage2_part false true 0) z))) (λ (x : ℕ). number_of (joined (stage2_part false true x) z)) refl x h
stage2-apart false false x z h =
    at 4 (λ (x : ℕ). number_of (joined (stage2_part true true x) (joined (stage2_part false false 0) z))) (λ (x : ℕ). number_of (joined (stage2_part false false x) z)) refl x h
