-- A field's two words before a word are the word of the field before what follows it; and the words of a table. Assumes nothing.
use mathlib.Core.Path.{◌≡◌, refl, ap, ap₂, ◌∙◌}
use mathlib.Core.Bool.{Bool, true, false, cond, not, ◌&&◌, ◌||◌, or-false}
use mathlib.Core.List.{List, [], ◌∷◌}
use Prim.Native.Nat.{ℕ, zero, suc, ◌<◌}
use native.Mathlib.Nat.{le_of_suc-le-suc, not-suc-le-zero}
use lib.Bits.{bit_and, bit_or}
use Rattle.records.proofs.BitLaws.{ands, ors, and-bits, or-bits}
use Rattle.records.proofs.Cases.{each, nth}
use Rattle.records.specs.Bits.{bit}
use Rattle.records.specs.Access.{accesses}
use Rattle.records.specs.Mirror.BitLists.{bits}
use Rattle.records.specs.declared.access.Access.{Access}
use Rattle.rights.specs.Mirror.Parts.{after, pair_at, join_at}
use Rattle.rights.specs.Mirror.Words.{Word, Part, joined, over, lanes, six_bits, byte, alike, opens, is_good, keeps_good, word_bits, keep_bits, take_bits, number_of, keep_of, take_of, pair_of, pairs}
use Rattle.rights.specs.declared.words.pair.Pair.{Pair}

-- the byte of one access
lane : (k : Bool) (n c : ℕ) (x m w : List Bool) → ors (byte (cond k 0 c) x) (ands (alike k m) (byte n w)) ≡ byte (cond k n c) (ors x (ands m w))
lane true n c x m w = refl
lane false n c x m w = rw (or-false (bit c 0), or-false (bit c 1), or-false (bit c 2), or-false (bit c 3))

all_lanes : (l : List Access) (k : Access → Bool) (n c : Access → ℕ) (x m w : List Bool)
    → ors (over l (λ (a : Access). byte (cond (k a) 0 (c a))) x) (ands (over l (λ (a : Access). alike (k a)) m) (over l (λ (a : Access). byte (n a)) w))
    ≡ over l (λ (a : Access). byte (cond (k a) (n a) (c a))) (ors x (ands m w))
all_lanes [] k n c x m w = refl
all_lanes (a ∷ l) k n c x m w =
    lane (k a) (n a) (c a) (over l (λ (b : Access). byte (cond (k b) 0 (c b))) x) (over l (λ (b : Access). alike (k b)) m) (over l (λ (b : Access). byte (n b)) w)
    ∙ ap (byte (cond (k a) (n a) (c a))) (all_lanes l k n c x m w)

-- a bit for each access
pub six-bits : (l : List Access) (f g : Access → Bool) (x : List Bool) → ((a : Access) → f a ≡ g a)
    → over l (λ (a : Access) (t : List Bool). f a ∷ t) x ≡ over l (λ (a : Access) (t : List Bool). g a ∷ t) x
six-bits [] f g x e = refl
six-bits (a ∷ l) f g x e = ap₂ (λ (b : Bool) (t : List Bool). b ∷ t) (e a) (six-bits l f g x e)

-- an access is open, and good, after a field before what follows
lane-open : (m k r n : Bool) → (m || (k && (r || n))) ≡ ((k && r) || (m || (k && n)))
lane-open m k r n =
    each (m ∷ k ∷ r ∷ n ∷ []) (λ (v : List Bool). nth v 0 || (nth v 1 && (nth v 2 || nth v 3))) (λ (v : List Bool). (nth v 1 && nth v 2) || (nth v 0 || (nth v 1 && nth v 3))) refl

lane-good : (k m p r n q : Bool) → (((k && not m) && p) && ((r && not n) && q)) ≡ (((k && r) && not (m || (k && n))) && (p && q))
lane-good k m p r n q =
    each (k ∷ m ∷ p ∷ r ∷ n ∷ q ∷ []) (λ (v : List Bool). ((nth v 0 && not (nth v 1)) && nth v 2) && ((nth v 3 && not (nth v 4)) && nth v 5))
    (λ (v : List Bool). ((nth v 0 && nth v 3) && not (nth v 1 || (nth v 0 && nth v 4))) && (nth v 2 && nth v 5)) refl

join-bits : (p : Part) (w : Word) → ors (take_bits p) (ands (keep_bits p) (word_bits w)) ≡ word_bits (joined p w)
join-bits p w =
    let z = joined p w in
    all_lanes accesses p.keeps w.cause p.cause (six_bits p.meets []) (six_bits p.keeps (p.codes 0 ∷ p.codes 1 ∷ six_bits (keeps_good p) (p.codes 2 ∷ [])))
    (six_bits (opens w) (w.codes 0 ∷ w.codes 1 ∷ six_bits (is_good w) (w.codes 2 ∷ [])))
    ∙ ap (lanes (λ (a : Access). byte (z.cause a)))
    (six-bits accesses (λ (a : Access). p.meets a || (p.keeps a && opens w a)) (opens z) _ (λ a. lane-open (p.meets a) (p.keeps a) (w.right a) (w.meets a))
    ∙ ap (λ (t : List Bool). six_bits (opens z) (z.codes 0 ∷ z.codes 1 ∷ t))
    (six-bits accesses (λ (a : Access). keeps_good p a && is_good w a) (is_good z) (z.codes 2 ∷ []) (λ a. lane-good (p.keeps a) (p.meets a) p.known (w.right a) (w.meets a) w.known)))

pub join-law : (p : Part) (w : Word) → bit_or (take_of p) (bit_and (keep_of p) (number_of w)) ≡ number_of (joined p w)
unfolding take_of keep_of number_of
join-law p w = ap (bit_or (take_of p)) (and-bits (keep_bits p) (word_bits w)) ∙ or-bits (take_bits p) (ands (keep_bits p) (word_bits w)) ∙ ap bits (join-bits p w)

-- entry k of a table
pub entry : (n : ℕ) (f : ℕ → Part) (k : ℕ) → k < n → pair_at (pairs n f) k ≡ pair_of (f k)
entry zero f k h = absurd (not-suc-le-zero h)
entry (suc n) f zero h = refl
entry (suc n) f (suc k) h = entry n (λ (j : ℕ). f (suc j)) k (le_of_suc-le-suc h)

-- before a word
pub pair-law : (p : Part) (w : Word) → after (pair_of p) (number_of w) ≡ number_of (joined p w)
unfolding after
pair-law p w = join-law p w

pub join-at : (n : ℕ) (f : ℕ → Part) (k : ℕ) → k < n → (w : Word) → join_at (pairs n f) k (number_of w) ≡ number_of (joined (f k) w)
join-at n f k h w = ap (λ (p : Pair). after p (number_of w)) (entry n f k h) ∙ pair-law (f k) w
