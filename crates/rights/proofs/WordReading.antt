-- What is read from the number of a word: a cause's byte, the rights, and whether something is refused. Assumes nothing.
use mathlib.Core.Path.{◌≡◌, refl, ap, ap₂, ◌∙◌}
use mathlib.Core.Bool.{Bool, true, false, not, ◌&&◌, ◌||◌, or-false}
use mathlib.Core.List.{List, [], ◌∷◌}
use Prim.Native.Nat.{ℕ, ◌*◌, ◌/◌, ◌%◌, ◌^◌, ◌<◌}
use lib.Bits.{bit_or, bit_xor}
use lib.Dec.{eqb}
use lib.ListN.{take, drop}
use Rattle.records.proofs.BitLaws.{other, xors, xor-bits, low_bits, high_bits, some, none-bits, or-none}
use Rattle.records.proofs.Cases.{clash, upto, at, each, nth}
use Rattle.records.specs.Access.{accesses, access_at}
use Rattle.records.specs.Mirror.BitLists.{bits}
use Rattle.records.specs.declared.access.Access.{Access}
use Rattle.rights.specs.Mirror.Words.{Word, over, byte, six_bits, opens, is_good, word_bits, number_of}
use Rattle.rights.proofs.Joins.{six-bits}

-- a byte of the bits
part : (w : Word) (k : ℕ) → number_of w / 2 ^ k % 2 ^ 8 ≡ bits (take 8 (drop k (word_bits w)))
unfolding number_of
part w k = ap (λ (m : ℕ). m % 2 ^ 8) (high_bits k (word_bits w)) ∙ low_bits 8 (drop k (word_bits w))

low_byte : (c : ℕ) → c < 16 → bits (byte c []) ≡ c
low_byte c h = at 16 (λ (k : ℕ). bits (byte k [])) (λ (k : ℕ). k) refl c h

pub cause-in : (w : Word) (n : ℕ) → n < 6 → w.cause (access_at n) < 16 → number_of w / 2 ^ (8 * n) % 256 ≡ w.cause (access_at n)
cause-in w n h g =
    at 6 (λ (k : ℕ). number_of w / 2 ^ (8 * k) % 256) (λ (k : ℕ). bits (byte (w.cause (access_at k)) [])) (six) n h ∙ low_byte (w.cause (access_at n)) g
  where
    six : upto 6 (λ (k : ℕ). number_of w / 2 ^ (8 * k) % 256) ≡ upto 6 (λ (k : ℕ). bits (byte (w.cause (access_at k)) []))
    six = rw (part w 0, part w 8, part w 16, part w 24, part w 32, part w 40)

-- what is refused: an access that meets a refusal or has a right to memory that is not known, and a pair of base codes
abbrev refused_at : Word → Access → Bool
refused_at w a = w.meets a || (w.right a && not w.known)

abbrev pub refusals : Word → List Bool
refusals w = six_bits (refused_at w) (w.codes 0 ∷ w.codes 1 ∷ w.codes 2 ∷ [])

-- an access is refused where it is open and not good
lane-refused : (r m k : Bool) → other (r || m) ((r && not m) && k) ≡ (m || (r && not k))
lane-refused r m k =
    each (r ∷ m ∷ k ∷ []) (λ (v : List Bool). other (nth v 0 || nth v 1) ((nth v 0 && not (nth v 1)) && nth v 2)) (λ (v : List Bool). nth v 1 || (nth v 0 && not (nth v 2))) refl

-- the third bit of the codes stands apart
codes-apart : (f : Access → Bool) (x y z : Bool)
    → (not (some (six_bits f (other x z ∷ y ∷ []))) && not (some (z ∷ []))) ≡ not (some (six_bits f (x ∷ y ∷ z ∷ [])))
codes-apart f x y z =
    each (f (access_at 0) ∷ f (access_at 1) ∷ f (access_at 2) ∷ f (access_at 3) ∷ f (access_at 4) ∷ f (access_at 5) ∷ x ∷ y ∷ z ∷ [])
    (λ (v : List Bool). not (some (nth v 0 ∷ nth v 1 ∷ nth v 2 ∷ nth v 3 ∷ nth v 4 ∷ nth v 5 ∷ other (nth v 6) (nth v 8) ∷ nth v 7 ∷ [])) && not (some (nth v 8 ∷ [])))
    (λ (v : List Bool). not (some (nth v 0 ∷ nth v 1 ∷ nth v 2 ∷ nth v 3 ∷ nth v 4 ∷ nth v 5 ∷ nth v 6 ∷ nth v 7 ∷ nth v 8 ∷ []))) refl

pub refused-in : (w : Word) → let x = bit_xor (number_of w / 2 ^ 48) (number_of w / 2 ^ 56) in eqb (bit_or (x % 2 ^ 8) (x / 2 ^ 14)) 0 ≡ not (some (refusals w))
unfolding number_of
refused-in w =
    let x = xors (drop 48 (word_bits w)) (drop 56 (word_bits w)) in
    ap (λ (n : ℕ). eqb (bit_or (n % 2 ^ 8) (n / 2 ^ 14)) 0) (ap₂ bit_xor (high_bits 48 (word_bits w)) (high_bits 56 (word_bits w)) ∙ xor-bits (drop 48 (word_bits w)) (drop 56 (word_bits w)))
    ∙ or-none (bits x % 2 ^ 8) (bits x / 2 ^ 14)
    ∙ ap₂ (λ (m n : ℕ). eqb m 0 && eqb n 0)
    (low_bits 8 x
    ∙ ap bits (six-bits accesses (λ (a : Access). other (opens w a) (is_good w a)) (refused_at w) (other (w.codes 0) (w.codes 2) ∷ w.codes 1 ∷ []) (λ a. lane-refused (w.right a) (w.meets a) w.known)))
    (high_bits 14 x)
    ∙ ap₂ ◌&&◌ (none-bits (six_bits (refused_at w) (other (w.codes 0) (w.codes 2) ∷ w.codes 1 ∷ []))) (none-bits (w.codes 2 ∷ []))
    ∙ codes-apart (refused_at w) (w.codes 0) (w.codes 1) (w.codes 2)

-- where nothing is refused an access is open where it has a right
open-rights : (l : List Access) (r m : Access → Bool) (u : Bool) (x y : List Bool) → some (over l (λ (a : Access) (t : List Bool). (m a || (r a && u)) ∷ t) y) ≡ false
    → (over l (λ (a : Access) (t : List Bool). (r a || m a) ∷ t) x ≡ over l (λ (a : Access) (t : List Bool). r a ∷ t) x) × (some y ≡ false)
open-rights [] r m u x y e = (refl, e)
open-rights (a ∷ l) r m u x y e = go (m a) (r a) (λ h. open-rights l r m u x y h) e
  where
    Rest : Type 0
    Rest = (over l (λ (a : Access) (t : List Bool). (r a || m a) ∷ t) x ≡ over l (λ (a : Access) (t : List Bool). r a ∷ t) x) × (some y ≡ false)

    tail : Bool
    tail = some (over l (λ (a : Access) (t : List Bool). (m a || (r a && u)) ∷ t) y)

    rest : (b c : Bool) → (b || c) ≡ false → c ≡ false
    rest true c h = clash (cc)
    rest false c h = h

    go : (p q : Bool) → (tail ≡ false → Rest) → ((p || (q && u)) || tail) ≡ false
        → ((q || p) ∷ over l (λ (a : Access) (t : List Bool). (r a || m a) ∷ t) x ≡ q ∷ over l (λ (a : Access) (t : List Bool). r a ∷ t) x) × (some y ≡ false)
    go true q next h = clash (cc)
    go false q next h = let i = next (rest (q && u) tail h) in (ap₂ (λ (b : Bool) (t : List Bool). b ∷ t) (or-false q) i.0, i.1)

pub rights-in : (w : Word) → some (refusals w) ≡ false → number_of w / 2 ^ 48 % 2 ^ 8 ≡ bits (six_bits w.right [])
rights-in w e =
    let i = open-rights accesses w.right w.meets (not w.known) (w.codes 0 ∷ w.codes 1 ∷ []) (w.codes 0 ∷ w.codes 1 ∷ w.codes 2 ∷ []) e in
    part w 48 ∙ ap bits i.0 ∙ none (w.codes 0) (w.codes 1) (w.codes 2) i.1
  where
    none : (x y z : Bool) → some (x ∷ y ∷ z ∷ []) ≡ false → bits (six_bits w.right (x ∷ y ∷ [])) ≡ bits (six_bits w.right [])
    none true y z h = clash (cc)
    none false true z h = clash (cc)
    none false false z h = refl
