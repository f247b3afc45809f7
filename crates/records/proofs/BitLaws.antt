-- Numbers of bits: `bit_and`, `bit_or` and `bit_xor` go by bits, a remainder by a power of two takes the lowest and a quotient drops them. Assumes nothing.
use mathlib.Core.Path.{◌≡◌, refl, sym, ap₂, ◌∙◌, subst}
use mathlib.Core.Bool.{Bool, true, false, cond, not, ◌&&◌, ◌||◌, and_assoc, or_assoc, and-or_distrib_left}
use mathlib.Core.List.{List, [], ◌∷◌}
use Prim.Native.Nat.{ℕ, zero, suc, ◌+◌, ◌*◌, ◌/◌, ◌%◌, ◌^◌, ◌<◌, min, max}
use native.Mathlib.Nat.{pow-suc, mul_comm, zero-mod, zero-div, div-div-eq-div-mul}
use native.Mathlib.Omega.{arith}
use lib.Arith.{bin_ind, digits_div, digits_mod, mod-mul}
use lib.Pow.{pow_pos}
use lib.Bits.{bit_and, bit_or, bit_xor, differ, and_step, or_step, xor_step, or_zero_r, and_zero_r, xor_zero_r, or_add_and, and_le_r}
use lib.Dec.{eqb}
use lib.ListN.{take, drop}
use borrow.Author.Tests.{ne_eqb}
use Rattle.records.specs.Access.{digit}
use Rattle.records.proofs.Cases.{at}
use Rattle.records.specs.Mirror.BitLists.{bits}

digit_low : (b : Bool) → digit b < 2
digit_low true = omega arith
digit_low false = omega arith

half : (b : Bool) (l : List Bool) → bits (b ∷ l) / 2 ≡ bits l
half b l = digits_div (bits l) (digit_low b)

lowest : (b : Bool) (l : List Bool) → bits (b ∷ l) % 2 ≡ digit b
lowest b l = digits_mod (bits l) (digit_low b)

-- both; and one of two, as far as both lists go, then the rest of either
abbrev pub ands : List Bool → List Bool → List Bool
ands [] l = []
ands (a ∷ k) [] = []
ands (a ∷ k) (b ∷ l) = (a && b) ∷ ands k l

abbrev pub ors : List Bool → List Bool → List Bool
ors [] l = l
ors (a ∷ k) [] = a ∷ k
ors (a ∷ k) (b ∷ l) = (a || b) ∷ ors k l

-- one of two and not the other
abbrev pub other : Bool → Bool → Bool
other a b = cond a (not b) b

abbrev pub xors : List Bool → List Bool → List Bool
xors [] l = l
xors (a ∷ k) [] = a ∷ k
xors (a ∷ k) (b ∷ l) = other a b ∷ xors k l

and-digit : (a b : Bool) → min (digit a) (digit b) ≡ digit (a && b)
and-digit true true = refl
and-digit true false = refl
and-digit false true = refl
and-digit false false = refl

or-digit : (a b : Bool) → max (digit a) (digit b) ≡ digit (a || b)
or-digit true true = refl
or-digit true false = refl
or-digit false true = refl
or-digit false false = refl

xor-digit : (a b : Bool) → differ (digit a) (digit b) ≡ digit (other a b)
xor-digit true true = refl
xor-digit true false = refl
xor-digit false true = refl
xor-digit false false = refl

pub and-bits : (k l : List Bool) → bit_and (bits k) (bits l) ≡ bits (ands k l)
and-bits [] l = refl
and-bits (a ∷ k) [] = and_zero_r (bits (a ∷ k))
and-bits (a ∷ k) (b ∷ l) =
    and_step (bits (a ∷ k)) (bits (b ∷ l)) ∙ rw (half a k, half b l, lowest a k, lowest b l, and-bits k l, and-digit a b)

pub or-bits : (k l : List Bool) → bit_or (bits k) (bits l) ≡ bits (ors k l)
or-bits [] l = refl
or-bits (a ∷ k) [] = or_zero_r (bits (a ∷ k))
or-bits (a ∷ k) (b ∷ l) =
    or_step (bits (a ∷ k)) (bits (b ∷ l)) ∙ rw (half a k, half b l, lowest a k, lowest b l, or-bits k l, or-digit a b)

pub xor-bits : (k l : List Bool) → bit_xor (bits k) (bits l) ≡ bits (xors k l)
xor-bits [] l = refl
xor-bits (a ∷ k) [] = xor_zero_r (bits (a ∷ k))
xor-bits (a ∷ k) (b ∷ l) =
    xor_step (bits (a ∷ k)) (bits (b ∷ l)) ∙ rw (half a k, half b l, lowest a k, lowest b l, xor-bits k l, xor-digit a b)

-- the bits of the low end, and those above
pub low_bits : (n : ℕ) (l : List Bool) → bits l % 2 ^ n ≡ bits (take n l)
low_bits zero l = omega arith
low_bits (suc n) [] = zero-mod (2 ^ suc n)
low_bits (suc n) (b ∷ l) =
    rw (pow-suc 2 n) (mod-mul (bits (b ∷ l)) (pow_pos n) (omega arith) ∙ rw (half b l, lowest b l, low_bits n l))

pub high_bits : (n : ℕ) (l : List Bool) → bits l / 2 ^ n ≡ bits (drop n l)
high_bits zero l = omega arith
high_bits (suc n) [] = zero-div (2 ^ suc n)
high_bits (suc n) (b ∷ l) =
    rw (pow-suc 2 n, mul_comm (2 ^ n) 2, ← (div-div-eq-div-mul (bits (b ∷ l)) 2 (2 ^ n)), half b l) (high_bits n l)

-- some bit is on
abbrev pub some : List Bool → Bool
some [] = false
some (b ∷ l) = b || some l

pub none-bits : (l : List Bool) → eqb (bits l) 0 ≡ not (some l)
none-bits [] = refl
none-bits (true ∷ l) = ne_eqb (bits l * 2 + 1) 0 (λ e. omega arith)
none-bits (false ∷ l) = twice (bits l) ∙ none-bits l
  where
    twice : (n : ℕ) → eqb (n * 2 + 0) 0 ≡ eqb n 0
    twice zero = refl
    twice (suc n) = ne_eqb (suc n * 2 + 0) 0 (λ e. omega arith) ∙ sym (ne_eqb (suc n) 0 (λ e. omega arith))

-- two numbers joined are 0 exactly where both are
pub or-none : (a b : ℕ) → eqb (bit_or a b) 0 ≡ (eqb a 0 && eqb b 0)
or-none zero b = refl
or-none (suc a) b =
    rw (ne_eqb (suc a) 0 (λ e. omega arith)) (ne_eqb (bit_or (suc a) b) 0 (λ e. omega (arith, or_add_and (suc a) b, and_le_r (suc a) b)))

-- every number has bits, so that a law of lists is one of numbers
bits_of : (n : ℕ) → (l : List Bool) × (bits l ≡ n)
bits_of =
    bin_ind (λ (n : ℕ). (l : List Bool) × (bits l ≡ n)) ([], refl)
    (λ n i. (eqb (n % 2) 1 ∷ i.0, ap₂ (λ (x y : ℕ). x * 2 + y) i.1 (at 2 (λ (k : ℕ). digit (eqb k 1)) (λ (k : ℕ). k) refl (n % 2) (omega arith)) ∙ whole n))
  where
    whole : (n : ℕ) → n / 2 * 2 + n % 2 ≡ n
    whole n = omega arith

by_three : (P : ℕ → ℕ → ℕ → Type 0) → ((k l m : List Bool) → P (bits k) (bits l) (bits m)) → (x y z : ℕ) → P x y z
by_three P f x y z =
    let a = bits_of x in
    let b = bits_of y in
    let c = bits_of z in
    subst (λ (n : ℕ). P n y z) a.1 (subst (λ (n : ℕ). P (bits a.0) n z) b.1 (subst (P (bits a.0) (bits b.0)) c.1 (f a.0 b.0 c.0)))

ands-ands : (k l m : List Bool) → ands k (ands l m) ≡ ands (ands k l) m
ands-ands [] l m = refl
ands-ands (a ∷ k) [] m = refl
ands-ands (a ∷ k) (b ∷ l) [] = refl
ands-ands (a ∷ k) (b ∷ l) (c ∷ m) = ap₂ (λ (x : Bool) (y : List Bool). x ∷ y) (sym (and_assoc a b c)) (ands-ands k l m)

ors-ors : (k l m : List Bool) → ors k (ors l m) ≡ ors (ors k l) m
ors-ors [] l m = refl
ors-ors (a ∷ k) [] m = refl
ors-ors (a ∷ k) (b ∷ l) [] = refl
ors-ors (a ∷ k) (b ∷ l) (c ∷ m) = ap₂ (λ (x : Bool) (y : List Bool). x ∷ y) (sym (or_assoc a b c)) (ors-ors k l m)

ands-ors : (k l m : List Bool) → ands k (ors l m) ≡ ors (ands k l) (ands k m)
ands-ors [] l m = refl
ands-ors (a ∷ k) [] m = refl
ands-ors (a ∷ k) (b ∷ l) [] = refl
ands-ors (a ∷ k) (b ∷ l) (c ∷ m) = ap₂ (λ (x : Bool) (y : List Bool). x ∷ y) (and-or_distrib_left a b c) (ands-ors k l m)

pub and-and : (x y z : ℕ) → bit_and x (bit_and y z) ≡ bit_and (bit_and x y) z
and-and =
    by_three (λ (x y z : ℕ). bit_and x (bit_and y z) ≡ bit_and (bit_and x y) z) (λ k l m. rw (and-bits l m, and-bits k l, and-bits k (ands l m), and-bits (ands k l) m, ands-ands k l m))

pub or-or : (x y z : ℕ) → bit_or x (bit_or y z) ≡ bit_or (bit_or x y) z
or-or = by_three (λ (x y z : ℕ). bit_or x (bit_or y z) ≡ bit_or (bit_or x y) z) (λ k l m. rw (or-bits l m, or-bits k l, or-bits k (ors l m), or-bits (ors k l) m, ors-ors k l m))

pub and-or : (x y z : ℕ) → bit_and x (bit_or y z) ≡ bit_or (bit_and x y) (bit_and x z)
and-or =
    by_three (λ (x y z : ℕ). bit_and x (bit_or y z) ≡ bit_or (bit_and x y) (bit_and x z))
    (λ k l m. rw (or-bits l m, and-bits k l, and-bits k m, and-bits k (ors l m), or-bits (ands k l) (ands k m), ands-ors k l m))
