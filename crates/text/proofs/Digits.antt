-- The kit's digits of a number are its decimal text, and how long that is. Assumes nothing.
use mathlib.Core.Path.{◌≡◌, refl, ap}
use mathlib.Core.Bool.{Bool, true, false, cond}
use mathlib.Core.List.{List, [], ◌∷◌, ◌++◌}
use Prim.Native.Nat.{ℕ, zero, suc, ◌*◌, ◌-◌, ◌/◌, ◌%◌, ◌^◌, ◌≤◌, ◌<◌}
use native.Mathlib.Nat.{pow-succ', one-le-pow, pow-le-pow_right}
use native.Mathlib.Omega.{arith}
use lib.Dec.{leb, ltb}
use lib.ListN.{length, length-append}
use borrow.Author.Tests.{lt-ltb, le-ltb, leb-true, leb-false}
use Rattle.io.specs.Digits.{hex_digit_ascii, last_digits, IsDigitCount}
use Rattle.text.specs.Lines.{decimal_of, decimal, hex16}

ten : (j : ℕ) → 10 ^ suc j ≡ 10 * 10 ^ j
ten j = pow-succ' 10 j

-- the fewest digits of a number below b ^ m are at most m
few : (b m n k : ℕ) → 0 < b → n < b ^ m → (m < k → b ^ (k - 1) ≤ n) → k ≤ m
few b m n k p h f = go (leb k m) refl
  where
    go : (t : Bool) → leb k m ≡ t → k ≤ m
    go true e = leb-true k m e
    go false e =
        let l = leb-false k m e in
        absurd (omega (arith, f (omega arith), pow-le-pow_right {n = b} p {i = m} {j = k - 1} (omega arith)))

from : (most k n : ℕ) → k ≤ most → 1 ≤ k → n < 10 ^ k → (1 < k → 10 ^ (k - 1) ≤ n) → last_digits 10 k n ≡ decimal_of most n
from zero k n h l u d = absurd (omega arith)
from (suc m) zero n h l u d = absurd (omega arith)
from (suc m) (suc zero) n h l u d = let e : n % 10 ≡ n = omega arith in rw (e, lt-ltb n 10 (omega arith))
from (suc m) (suc (suc j)) n h l u d =
    let s : suc (suc j) - 1 ≡ suc j = omega arith in
    let low : 10 ^ suc j ≤ n = rw s at (d (omega arith)) in
    let one : 1 ≤ 10 ^ j = one-le-pow j 10 (omega arith) in
    rw (le-ltb n 10 (omega (arith, ten j)))
    (ap (λ (t : List ℕ). t ++ (hex_digit_ascii (n % 10) ∷ []))
    (from m (suc j) (n / 10) (omega arith) (omega arith) (omega (arith, ten (suc j))) (λ g. let z : suc j - 1 ≡ j = omega arith in rw z (omega (arith, ten j)))))

-- the fewest digits are the decimal text
pub decimal-is : (n k : ℕ) → IsDigitCount 10 1 n k → n < 2 ^ 64 → (last_digits 10 k n ≡ decimal n) × (k ≤ 20)
unfolding decimal
decimal-is n k f h =
    let l = few 10 20 n k (omega arith) (omega arith) (λ g. f.2 (omega arith)) in
    (from 20 k n l f.0 f.1 f.2, l)

-- a register has at most sixteen digits, where no more were asked for
pub hex-few : (w n k : ℕ) → w ≤ 16 → IsDigitCount 16 w n k → n < 2 ^ 64 → k ≤ 16
hex-few w n k l f h = few 16 16 n k (omega arith) (omega arith) (λ g. f.2 (omega arith))

-- sixteen digits are a register's text
pub hex-is : (n k : ℕ) → IsDigitCount 16 16 n k → n < 2 ^ 64 → last_digits 16 k n ≡ hex16 n
unfolding hex16
hex-is n k f h =
    let l = hex-few 16 n k (omega arith) f h in
    let g : k ≡ 16 = let z = f.0 in omega arith in
    rw g

-- a number below 10 ^ j has at most j digits
short : (most j n : ℕ) → 1 ≤ j → n < 10 ^ j → length (decimal_of most n) ≤ j
short zero j n l u = omega arith
short (suc m) zero n l u = absurd (omega arith)
short (suc m) (suc zero) n l u = rw (lt-ltb n 10 (omega arith)) (omega arith)
short (suc m) (suc (suc j)) n l u = go (ltb n 10) refl (short m (suc j) (n / 10) (omega arith) (omega (arith, ten (suc j))))
  where
    go : (t : Bool) → ltb n 10 ≡ t → length (decimal_of m (n / 10)) ≤ suc j
        → length (cond t (hex_digit_ascii n ∷ []) (decimal_of m (n / 10) ++ (hex_digit_ascii (n % 10) ∷ []))) ≤ suc (suc j)
    go true e h = omega arith
    go false e h = omega (arith, length-append (decimal_of m (n / 10)) (hex_digit_ascii (n % 10) ∷ []))

pub decimal-short : (j n : ℕ) → 1 ≤ j → n < 10 ^ j → length (decimal n) ≤ j
unfolding decimal
decimal-short j n l u = short 20 j n l u

digits-length : (b k n : ℕ) → length (last_digits b k n) ≡ k
digits-length b zero n = refl
digits-length b (suc k) n = omega (arith, length-append (last_digits b k (n / b)) (hex_digit_ascii (n % b) ∷ []), digits-length b k (n / b))

pub hex-length : (n : ℕ) → length (hex16 n) ≡ 16
unfolding hex16
hex-length n = digits-length 16 16 n

-- a 64-bit number has at most 20 digits
pub decimal-20 : (n : ℕ) → n < 2 ^ 64 → length (decimal n) ≤ 20
decimal-20 n h = decimal-short 20 n (omega arith) (omega arith)
