-- Numbers that have the same bits are equal: by halves, up to a power of two that both are below. Assumes nothing.
use mathlib.Core.Path.{◌≡◌, refl, sym, ap, ◌∙◌}
use Prim.Native.Nat.{ℕ, zero, suc, ◌+◌, ◌*◌, ◌/◌, ◌%◌, ◌^◌, ◌<◌}
use native.Mathlib.Nat.{div-div-eq-div-mul}
use native.Mathlib.Omega.{arith}
use lib.Dec.{eqb}
use Rattle.records.proofs.Cases.{clash}
use Rattle.records.specs.Bits.{bit}

-- a digit is known by whether it is 1
digit-is : (a b : ℕ) → a < 2 → b < 2 → eqb a 1 ≡ eqb b 1 → a ≡ b
digit-is zero zero h k e = refl
digit-is zero (suc zero) h k e = clash (cc)
digit-is (suc zero) zero h k e = clash (cc)
digit-is (suc zero) (suc zero) h k e = refl
digit-is zero (suc (suc b)) h k e = absurd (omega arith)
digit-is (suc zero) (suc (suc b)) h k e = absurd (omega arith)
digit-is (suc (suc a)) b h k e = absurd (omega arith)

below_power : (n : ℕ) → n < 2 ^ n
below_power zero = omega arith
below_power (suc n) = let h = below_power n in omega arith

half-bit : (x k : ℕ) → bit (x / 2) k ≡ bit x (suc k)
half-bit x k = ap (λ (n : ℕ). eqb (n % 2) 1) (div-div-eq-div-mul x 2 (2 ^ k) ∙ ap (λ (n : ℕ). x / n) (let e : 2 * 2 ^ k ≡ 2 ^ suc k = omega arith in e))

same-below : (m x y : ℕ) → x < 2 ^ m → y < 2 ^ m → ((k : ℕ) → bit x k ≡ bit y k) → x ≡ y
same-below zero x y h g e = omega arith
same-below (suc m) x y h g e =
    let p = same-below m (x / 2) (y / 2) (omega arith) (omega arith) (λ k. half-bit x k ∙ e (suc k) ∙ sym (half-bit y k)) in
    let q = digit-is (x / 2 ^ 0 % 2) (y / 2 ^ 0 % 2) (omega arith) (omega arith) (e 0) in
    omega arith

pub same_bits : (x y : ℕ) → ((k : ℕ) → bit x k ≡ bit y k) → x ≡ y
same_bits x y e = let h = below_power (x + y) in same-below (x + y) x y (omega arith) (omega arith) e
