-- The bits of a field that is one number are those of the descriptor. Assumes nothing.
use mathlib.Core.Path.{◌≡◌, ap}
use Prim.Native.Nat.{ℕ, ◌+◌, ◌*◌, ◌/◌, ◌%◌, ◌^◌}
use native.Mathlib.Nat.{div-div-eq-div-mul}
use native.Mathlib.Omega.{arith}
use lib.Dec.{eqb}
use Rattle.records.specs.Bits.{bit, field}
use Rattle.records.specs.Mirror.Fields.{state_of, permissions_of}

same : (x j y k : ℕ) → x / 2 ^ j % 2 ≡ y / 2 ^ k % 2 → bit x j ≡ bit y k
same x j y k e = ap (λ (n : ℕ). eqb n 1) e

pub state-bits : (k d : ℕ) → (bit (state_of k d) 0 ≡ bit d 0) × (bit (state_of k d) 1 ≡ bit d 10) × (bit (state_of k d) 2 ≡ bit d k)
state-bits k d =
    (same (state_of k d) 0 d 0 (low (d / 2 ^ 0) (d / 2 ^ 10) (d / 2 ^ k)), same (state_of k d) 1 d 10 (middle (d / 2 ^ 0) (d / 2 ^ 10) (d / 2 ^ k)), same (state_of k d) 2 d k (high (d / 2 ^ 0) (d / 2 ^ 10) (d / 2 ^ k)))
  where
    low : (x y z : ℕ) → (x % 2 ^ 1 + y % 2 ^ 1 * 2 + z % 2 ^ 1 * 4) / 2 ^ 0 % 2 ≡ x % 2
    low x y z = omega arith

    middle : (x y z : ℕ) → (x % 2 ^ 1 + y % 2 ^ 1 * 2 + z % 2 ^ 1 * 4) / 2 ^ 1 % 2 ≡ y % 2
    middle x y z = omega arith

    high : (x y z : ℕ) → (x % 2 ^ 1 + y % 2 ^ 1 * 2 + z % 2 ^ 1 * 4) / 2 ^ 2 % 2 ≡ z % 2
    high x y z = omega arith

pub permission-bits : (d : ℕ)
    → (bit (permissions_of d) 0 ≡ bit d 6) × (bit (permissions_of d) 1 ≡ bit d 7) × (bit (permissions_of d) 2 ≡ bit d 53) × (bit (permissions_of d) 3 ≡ bit d 54)
    × (permissions_of d / 4 ≡ field d 53 2)
permission-bits d = let p = permissions_of d in (
  same p 0 d 6 (omega arith),
  same p 1 d 7 (omega arith),
  same p 2 d 53 (third (d / 2 ^ 6) (d / 2 ^ 53)),
  same p 3 d 54 (fourth (d / 2 ^ 6) (d / 2 ^ 53) (d / 2 ^ 54) (div-div-eq-div-mul d (2 ^ 53) 2)),
  above (d / 2 ^ 6) (d / 2 ^ 53),
)
  where
    third : (x y : ℕ) → (x % 2 ^ 2 + y % 2 ^ 2 * 4) / 2 ^ 2 % 2 ≡ y % 2
    third x y = omega arith

    fourth : (x y z : ℕ) → y / 2 ≡ z → (x % 2 ^ 2 + y % 2 ^ 2 * 4) / 2 ^ 3 % 2 ≡ z % 2
    fourth x y z e = omega arith

    above : (x y : ℕ) → (x % 2 ^ 2 + y % 2 ^ 2 * 4) / 4 ≡ y % 2 ^ 2
    above x y = omega arith

-- the low four bits of a limits byte
pub limit-bits : (t : ℕ) → (bit (t % 16) 0 ≡ bit t 0) × (bit (t % 16) 1 ≡ bit t 1) × (bit (t % 16) 2 ≡ bit t 2) × (bit (t % 16) 3 ≡ bit t 3)
limit-bits t = let p = t % 16 in (same p 0 t 0 (omega arith), same p 1 t 1 (omega arith), same p 2 t 2 (omega arith), same p 3 t 3 (omega arith))
