-- Bits and fields of a number. Cited by the contracts of every layer. Assumes nothing.
use Rattle.std.specs.Prelude.{ℕ, ◌*◌, ◌/◌, ◌%◌, ◌^◌, Bool, eqb}

-- bit k of x
abbrev pub bit : ℕ → ℕ → Bool
bit x k = eqb (x / 2 ^ k % 2) 1

-- the number made of the n bits of x from bit k on
abbrev pub field : ℕ → ℕ → ℕ → ℕ
field x k n = x / 2 ^ k % 2 ^ n

-- the four bits at place i of a 64-bit register of sixteen places
abbrev pub nibble : ℕ → ℕ → ℕ
nibble r i = r / 2 ^ (4 * i) % 16
