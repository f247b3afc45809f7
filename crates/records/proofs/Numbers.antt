-- Document 01, 'Setup and leaf records': numbers are little-endian. The number that is read of the bytes of x, lowest first, is x. Assumes
-- nothing.
use mathlib.Core.Path.{◌≡◌}
use mathlib.Core.List.{List, [], ◌∷◌}
use Prim.Native.Nat.{ℕ, zero, suc, ◌/◌, ◌%◌, ◌^◌, ◌<◌}
use native.Mathlib.Omega.{arith}
use Rattle.records.specs.Bytes.{le16, le32, le64}

-- the n bytes of x, lowest first
abbrev pub bytes_of : ℕ → ℕ → List ℕ
bytes_of zero x = []
bytes_of (suc n) x = x % 256 ∷ bytes_of n (x / 256)

pub little_endian : (x : ℕ)
    → (x < 2 ^ 16 → le16 (bytes_of 2 x) 0 ≡ x) × (x < 2 ^ 32 → le32 (bytes_of 4 x) 0 ≡ x) × (x < 2 ^ 64 → le64 (bytes_of 8 x) 0 ≡ x)
unfolding le64
little_endian x = (λ h. omega arith, λ h. omega arith, λ h. omega arith)
