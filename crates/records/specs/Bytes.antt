-- Document 01, 'Setup and leaf records': numbers are little-endian. Bytes of a list. Assumes nothing.
use Rattle.std.specs.Prelude.{ℕ, ◌+◌, ◌*◌, ◌^◌, List, [], ◌∷◌, ◌++◌, length, drop, get_or}

-- the byte of s at index k, or 0 past the end
abbrev pub byte_at : List ℕ → ℕ → ℕ
byte_at s k = get_or s k 0

-- the number whose little-endian bytes are these
abbrev pub little : List ℕ → ℕ
little [] = 0
little (b ∷ bs) = b + 256 * little bs

-- the 16-bit number of s at index k
abbrev pub le16 : List ℕ → ℕ → ℕ
le16 s k = little (byte_at s k ∷ byte_at s (k + 1) ∷ [])

-- the 32-bit number of s at index k
abbrev pub le32 : List ℕ → ℕ → ℕ
le32 s k = little (byte_at s k ∷ byte_at s (k + 1) ∷ byte_at s (k + 2) ∷ byte_at s (k + 3) ∷ [])

-- the 64-bit number of s at index k
unfoldable pub le64 : List ℕ → ℕ → ℕ
le64 s k = le32 s k + 2 ^ 32 * le32 s (k + 4)

-- the bytes x at the start of a lent buffer, later bytes unchanged
abbrev pub over : List ℕ → List ℕ → List ℕ
over x a = x ++ drop (length x) a
