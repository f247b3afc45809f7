-- Document 01, 'Setup and leaf records': a leaf of 18 bytes; and lists of leaves, up to 2,048. Assumes nothing.
use Rattle.std.specs.Prelude.{ℕ, ◌*◌, ◌/◌, ◌%◌, List, Bool, cond, ◌&&◌, eqb, leb, length, take, drop, Result, Ok, Err}
use Rattle.records.specs.Bytes.{byte_at, le64}
use Rattle.records.specs.declared.leaf.Leaf.{Leaf}
use Rattle.records.specs.declared.refusal.Refusal.{Refusal}
use Rattle.records.specs.declared.refusal.Refusal.TheVariants.{IllFormed}

-- the leaf of 18 bytes: stage 1 descriptor, stage 2 descriptor, limits byte, forbidden byte
unfoldable pub leaf_of : List ℕ → Leaf
leaf_of s = record { stage1 = le64 s 0; stage2 = le64 s 8; limits = byte_at s 16; forbidden = byte_at s 17 }

-- refusal 13 for a single leaf: it is not 18 bytes long
unfoldable pub read_leaf : List ℕ → Result Leaf Refusal
read_leaf s = cond (eqb (length s) 18) (Ok (leaf_of s)) (Err IllFormed)

-- a list of leaves, one after the other: how many there are, the bytes of leaf i, and leaf i
abbrev pub leaf_count : List ℕ → ℕ
leaf_count ls = length ls / 18

abbrev pub leaf_slice : List ℕ → ℕ → List ℕ
leaf_slice ls i = take 18 (drop (i * 18) ls)

abbrev pub leaf_at : List ℕ → ℕ → Leaf
leaf_at ls i = leaf_of (leaf_slice ls i)

-- 11, for a list of so many bytes: a multiple of 18 bytes, and 2,048 leaves at most
abbrev pub whole_leaves : ℕ → Bool
whole_leaves len = eqb (len % 18) 0 && leb (len / 18) 2048
