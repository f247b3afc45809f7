-- How long the lines are. Assumes nothing.
use mathlib.Core.Bool.{Bool, true, false, cond, ◌&&◌}
use mathlib.Core.List.{List, ◌++◌}
use mathlib.Core.Path.{◌≡◌, ◌∙◌}
use Prim.Native.Nat.{ℕ, zero, suc, ◌+◌, ◌*◌, ◌^◌, ◌≤◌, ◌<◌}
use native.Mathlib.Omega.{arith}
use lib.Bits.{bit_and, and_le_l}
use lib.Dec.{leb}
use lib.ListN.{length, get_or, drop, length-append}
use lib.Seq.{get_or-take, get_or-drop}
use Rattle.records.specs.Leaf.{leaf_of, leaf_slice}
use Rattle.text.proofs.Digits.{decimal-short, decimal-20, hex-length}
use Rattle.text.specs.Listing.{line_at, lines_from}
use Rattle.text.specs.Lines.{number_then, last_number, refusal_line, leaf_line, register_line, ascii}

-- with a leaf count of at most four digits
pub leaves-length : (n : ℕ) → n ≤ 2048 → length (last_number (ascii "leaves ") n) ≤ 12
leaves-length n h = simp length-append (omega (arith, decimal-short 4 n (omega arith) (omega arith)))

-- with an index of at most four digits, and bytes
pub leaf-length : (i r f : ℕ) → i < 2048 → r < 256 → f < 256 → length (leaf_line i r f) ≤ 17
unfolding leaf_line
leaf-length i r f hi hr hf =
    let di = decimal-short 4 i (omega arith) (omega arith) in
    let dr = decimal-short 3 r (omega arith) (omega arith) in
    let df = decimal-short 3 f (omega arith) (omega arith) in
    let db = decimal-short 3 (bit_and r f) (omega arith) (omega (arith, and_le_l r f)) in
    simp length-append (omega (arith, di, dr, df, db))

-- m lines of at most 17 bytes each
lines-length : (f : ℕ → List ℕ) (m i : ℕ) → ((k : ℕ) → k < i + m → length (f k) ≤ 17) → length (lines_from f m i) ≤ m * 17
unfolding lines_from
lines-length f zero i g = omega arith
lines-length f (suc m) i g =
    omega (arith, length-append (f i) (lines_from f m (suc i)), g i (omega arith), lines-length f m (suc i) (λ k h. g k (omega (arith, h))))

-- the lines of n leaves, where rights and leaves are bytes
pub leaves_lines : (rs ls : List ℕ) (n : ℕ) → n ≤ 2048 → ((k : ℕ) → get_or rs k 0 < 256) → ((k : ℕ) → get_or ls k 0 < 256)
    → length (lines_from (line_at rs ls) n 0) ≤ n * 17
unfolding leaf_of
leaves_lines rs ls n h r f =
    lines-length (line_at rs ls) n 0
    (λ k l.
    let e : get_or (leaf_slice ls k) 17 0 ≡ get_or ls (k * 18 + 17) 0 =
    get_or-take 18 (drop (k * 18) ls) 17 0 (omega arith) ∙ get_or-drop (k * 18) ls 17 0 in
    leaf-length k (get_or rs k 0) (get_or (leaf_slice ls k) 17 0) (omega (arith, l, h)) (r k) (omega (arith, e, f (k * 18 + 17))))

-- the count, the lines of n leaves and both levels'
pub map_length : (n : ℕ) (v w : List ℕ) → n ≤ 2048 → length v ≤ n * 17 → length w ≤ 192 → length (last_number (ascii "leaves ") n ++ (v ++ w)) ≤ 36864
map_length n v w h i j =
    omega (arith, leaves-length n h, i, j, h, length-append (last_number (ascii "leaves ") n) (v ++ w), length-append v w)

pub register_length : (r : ℕ) → length (register_line r) ≡ 17
register_length r = simp length-append (omega (arith, hex-length r))

-- a level's line and the other's, each of at most 64 bytes after its word
pub plans_length : (v w : List ℕ) → length v ≤ 64 → length w ≤ 64 → length (ascii "privileged " ++ (v ++ (ascii "unprivileged " ++ w))) ≤ 192
plans_length v w h i = omega (arith, length-append v (ascii "unprivileged " ++ w), h, i)

pub refusal_length : (k i : ℕ) → k < 256 → i < 2 ^ 64 → length (refusal_line k i) ≤ 64
unfolding refusal_line
refusal_length k i hk hi = go (leb 5 k && leb k 10)
  where
    go : (t : Bool)
        → length (ascii "refused " ++ cond t (number_then k (ascii " ") ++ last_number (ascii "leaf ") i) (number_then k (ascii "\n"))) ≤ 64
    go true =
        let dk = decimal-short 3 k (omega arith) (omega arith) in
        simp length-append (omega (arith, dk, decimal-20 i hi))
    go false = simp length-append (omega (arith, decimal-short 3 k (omega arith) (omega arith)))
