-- The lines of leaves, one more at a time. Assumes nothing.
use mathlib.Core.Logic.{◌⊎◌, inl, inr}
use mathlib.Core.Path.{◌≡◌, refl, sym, ap, ◌∙◌}
use mathlib.Core.List.{List, [], ◌∷◌, ◌++◌, append_assoc, append-nil}
use Prim.Native.Nat.{ℕ, zero, suc, ◌+◌, ◌*◌, ◌/◌, ◌≤◌, ◌<◌}
use native.Mathlib.Nat.{add-zero, suc-add, add-suc, zero-add}
use native.Mathlib.Omega.{arith}
use lib.ListN.{length, get_or, take, drop, length-append, length-drop}
use lib.Seq.{take_at, drop_at, drop-drop, get_or-drop}
use Rattle.records.specs.Leaf.{leaf_of, leaf_slice}
use Rattle.text.specs.Lines.{leaf_line}
use Rattle.text.specs.Listing.{line_at, lines_from}
use Rattle.text.specs.Mirror.Writer.{Adds}
use Rattle.text.specs.declared.writer.Writer.{Writer}
use Rattle.text.proofs.WriterLaws.{then}

more : (f : ℕ → List ℕ) (m i : ℕ) → lines_from f (suc m) i ≡ lines_from f m i ++ f (i + m)
unfolding lines_from
more f zero i = append-nil (f i) ∙ ap f (sym (add-zero i))
more f (suc m) i =
    ap (λ (t : List ℕ). f i ++ t) (more f m (suc i) ∙ ap (λ (k : ℕ). lines_from f m (suc i) ++ f k) (suc-add i m ∙ sym (add-suc i m)))
    ∙ sym (append_assoc (f i) (lines_from f m (suc i)) (f (i + suc m)))

pub start : (f : ℕ → List ℕ) → lines_from f 0 0 ≡ []
unfolding lines_from
start f = refl

-- what is left of the leaves ls from leaf k on begins with that leaf
pub one-leaf : (ls rest leaf more : List ℕ) (k : ℕ) → rest ≡ drop (k * 18) ls → rest ≡ leaf ++ more → length leaf ≡ 18 → k * 18 ≤ length ls
    → (leaf ≡ leaf_slice ls k) × (more ≡ drop ((k + 1) * 18) ls) × ((k + 1) * 18 ≤ length ls)
one-leaf ls rest leaf more k e f l h =
    let n : (k + 1) * 18 ≡ k * 18 + 18 = omega arith in
    let g : leaf ++ more ≡ drop (k * 18) ls = sym f ∙ e in (
      sym (take_at leaf more 18 l) ∙ ap (take 18) g,
      sym (drop_at leaf more 18 l) ∙ ap (drop 18) g ∙ drop-drop 18 (k * 18) ls ∙ rw n,
      omega (arith, l, h, length-append leaf more, length-drop (k * 18) ls, ap (λ (l : List ℕ). length l) g),
    )

-- and what is left of the rights rs, with that leaf's
pub one-right : (rs rest more : List ℕ) (k r : ℕ) → rest ≡ drop k rs → rest ≡ r ∷ more → (r ≡ get_or rs k 0) × (more ≡ drop (k + 1) rs)
one-right rs rest more k r e f =
    let g : r ∷ more ≡ drop k rs = sym f ∙ e in
    (ap (λ (l : List ℕ). get_or l 0 0) g ∙ get_or-drop k rs 0 0 ∙ rw add-zero, ap (drop 1) g ∙ drop-drop 1 k rs)

-- one line more, of the leaf's bytes
pub turn : (rs ls leaf : List ℕ) (p q r : Writer) (k i right : ℕ) → i ≡ k → right ≡ get_or rs k 0 → leaf ≡ leaf_slice ls k
    → Adds p (lines_from (line_at rs ls) k 0) q → Adds q (leaf_line i right (get_or leaf 17 0)) r
    → Adds p (lines_from (line_at rs ls) (k + 1) 0) r
unfolding leaf_of
turn rs ls leaf p q r k i right e f g a b =
    let n : k + 1 ≡ suc k = omega arith in
    let z : 0 + k ≡ k = zero-add k in
    rw (n, more (line_at rs ls) k 0, z) (then p q r _ _ a (rw (e, f, g) at b))

-- no line more, where less than a leaf is left, or no rights
pub all-lines : (ls rs left right : List ℕ) (k : ℕ) → left ≡ drop (k * 18) ls → right ≡ drop k rs → k * 18 ≤ length ls
    → length ls / 18 ≤ length rs → (length left < 18) ⊎ (length right ≡ 0) → k ≡ length ls / 18
all-lines ls rs left right k e f h g (inl l) = omega (arith, h, l, ap (λ (l : List ℕ). length l) e ∙ length-drop (k * 18) ls)
all-lines ls rs left right k e f h g (inr l) = omega (arith, h, g, l, ap (λ (l : List ℕ). length l) f ∙ length-drop k rs)
