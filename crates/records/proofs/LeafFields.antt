-- Laws of a file's leaf fields: one field more, the end, and what a file that is read holds. Cited by the proofs of `mapfile`,
-- and by those who read a file's leaves. Assumes nothing.
use mathlib.Core.Path.{◌≡◌, refl}
use mathlib.Core.List.{List, [], ◌∷◌, ◌++◌, append_assoc, append-nil}
use mathlib.Core.Bool.{Bool, true, false, cond}
use Prim.Native.Nat.{ℕ, zero, suc, ◌+◌, ◌*◌, ◌-◌, ◌≤◌, ◌<◌}
use native.Mathlib.Nat.{zero-add, add-zero, add_assoc, not-suc-le-zero}
use native.Mathlib.Omega.{arith}
use lib.Dec.{leb}
use lib.ListN.{length, take, drop, length-append, length-take, length-drop, drop_of_length-le}
use lib.Seq.{take_at, drop-drop, length-take-le}
use borrow.Author.Tests.{leb-true, le-leb, lt-leb}
use Rattle.records.proofs.Cases.{both_hold}
use Rattle.records.proofs.Copies.{copied}
use Rattle.records.specs.Mirror.LeafFields.{leaves_in, delivered}
use Rattle.std.specs.Prelude.{Result, Ok, Err, Option, Some, None}
use Rattle.records.specs.declared.refusal.Refusal.{Refusal}
use Rattle.records.specs.declared.refusal.Refusal.TheVariants.{ListLength, IllFormed}
use Rattle.records.specs.MapFile.{begins_with, value, rest, Leaves, leaves, ill_formed, prepend, leaves_of, file_of, FileResult, read_file}

pub prepend-none : (x : Leaves) → prepend 0 [] x ≡ x
prepend-none (leaves m c) = rw zero-add
prepend-none ill_formed = refl

prepend-twice : (n m : ℕ) (a b : List ℕ) (x : Leaves) → prepend n a (prepend m b x) ≡ prepend (n + m) (a ++ b) x
prepend-twice n m a b (leaves k c) = rw (add_assoc, append_assoc)
prepend-twice n m a b ill_formed = refl

-- a field that s begins with lies within s
pub whole : (tag len : ℕ) (s : List ℕ) → begins_with tag len s ≡ true → len + 3 ≤ length s
unfolding begins_with
whole tag len s e = leb-true (len + 3) (length s) (both_hold (leb (len + 3) (length s)) _ e).0

-- a field's value has the field's length
pub value-length : (len : ℕ) (s : List ℕ) → len + 3 ≤ length s → length (value len s) ≡ len
value-length len s h = simp (length-take, length-drop) (omega arith)

-- what is left from index k on, with room for m fields
module _ (s : List ℕ) (k : ℕ) where
  -- nothing
  pub ends : (m n : ℕ) (b : List ℕ) → length s ≤ k → prepend n b (leaves_of m (drop k s)) ≡ leaves n b
  unfolding leaves_of
  ends zero n b h = rw (drop_of_length-le s h, add-zero, append-nil)
  ends (suc m) n b h = rw (drop_of_length-le s h, add-zero, append-nil)

  -- something, and no room
  pub too_many : (m n : ℕ) (b : List ℕ) → m ≡ 0 → k < length s → prepend n b (leaves_of m (drop k s)) ≡ ill_formed
  unfolding leaves_of
  too_many m n b e h = rw (e, none (drop k s) (rw length-drop (omega arith)))
    where
      none : (t : List ℕ) → 0 < length t → leaves_of 0 t ≡ ill_formed
      none [] h = absurd (not-suc-le-zero h)
      none (x ∷ t) h = refl

  -- something, and room
  next : (m : ℕ) → k < length s
      → leaves_of (suc m) (drop k s)
      ≡ cond (begins_with 2 18 (drop k s)) (prepend 1 (value 18 (drop k s)) (leaves_of m (rest 18 (drop k s)))) ill_formed
  unfolding leaves_of
  next m h = one (drop k s) (rw length-drop (omega arith))
    where
      one : (t : List ℕ) → 0 < length t
          → leaves_of (suc m) t ≡ cond (begins_with 2 18 t) (prepend 1 (value 18 t) (leaves_of m (rest 18 t))) ill_formed
      one [] h = absurd (not-suc-le-zero h)
      one (x ∷ t) h = refl

  -- no leaf field begins there
  pub other : (m n : ℕ) (b : List ℕ) → 0 < m → k < length s → begins_with 2 18 (drop k s) ≡ false
      → prepend n b (leaves_of m (drop k s)) ≡ ill_formed
  other zero n b z h e = absurd (not-suc-le-zero z)
  other (suc m) n b z h e = rw (next m h, e)

  -- a leaf field begins there
  pub one_more : (m n : ℕ) (b c : List ℕ) → 0 < m → k < length s → begins_with 2 18 (drop k s) ≡ true → c ≡ b ++ value 18 (drop k s)
      → prepend n b (leaves_of m (drop k s)) ≡ prepend (n + 1) c (leaves_of (m - 1) (drop (k + 21) s))
  one_more zero n b c z h e q = absurd (not-suc-le-zero z)
  one_more (suc m) n b c z h e q =
      let p : suc m - 1 ≡ m = omega arith in
      rw (next m h, e, prepend-twice, q, p, drop-drop 21 k s)

-- x in place from index k on, behind the first k elements of v
pub placed : (k m : ℕ) (v x p : List ℕ) → k ≤ length v → length x ≡ m → take (k + m) (take k v ++ (x ++ p)) ≡ take k v ++ x
placed k m v x p h e = rw (← append_assoc) (take_at (take k v ++ x) p (k + m) (rw (length-append, length-take-le, e)))

-- one turn of the loop: the value of the field that begins at k is put behind n values
pub turn : (file v p ys : List ℕ) (n k : ℕ) → n < 2048 → k + 21 ≤ length file → n * 18 ≤ length v
    → begins_with 2 18 (drop k file) ≡ true
    → ys ≡ take (k + 21 - (k + 3)) (drop (k + 3) file)
    → prepend n (take (n * 18) v) (leaves_of (2048 - n) (drop k file))
    ≡ prepend (n + 1) (take ((n + 1) * 18) (take (n * 18) v ++ (ys ++ p))) (leaves_of (2048 - (n + 1)) (drop (k + 21) file))
turn file v p ys n k hn hk hv e q =
    let w : k + 21 - (k + 3) ≡ 18 = omega arith in
    let g : (n + 1) * 18 ≡ n * 18 + 18 = omega arith in
    let f : 2048 - n - 1 ≡ 2048 - (n + 1) = omega arith in
    let l : length (take 18 (drop (k + 3) file)) ≡ 18 = simp (length-take, length-drop) (omega arith) in
    let b : take (n * 18 + 18) (take (n * 18) v ++ (ys ++ p)) ≡ take (n * 18) v ++ value 18 (drop k file) =
    rw (q, w, drop-drop 3 k file) (placed (n * 18) 18 v _ p hv l) in
    rw (g, ← f) (one_more file k (2048 - n) n _ _ (omega arith) (omega arith) e b)

-- the leaf fields are at most m, and their values have 18 bytes each
abbrev Counted : ℕ → Leaves → Type 0
Counted m (leaves n b) = (n ≤ m) × (length b ≡ n * 18)
Counted m ill_formed = Unit {0}

counts : (m : ℕ) (s : List ℕ) → Counted m (leaves_of m s)
unfolding leaves_of
counts zero [] = (omega arith, refl)
counts zero (x ∷ s) = tt
counts (suc m) [] = (omega arith, refl)
counts (suc m) (x ∷ s) = go (begins_with 2 18 (x ∷ s)) refl (leaves_of m (rest 18 (x ∷ s))) (counts m (rest 18 (x ∷ s)))
  where
    go : (t : Bool) → begins_with 2 18 (x ∷ s) ≡ t → (l : Leaves) → Counted m l
        → Counted (suc m) (cond t (prepend 1 (value 18 (x ∷ s)) l) ill_formed)
    go false e l h = tt
    go true e ill_formed h = tt
    go true e (leaves n b) h =
        (omega arith, omega (arith, length-append (value 18 (x ∷ s)) b, value-length 18 (x ∷ s) (whole 2 18 (x ∷ s) e)))

pub counted : (m : ℕ) (s : List ℕ) (n : ℕ) (b : List ℕ) → leaves_of m s ≡ leaves n b → (n ≤ m) × (length b ≡ n * 18)
counted m s n b e = rw e at (counts m s)

-- the answer and what the lent buffer holds afterwards are what a definition says
abbrev Gives : FileResult → Result ℕ Refusal → List ℕ → Type 0
Gives w x p = (x ≡ w.answer) × (p ≡ w.leaves)

-- a file that does not begin with a setup
pub read-other : (s b : List ℕ) → begins_with 1 52 s ≡ false → Gives (read_file s b) (Err IllFormed) b
unfolding read_file file_of
read-other s b e = rw e (refl, refl)

-- a file that begins with one, by the answer r of `leaf_fields`, which leaves v in its buffer
module _ (s v : List ℕ) (r : Option ℕ) (e : begins_with 1 52 s ≡ true) (f : leaves_of 2048 (rest 52 s) ≡ leaves_in r v) where
  pub read-ill : (b : List ℕ) → r ≡ None → Gives (read_file s b) (Err IllFormed) b
  unfolding read_file file_of
  read-ill b g = rw (e, f, g) (refl, refl)

  pub read_whole : (b p : List ℕ) (x : Result ℕ Refusal) (n : ℕ) → r ≡ Some n → Gives (delivered v n b) x p → Gives (read_file s b) x p
  unfolding read_file file_of delivered
  read_whole b p x n g h = rw (e, f, g) h

  pub few : (n : ℕ) → r ≡ Some n → n ≤ 2048
  few n g = (counted 2048 (rest 52 s) n (take (n * 18) v) (rw g at f)).0

-- what is handed over where the lent buffer is long enough for the n leaves that v begins with, and where it is not
module _ (v b : List ℕ) (n : ℕ) (h : n * 18 ≤ length v) where
  pub handed : n * 18 ≤ length b → (x : List ℕ) → x ≡ take (n * 18) v → Gives (delivered v n b) (Ok n) (x ++ drop (n * 18) b)
  unfolding delivered
  handed e x q = rw (copied (n * 18) x v b h q, length-take-le (n * 18) v h, le-leb (n * 18) (length b) e) (refl, refl)

  pub kept : length b < n * 18 → Gives (delivered v n b) (Err ListLength) b
  unfolding delivered
  kept e = rw (length-take-le (n * 18) v h, lt-leb (n * 18) (length b) e) (refl, refl)
