-- A table that a loop fills, entry by entry. Assumes nothing.
use mathlib.Core.Path.{◌≡◌, refl, ◌∙◌}
use mathlib.Core.Bool.{Bool, true, false}
use mathlib.Core.List.{List}
use Prim.Native.Nat.{ℕ, ◌+◌, ◌<◌}
use native.Mathlib.Omega.{arith}
use lib.Dec.{eqb}
use lib.ListN.{length, get_or, set}
use lib.Seq.{get_or-set_same, get_or-set_other}
use borrow.Author.Tests.{eqb-true, eqb-false}

-- the entries before k are f's
abbrev pub Entries : (ℕ → ℕ) → List ℕ → ℕ → Type 0
Entries f t k = (j : ℕ) → j < k → get_or t j 0 ≡ f j

-- one entry more
pub one_entry : (f : ℕ → ℕ) (t : List ℕ) (k : ℕ) → k < length t → Entries f t k → (a : ℕ) → a ≡ f k → Entries f (set t k a) (k + 1)
one_entry f t k h E a p j i = go (eqb j k) refl
  where
    go : (x : Bool) → eqb j k ≡ x → get_or (set t k a) j 0 ≡ f j
    go true e = rw (eqb-true j k e) (get_or-set_same t k a 0 h ∙ p)
    go false e = let d = eqb-false j k e in get_or-set_other t k j a 0 d ∙ E j (omega arith)
