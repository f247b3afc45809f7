-- A leaf that is refused is refused with 13. Assumes nothing.
use Rattle.records.proofs.Cases.{clash}
use mathlib.Core.Path.{◌≡◌, refl}
use mathlib.Core.Bool.{Bool, true, false}
use mathlib.Core.List.{List}
use Prim.Native.Nat.{ℕ}
use lib.Dec.{eqb}
use lib.ListN.{length}
use borrow.Author.Tests.{eq-eqb}
use Rattle.records.specs.Leaf.{leaf_of, read_leaf}
use Rattle.records.specs.declared.refusal.Refusal.{Refusal}
use Rattle.records.specs.declared.refusal.Refusal.TheVariants.{IllFormed}
use Rattle.std.specs.Prelude.{Ok, Err}

pub leaf-13 : (s : List ℕ) (k : Refusal) → read_leaf s ≡ Err k → k ≡ IllFormed
unfolding read_leaf
leaf-13 s k e = go (eqb (length s) 18) refl
  where
    go : (t : Bool) → eqb (length s) 18 ≡ t → k ≡ IllFormed
    go true q = let f : Ok (leaf_of s) ≡ Err k = rw q at e in clash (cc)
    go false q = let f : Err IllFormed ≡ Err k = rw q at e in cc

-- 18 bytes are a leaf
pub leaf-read : (s : List ℕ) → length s ≡ 18 → read_leaf s ≡ Ok (leaf_of s)
unfolding read_leaf
leaf-read s e = rw (eq-eqb _ _ e)
