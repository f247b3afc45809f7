-- A setup is read from its words, and one that is refused is refused with 13. Assumes nothing.
use Rattle.records.proofs.Cases.{clash}
use mathlib.Core.Path.{◌≡◌, refl, ap, ◌∙◌}
use mathlib.Core.Bool.{Bool, true, false, cond}
use mathlib.Core.List.{List}
use Prim.Native.Nat.{ℕ}
use lib.Dec.{eqb}
use lib.ListN.{length}
use Rattle.records.specs.Setup.{words_of, read_words, setup_from, setup_of, read_setup}
use Rattle.std.specs.Prelude.{Result, Ok, Err}
use Rattle.records.specs.declared.refusal.Refusal.{Refusal}
use Rattle.records.specs.declared.refusal.Refusal.TheVariants.{IllFormed}
use Rattle.records.specs.declared.setup.Setup.{Setup}
use Rattle.records.specs.declared.setup.Words.{Words}

pub setup-13 : (s : List ℕ) (k : Refusal) → read_setup s ≡ Err k → k ≡ IllFormed
unfolding read_setup
setup-13 s k e = go (eqb (length s) 52) refl
  where
    go : (t : Bool) → eqb (length s) 52 ≡ t → k ≡ IllFormed
    go true q = let f : Ok (setup_of s) ≡ Err k = rw q at e in clash (cc)
    go false q = let f : Err IllFormed ≡ Err k = rw q at e in cc

abbrev pub as_setup : Result Words Refusal → Result Setup Refusal
as_setup (Ok w) = Ok (setup_from w)
as_setup (Err n) = Err n

as-setup : (t : Bool) (w : Words) → cond t (Ok (setup_from w)) (Err IllFormed) ≡ as_setup (cond t (Ok w) (Err IllFormed))
as-setup true w = refl
as-setup false w = refl

-- the setup that is read, by the words that are read
pub setup-read : (s : List ℕ) (x : Result Words Refusal) → read_words s ≡ x → read_setup s ≡ as_setup x
unfolding read_setup read_words setup_of
setup-read s x e = as-setup (eqb (length s) 52) (words_of s) ∙ ap as_setup e

-- words that are refused are refused with 13
pub words-13 : (s : List ℕ) (k : Refusal) → read_words s ≡ Err k → k ≡ IllFormed
words-13 s k e = setup-13 s k (setup-read s _ e)
