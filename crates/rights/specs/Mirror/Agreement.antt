-- What the word of a leaf says of an access, against the access's own answer. Nothing here needs to be believed: it is what `word-law` of proofs/WordLaws
-- says. Assumes nothing.
use Rattle.std.specs.Prelude.{ℕ, ◌≡◌, Bool, true, false, ◌||◌, Ok, Err}
use Rattle.records.specs.declared.access.Access.{Access}
use Rattle.rights.specs.Mirror.Words.{Word}
use Rattle.rights.specs.declared.answers.Stop.TheVariants.{Faulted, Refused}
use Rattle.rights.specs.Answers.{Answer}

-- whether an answer refuses; and if it does not, whether it permits, and its cause
abbrev pub Agrees : Answer → Bool → Bool → ℕ → Type 0
Agrees (Ok u) refuses right cause = (refuses ≡ false) × (right ≡ true) × (cause ≡ 0)
Agrees (Err (Faulted g)) refuses right cause = (refuses ≡ false) × (right ≡ false) × (cause ≡ g.cause)
Agrees (Err (Refused n)) refuses right cause = refuses ≡ true

-- some base code is refused, or px with uw
abbrev pub refused_codes : Word → Bool
refused_codes w = w.codes 0 || (w.codes 1 || w.codes 2)

abbrev pub refuses_in : Word → Access → Bool
refuses_in w a = refused_codes w || w.meets a
