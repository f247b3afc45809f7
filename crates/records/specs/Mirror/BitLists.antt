-- Numbers as lists of their bits, lowest first. Nothing here needs to be believed: proofs/BitLaws says what `bits` has to do with the numbers' own
-- operations. Assumes nothing.
use Rattle.std.specs.Prelude.{ℕ, ◌+◌, ◌*◌, Bool, List, [], ◌∷◌}
use Rattle.records.specs.Access.{digit}

-- the number whose bits are these
abbrev pub bits : List Bool → ℕ
bits [] = 0
bits (b ∷ l) = bits l * 2 + digit b
