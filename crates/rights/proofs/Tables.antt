-- The tables of Direct and Indirect as the code has them: the formula for AP, and the bits of the sixteen base codes. Assumes nothing.
use mathlib.Core.Path.{◌≡◌, refl}
use mathlib.Core.Bool.{Bool, true, false, not, ◌&&◌}
use Prim.Native.Nat.{ℕ, ◌%◌}
use native.Mathlib.Omega.{arith}
use lib.Dec.{ltb}
use lib.ListN.{get_or}
use Rattle.records.specs.Bits.{bit}
use Rattle.records.proofs.Cases.{at}
use Rattle.records.specs.Access.{six}
use Rattle.rights.specs.Direct.{ap}
use Rattle.rights.specs.Indirect.{meanings, fields, reserved, code_of}
use Rattle.rights.specs.Mirror.BaseMasks.{codes}
use Rattle.rights.specs.declared.indirect.Code.{Code}

-- AP's table as a formula
pub ap-is : (a b : Bool) → ap a b ≡ six true (not a) true b (b && not a) true
unfolding ap
ap-is false false = refl
ap-is false true = refl
ap-is true false = refl
ap-is true true = refl

-- the fields that the bits of an entry stand for
abbrev pub from_bits : ℕ → Code
from_bits b = record { read = bit b 0; write = bit b 1; execute = bit b 2; overlay = bit b 3; reserved = bit b 4; unjudged = bit b 5 }

-- the table's rule, checked once over all entries
pub code_is : (n : ℕ) → from_bits (get_or codes (n % 16) 0) ≡ code_of n
unfolding code_of
code_is n =
    at 16 (λ (k : ℕ). from_bits (get_or codes k 0)) (λ (k : ℕ). fields (get_or meanings k reserved) (ltb k 8)) refl (n % 16) (omega arith)
