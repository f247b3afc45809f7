-- What a branch gives, by which way its test went. Assumes nothing.
use mathlib.Core.Path.{◌≡◌}
use mathlib.Core.Bool.{Bool, true, false, cond}
use Rattle.records.proofs.Cases.{clash}

pub taken : {A : Type 0} (b : Bool) (x y z : A) → b ≡ true → z ≡ x → z ≡ cond b x y
taken true x y z h e = e
taken false x y z h e = clash (cc)

pub passed : {A : Type 0} (b : Bool) (x y z : A) → b ≡ false → z ≡ y → z ≡ cond b x y
passed true x y z h e = clash (cc)
passed false x y z h e = e
