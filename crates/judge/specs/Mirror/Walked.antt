-- What the walk of a refused list answers. Nothing here needs to be believed: the laws of proofs/Refusals tie it to `walk`. Assumes nothing.
use Rattle.std.specs.Prelude.{ℕ, Ok, Err}
use Rattle.judge.specs.List.{Walk, bytes, refused}
use Rattle.records.specs.Values.{on_leaf}
use Rattle.judge.specs.Answers.{Judgement, LeafRights}
use Rattle.rights.specs.declared.answers.Stop.TheVariants.{Faulted, Refused}
use Rattle.judge.specs.Answers.{Listed}
use Rattle.records.specs.Values.{Check}

-- the refusal of a leaf
abbrev pub refusal_by : Judgement → Check
refusal_by (Ok m) = Ok tt
refusal_by (Err (Faulted g)) = Ok tt
refusal_by (Err (Refused r)) = Err r

abbrev pub refusal_in : LeafRights → Check
refusal_in (Ok b) = Ok tt
refusal_in (Err n) = Err n

-- the answer to n leaves that a walk stands for
abbrev pub listed_of : Walk → ℕ → Listed
listed_of (bytes b) n = Ok n
listed_of (refused k i) n = Err (on_leaf k i)
