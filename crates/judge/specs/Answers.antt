-- The paper's number and values for each case of an answer of the judge (document 01, 'Numbers for no', last paragraph, and 'What form each place
-- needs'). Demand 1 and the loader's interface use it. Assumes nothing.
use Rattle.std.specs.Prelude.{ℕ, Result, Ok, Err}
use Rattle.records.specs.Values.{Values, refusal, refusal_number, faulted, allowed, with_rights, with_count}
use Rattle.records.specs.declared.refusal.LeafRefusal.{LeafRefusal}
use Rattle.records.specs.declared.refusal.Refusal.{Refusal}
use Rattle.rights.specs.Answers.{stage_number, kind_number}
use Rattle.rights.specs.declared.answers.Stop.{Stop}
use Rattle.rights.specs.declared.answers.Stop.TheVariants.{Faulted, Refused}
use Rattle.attributes.specs.declared.Memory.{Memory}

-- an access: allowed with byte and SH, or a fault or a refusal
abbrev pub Judgement : Type 0
Judgement = Result Memory Stop

-- a leaf: its rights as bits, or a refusal
abbrev pub LeafRights : Type 0
LeafRights = Result ℕ Refusal

-- a list: the number of leaves whose rights and causes were written, or a refusal and its leaf
abbrev pub Listed : Type 0
Listed = Result ℕ LeafRefusal

-- a refusal as a judgement
abbrev pub refusing : Refusal → Judgement
refusing r = Err (Refused r)

abbrev pub judgement_values : Judgement → Values
judgement_values (Ok m) = allowed m.byte m.sh
judgement_values (Err (Faulted g)) = faulted (stage_number g.stage) (kind_number g.kind) g.cause
judgement_values (Err (Refused r)) = refusal (refusal_number r) 0

abbrev pub leaf_values : LeafRights → Values
leaf_values (Ok b) = with_rights b
leaf_values (Err r) = refusal (refusal_number r) 0

abbrev pub list_values : Listed → Values
list_values (Ok n) = with_count n
list_values (Err r) = refusal (refusal_number r.refusal) r.leaf
