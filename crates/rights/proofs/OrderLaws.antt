-- Stage 1 comes before stage 2: the answer of both stages is that of the first that fails. Assumes nothing.
use mathlib.Core.Path.{◌≡◌, refl, ap, ◌∙◌}
use Rattle.records.proofs.Cases.{clash}
use Rattle.records.specs.declared.access.Access.{Access}
use Rattle.records.specs.declared.descriptor.Limits.{Limits}
use Rattle.records.specs.declared.descriptor.Stage1.{Stage1}
use Rattle.records.specs.declared.descriptor.Stage2.{Stage2}
use Rattle.records.specs.declared.setup.Setup.{Setup}
use Rattle.rights.specs.Answers.{follow}
use Rattle.rights.specs.Order.{stage1_if, stage2_if, stages_answer, FirstFailing}
use Rattle.std.specs.Prelude.{Ok, Err}
use Rattle.rights.specs.declared.answers.Stop.TheVariants.{Faulted, Refused}
use Rattle.rights.specs.Answers.{Answer}

followed : (x y : Answer) → FirstFailing x y (follow x y)
followed (Ok u) y = record { permits = λ e f. f; first = λ h. clash (cc); second = λ e h. refl }
followed (Err (Faulted g)) y = record { permits = λ e f. clash (cc); first = λ h. refl; second = λ e h. clash (cc) }
followed (Err (Refused n)) y = record { permits = λ e f. clash (cc); first = λ h. refl; second = λ e h. clash (cc) }

-- demand 2 for the stages
pub first-failing : (s : Setup) (d : Stage1) (e : Stage2) (t : Limits) (a : Access) → FirstFailing (stage1_if s d t a) (stage2_if s e a) (stages_answer s d e t a)
unfolding stages_answer
first-failing s d e t a = followed (stage1_if s d t a) (stage2_if s e a)

-- what meets it is the first answer, and then the second
only : (x y z : Answer) → FirstFailing x y z → z ≡ follow x y
only (Ok u) (Ok v) z h = h.permits refl refl
only (Ok u) (Err (Faulted g)) z h = h.second refl refl
only (Ok u) (Err (Refused n)) z h = h.second refl refl
only (Err (Faulted g)) y z h = h.first refl
only (Err (Refused n)) y z h = h.first refl

-- the answer of both stages, by what stage 1 answers
pub stages-as : (s : Setup) (d : Stage1) (e : Stage2) (t : Limits) (a : Access) (x : Answer) → stage1_if s d t a ≡ x
    → stages_answer s d e t a ≡ follow x (stage2_if s e a)
stages-as s d e t a x h = only _ _ _ (first-failing s d e t a) ∙ ap (λ (y : Answer). follow y (stage2_if s e a)) h
