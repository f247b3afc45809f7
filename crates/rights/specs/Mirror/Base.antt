-- Stage 1 of all accesses of a leaf up to the Permission fault: base rights with where overlays apply, or a refusal. Nothing here needs to be
-- believed: the law `base-as` of proofs/Agree says that it is what Stage1 has. Assumes nothing.
use Rattle.std.specs.Prelude.{ℕ, Bool, true, cond, Err, Result, Ok}
use Rattle.records.specs.Access.{has}
use Rattle.records.specs.Descriptor.{code_at}
use Rattle.records.specs.declared.access.Access.{Access}
use Rattle.records.specs.declared.access.Rights.{Rights}
use Rattle.records.specs.declared.descriptor.Limits.{Limits}
use Rattle.records.specs.declared.descriptor.Stage1.{Stage1}
use Rattle.records.specs.declared.descriptor.index.PIIndex.{PIIndex}
use Rattle.records.specs.declared.setup.Control.{Control}
use Rattle.records.specs.declared.setup.PerLevel.{PerLevel}
use Rattle.records.specs.declared.setup.Setup.{Setup}
use Rattle.rights.specs.Answers.{follow, fault_unless}
use Rattle.rights.specs.Direct.{direct_of}
use Rattle.rights.specs.Indirect.{code_of, reserved_code, unjudged_code, code_rights, code_overlays}
use Rattle.rights.specs.Overlay.{overlay_answer}
use Rattle.rights.specs.declared.answers.Kind.TheVariants.{Permission}
use Rattle.rights.specs.declared.indirect.Code.{Code}
use Rattle.rights.specs.declared.answers.Stop.TheVariants.{Refused}
use Rattle.rights.specs.Answers.{Answer}
use Rattle.records.specs.declared.refusal.Refusal.{Refusal}
use Rattle.records.specs.declared.refusal.Refusal.TheVariants.{ReservedCode, Unjudged}
use Rattle.rights.specs.declared.answers.Stage.TheVariants.{One}

-- base rights, and whether overlays apply to them at each level
pub record Base : Type 0 where
  pub rights : Rights
  pub overlay : PerLevel Bool

abbrev pub BaseAnswer : Type 0
BaseAnswer = Result Base Refusal

-- two codes, and what they grant where neither is refused
abbrev pub pair : Code → Code → PerLevel Code
pair p u = record { privileged = p; unprivileged = u }

abbrev pub granted : Bool → Code → Code → Base
granted two p u = record { rights = code_rights two (pair p u); overlay = code_overlays (pair p u) }

-- 6, then 7, then the rights
abbrev pub indirect_step : Bool → Code → Code → BaseAnswer
indirect_step two p u =
    cond (reserved_code two (pair p u)) (Err ReservedCode) (cond (unjudged_code two (pair p u)) (Err Unjudged) (Ok (granted two p u)))

unfoldable pub indirect_of : Control → PerLevel ℕ → PIIndex → BaseAnswer
indirect_of c pir i = indirect_step c.two (code_of (code_at pir.privileged i)) (code_of (code_at pir.unprivileged i))

-- overlays apply to Direct leaves at both levels
abbrev pub direct_base : Setup → Stage1 → Limits → BaseAnswer
direct_base s d t = Ok (record {
  rights = direct_of s.control d t;
  overlay = record { privileged = true; unprivileged = true };
})

unfoldable pub base_of : Setup → Stage1 → Limits → BaseAnswer
base_of s d t = cond s.control.indirect (indirect_of s.control s.pir d.piindex) (direct_base s d t)

-- what follows for one access, where c is the cause of a missing right
abbrev pub base_from : Setup → Stage1 → ℕ → Access → BaseAnswer → Answer
base_from s d c a (Ok b) = follow (fault_unless (has b.rights a) One Permission c) (overlay_answer s d b.overlay a)
base_from s d c a (Err n) = Err (Refused n)
