-- Document 01, 'The order a judgement is made in', stage 1: its steps for one access. Assumes nothing.
use Rattle.std.specs.Prelude.{ℕ, Bool, true, cond, ◌&&◌, List, [], ◌∷◌}
use Rattle.records.specs.Access.{has}
use Rattle.records.specs.declared.access.Access.{Access}
use Rattle.records.specs.declared.access.Rights.{Rights}
use Rattle.records.specs.declared.descriptor.Limits.{Limits}
use Rattle.records.specs.declared.descriptor.Stage1.{Stage1}
use Rattle.records.specs.declared.setup.Control.{Control}
use Rattle.records.specs.declared.setup.PerLevel.{PerLevel}
use Rattle.records.specs.declared.setup.Setup.{Setup}
use Rattle.rights.specs.Answers.{follow, fault_unless, refuse_if, descriptor_answer}
use Rattle.rights.specs.Direct.{direct_steps}
use Rattle.rights.specs.Indirect.{codes_at, reserved_code, unjudged_code, code_rights, code_overlays}
use Rattle.rights.specs.Overlay.{overlay_answer}
use Rattle.rights.specs.Steps.{Step, fixed, everything, left_after, first_remover}
use Rattle.rights.specs.declared.answers.Kind.TheVariants.{Permission}
use Rattle.records.specs.declared.refusal.Refusal.TheVariants.{ReservedCode, Unjudged}
use Rattle.rights.specs.Answers.{Answer}
use Rattle.rights.specs.declared.answers.Stage.TheVariants.{One}

-- dirty state at stage 1: bit 51 set under Direct, bit 7 under Indirect
abbrev pub dirty : Control → Stage1 → Bool
dirty c d = cond c.indirect d.bit7 d.bit51

-- base codes, read under Indirect alone: 6, and 7
abbrev pub reserved_base : Setup → Stage1 → Bool
reserved_base s d = s.control.indirect && reserved_code s.control.two (codes_at s.pir d.piindex)

abbrev pub unjudged_base : Setup → Stage1 → Bool
unjudged_base s d = s.control.indirect && unjudged_code s.control.two (codes_at s.pir d.piindex)

-- the steps that take base rights away: under Indirect the base code alone, cause 1, under Direct those of AP and what follows, causes 1 to 7
abbrev pub base_steps : Setup → Stage1 → Limits → List Step
base_steps s d t =
    cond s.control.indirect (fixed 1 (code_rights s.control.two (codes_at s.pir d.piindex)) ∷ []) (direct_steps s.control d t)

-- the base rights; and the first remover of one that is missing
unfoldable pub base_rights : Setup → Stage1 → Limits → Rights
base_rights s d t = left_after everything (base_steps s d t)

unfoldable pub base_cause : Setup → Stage1 → Limits → Access → ℕ
base_cause s d t a = first_remover a everything (base_steps s d t)

-- overlays apply to Direct leaves, and to codes 0 to 7
abbrev pub overlays_apply : Setup → Stage1 → PerLevel Bool
overlays_apply s d =
    cond s.control.indirect (code_overlays (codes_at s.pir d.piindex)) (record { privileged = true; unprivileged = true })

-- base codes 6, then 7; Permission fault, with the first remover as its cause; overlay code 6; Overlay fault
unfoldable pub base_answer : Setup → Stage1 → Limits → Access → Answer
base_answer s d t a =
    follow (refuse_if (reserved_base s d) ReservedCode)
    (follow (refuse_if (unjudged_base s d) Unjudged)
    (follow (fault_unless (has (base_rights s d t) a) One Permission (base_cause s d t a))
    (overlay_answer s d (overlays_apply s d) a)))

-- Translation fault (cause 11), Access flag fault (12), 7 for dirty state, then the base codes and what follows
unfoldable pub stage1_answer : Setup → Stage1 → Limits → Access → Answer
stage1_answer s d t a = follow (descriptor_answer One 11 12 d.valid d.af (dirty s.control d)) (base_answer s d t a)
