-- Document 01, 'Stage 2 rights', stage 2's steps of 'The order a judgement is made in', and request A1's causes 9, 10, 13 and 14. Assumes nothing.
use Rattle.std.specs.Prelude.{ℕ, Bool, true, false, List, [], ◌∷◌, get_or}
use Rattle.records.specs.Access.{six, has}
use Rattle.records.specs.declared.access.Access.{Access}
use Rattle.records.specs.declared.access.Rights.{Rights}
use Rattle.records.specs.declared.descriptor.Stage2.{Stage2}
use Rattle.rights.specs.Answers.{follow, fault_unless, descriptor_answer}
use Rattle.rights.specs.Steps.{Step, fixed, everything, left_after, first_remover}
use Rattle.rights.specs.declared.answers.Kind.TheVariants.{Permission}
use Rattle.rights.specs.Answers.{Answer}
use Rattle.rights.specs.declared.answers.Stage.TheVariants.{Two}

-- XN 00: px ux; 01: ux; 10: neither; 11: px
unfoldable pub xn_px : ℕ → Bool
xn_px xn = get_or (true ∷ false ∷ false ∷ true ∷ []) xn false

unfoldable pub xn_ux : ℕ → Bool
xn_ux xn = get_or (true ∷ true ∷ false ∷ false ∷ []) xn false

-- S2AP bit 0 grants reads, bit 1 writes, at both levels. Execution does not need the read bit
abbrev pub s2ap : Stage2 → Rights
s2ap e = six e.read e.write true e.read e.write true

-- XN takes px or ux away
abbrev pub xn : Stage2 → Rights
xn e = six true true (xn_px e.xn) true true (xn_ux e.xn)

-- request A1: S2AP 9, XN 10
abbrev pub stage2_steps : Stage2 → List Step
stage2_steps e = fixed 9 (s2ap e) ∷ fixed 10 (xn e) ∷ []

-- the rights; and the first remover of one that is missing
unfoldable pub stage2_rights : Stage2 → Rights
stage2_rights e = left_after everything (stage2_steps e)

unfoldable pub stage2_cause : Stage2 → Access → ℕ
stage2_cause e a = first_remover a everything (stage2_steps e)

-- Translation fault (cause 13), Access flag fault (14), 7 for dirty state (bit 51 set), Permission fault, with the first remover as its cause
unfoldable pub stage2_answer : Stage2 → Access → Answer
stage2_answer e a =
    follow (descriptor_answer Two 13 14 e.valid e.af e.bit51) (fault_unless (has (stage2_rights e) a) Two Permission (stage2_cause e a))
