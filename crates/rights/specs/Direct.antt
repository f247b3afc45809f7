-- Document 01, 'Stage 1 rights', **Direct**, and request A1's causes 1 to 7. A definition for each step: the rights that it keeps. The steps stand in
-- the order in which they take rights away: AP, APTable, PXN and UXN, PXNTable and UXNTable, unprivileged write, WXN, PAN. Assumes nothing.
use Rattle.std.specs.Prelude.{ℕ, Bool, true, false, cond, not, ◌&&◌, ◌||◌, List, [], ◌∷◌}
use Rattle.records.specs.Access.{six}
use Rattle.records.specs.declared.descriptor.Limits.{Limits}
use Rattle.records.specs.declared.descriptor.Stage1.{Stage1}
use Rattle.records.specs.declared.setup.Control.{Control}
use Rattle.records.specs.declared.access.Access.{Access}
use Rattle.records.specs.declared.access.Rights.{Rights}
use Rattle.rights.specs.Steps.{Step, step, fixed, everything, left_after, first_remover}

-- AP[2:1] 00: pr pw; 01: pr pw ur uw; 10: pr; 11: pr ur. It takes no execution away
unfoldable pub ap : Bool → Bool → Rights
ap false false = six true true true false false true
ap false true = six true true true true true true
ap true false = six true false true false false true
ap true true = six true false true true false true

-- one level: AP[2] 0 gives pr pw, 1 gives pr
abbrev pub ap_one : Bool → Rights
ap_one ap2 = six true (not ap2) true false false false

-- a bit of the limits, unless limits are disabled
abbrev pub limited : Control → Bool → Bool
limited c b = b && not c.unlimited

-- APTable[1:0] 01 removes ur uw, 10 removes pw uw, 11 removes pw ur uw
abbrev pub ap_table : Bool → Bool → Rights
ap_table t1 t0 = six true (not t1) true (not t0) (not t1 && not t0) true

-- PXN takes px away and UXN ux; and so do PXNTable and UXNTable
abbrev pub execute_never : Bool → Bool → Rights
execute_never p u = six true true (not p) true true (not u)

-- px holds only where uw is off: of the rights before it, it reads uw alone
abbrev pub unprivileged_write : Bool → Rights
unprivileged_write uw = six true true (not uw) true true true

-- WXN removes px where pw holds and ux where uw holds
abbrev pub wxn : Bool → Rights → Rights
wxn on r = six true true (not (on && r.pw)) true true (not (on && r.uw))

-- PAN refuses pr and pw where ur or uw holds
abbrev pub pan : Bool → Rights → Rights
pan on r = six (not (on && (r.ur || r.uw))) (not (on && (r.ur || r.uw))) true true true true

-- two levels
abbrev pub steps_two : Control → Stage1 → Limits → List Step
steps_two c d t =
    fixed 1 (ap d.ap2 d.ap1) ∷
    fixed 2 (ap_table (limited c t.aptable1) (limited c t.aptable0)) ∷
    fixed 3 (execute_never d.pxn d.uxn) ∷
    fixed 4 (execute_never (limited c t.pxntable) (limited c t.uxntable)) ∷
    step 5 (λ (r : Rights). unprivileged_write r.uw) ∷
    step 6 (wxn c.wxn) ∷
    step 7 (pan c.pan) ∷ []

-- one level: AP[1], APTable[0], PXN and PXNTable are ignored; XN and XNTable take px away
abbrev pub steps_one : Control → Stage1 → Limits → List Step
steps_one c d t =
    fixed 1 (ap_one d.ap2) ∷
    fixed 2 (ap_table (limited c t.aptable1) false) ∷
    fixed 3 (execute_never d.uxn false) ∷
    fixed 4 (execute_never (limited c t.uxntable) false) ∷
    step 6 (wxn c.wxn) ∷ []

unfoldable pub direct_steps : Control → Stage1 → Limits → List Step
direct_steps c d t = cond c.two (steps_two c d t) (steps_one c d t)

-- the rights; and the first remover of one that is missing
unfoldable pub direct_of : Control → Stage1 → Limits → Rights
direct_of c d t = left_after everything (direct_steps c d t)

unfoldable pub direct_cause : Control → Stage1 → Limits → Access → ℕ
direct_cause c d t a = first_remover a everything (direct_steps c d t)
