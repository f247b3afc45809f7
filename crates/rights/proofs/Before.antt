-- Request A1 changes no answer but for the cause that a fault has. Here are the definitions as they stood before it, with 0 for the cause that a fault did
-- not have, and the laws that they give what today's give without causes: `same-stages`, `same-rights-answer` and, for the planner, `same-permitted` and
-- `same-level`. The next request that changes an answer takes this file away. Assumes nothing.
use mathlib.Core.Path.{◌≡◌, refl, ap, ◌∙◌}
use mathlib.Core.Bool.{Bool, true, false, cond, not, ◌&&◌, ◌||◌}
use mathlib.Core.List.{List, [], ◌∷◌}
use Prim.Native.Nat.{ℕ}
use lib.Dec.{leb}
use lib.ListN.{get_or}
use Rattle.records.proofs.Cases.{each}
use Rattle.records.specs.Access.{access_of, six, has_right, has}
use Rattle.records.specs.Descriptor.{slot_at, stage1_of, stage2_of, limits_of}
use Rattle.records.specs.Setup.{of_level}
use Rattle.records.specs.declared.access.Access.{Access}
use Rattle.records.specs.declared.access.Level.{Level}
use Rattle.records.specs.declared.access.Right.{Right}
use Rattle.records.specs.declared.access.Right.TheVariants.{Read, Write, Execute}
use Rattle.records.specs.declared.access.Rights.{Rights}
use Rattle.records.specs.declared.descriptor.Limits.{Limits}
use Rattle.records.specs.declared.descriptor.Stage1.{Stage1}
use Rattle.records.specs.declared.descriptor.Stage2.{Stage2}
use Rattle.records.specs.declared.leaf.Leaf.{Leaf}
use Rattle.records.specs.declared.setup.Control.{Control}
use Rattle.records.specs.declared.setup.PerLevel.{PerLevel}
use Rattle.records.specs.declared.setup.Setup.{Setup}
use Rattle.rights.specs.Answers.{follow, fault_of, refuse_if, answer_of, permitted}
use Rattle.rights.specs.Answers as today
use Rattle.rights.specs.Checks.{setup_check, access_check, leaf_check}
use Rattle.rights.specs.Direct.{ap as ap_to, ap_one, limited, direct_steps}
use Rattle.rights.specs.Direct as direct
use Rattle.rights.specs.Indirect.{codes_at, code_rights}
use Rattle.rights.specs.Order as order
use Rattle.rights.specs.Overlay.{slot_rights}
use Rattle.rights.specs.Promise.{collect, unless_refused, level_of, LevelAnswer}
use Rattle.rights.specs.Stage1.{dirty, reserved_base, unjudged_base, overlays_apply}
use Rattle.rights.specs.Stage1 as first
use Rattle.rights.specs.Stage2.{xn_px, xn_ux}
use Rattle.rights.specs.Stage2 as second
use Rattle.rights.specs.Steps.{Step, step, fixed, everything, left_after}
use Rattle.rights.specs.declared.answers.Kind.{Kind}
use Rattle.rights.specs.declared.answers.Kind.TheVariants.{Translation, AccessFlag, Permission, Overlay}
use Rattle.std.specs.Prelude.{Result, Ok, Err}
use Rattle.records.specs.declared.refusal.Refusal.{Refusal}
use Rattle.records.specs.declared.refusal.Refusal.TheVariants.{ReservedCode, Unjudged}
use Rattle.rights.specs.declared.answers.Stop.TheVariants.{Faulted, Refused}
use Rattle.records.specs.Values.{Check}
use Rattle.rights.specs.Answers.{Answer}
use Rattle.rights.specs.declared.answers.Stage.TheVariants.{One, Two}
use Rattle.rights.specs.declared.answers.Stage.{Stage}

-- Answers, as before
abbrev fault_unless : Bool → Stage → Kind → Answer
fault_unless ok s k = cond ok (Ok tt) (fault_of s k 0)

abbrev descriptor_answer : Stage → Bool → Bool → Bool → Answer
descriptor_answer s valid af dirty = follow (fault_unless valid s Translation) (follow (fault_unless af s AccessFlag) (refuse_if dirty Unjudged))

-- Direct, as before
abbrev ap_table : Bool → Bool → Rights → Rights
ap_table t1 t0 r = six r.pr (r.pw && not t1) r.px (r.ur && not t0) (r.uw && not t1 && not t0) r.ux

abbrev execute_never : Bool → Bool → Rights → Rights
execute_never p u r = six r.pr r.pw (r.px && not p) r.ur r.uw (r.ux && not u)

abbrev unprivileged_write : Rights → Rights
unprivileged_write r = six r.pr r.pw (r.px && not r.uw) r.ur r.uw r.ux

abbrev wxn : Bool → Rights → Rights
wxn on r = six r.pr r.pw (r.px && not (on && r.pw)) r.ur r.uw (r.ux && not (on && r.uw))

abbrev pan : Bool → Rights → Rights
pan on r = six (r.pr && not (on && (r.ur || r.uw))) (r.pw && not (on && (r.ur || r.uw))) r.px r.ur r.uw r.ux

abbrev direct_two : Control → Stage1 → Limits → Rights
direct_two c d t =
    pan c.pan
    (wxn c.wxn
    (unprivileged_write
    (execute_never (limited c t.pxntable) (limited c t.uxntable)
    (execute_never d.pxn d.uxn
    (ap_table (limited c t.aptable1) (limited c t.aptable0)
    (ap_to d.ap2 d.ap1))))))

abbrev direct_one : Control → Stage1 → Limits → Rights
direct_one c d t =
    wxn c.wxn
    (execute_never (limited c t.uxntable) false
    (execute_never d.uxn false
    (ap_table (limited c t.aptable1) false
    (ap_one d.ap2))))

abbrev direct_of : Control → Stage1 → Limits → Rights
direct_of c d t = cond c.two (direct_two c d t) (direct_one c d t)

-- Stage 1, as before
abbrev slot_answer : Bool → ℕ → Right → Answer
slot_answer on v r = cond on (follow (refuse_if (leb 8 v) ReservedCode) (fault_unless (has_right (slot_rights v) r) One Overlay)) (Ok tt)

abbrev overlay_answer : Setup → Stage1 → PerLevel Bool → Access → Answer
overlay_answer s d applies a =
    slot_answer (of_level s.control.overlay a.level && of_level applies a.level)
    (slot_at (of_level s.por a.level) d.poindex) a.right

abbrev base_rights : Setup → Stage1 → Limits → Rights
base_rights s d t =
    cond s.control.indirect (code_rights s.control.two (codes_at s.pir d.piindex)) (direct_of s.control d t)

abbrev base_answer : Setup → Stage1 → Limits → Access → Answer
base_answer s d t a =
    follow (refuse_if (reserved_base s d) ReservedCode)
    (follow (refuse_if (unjudged_base s d) Unjudged)
    (follow (fault_unless (has (base_rights s d t) a) One Permission)
    (overlay_answer s d (overlays_apply s d) a)))

abbrev stage1_answer : Setup → Stage1 → Limits → Access → Answer
stage1_answer s d t a = follow (descriptor_answer One d.valid d.af (dirty s.control d)) (base_answer s d t a)

-- Stage 2, as before
abbrev stage2_rights : Stage2 → Rights
stage2_rights e = six e.read e.write (xn_px e.xn) e.read e.write (xn_ux e.xn)

abbrev stage2_answer : Stage2 → Access → Answer
stage2_answer e a = follow (descriptor_answer Two e.valid e.af e.bit51) (fault_unless (has (stage2_rights e) a) Two Permission)

-- The order, as before
abbrev pub stages_answer : Setup → Stage1 → Stage2 → Limits → Access → Answer
stages_answer s d e t a = follow (cond s.control.stage1 (stage1_answer s d t a) (Ok tt)) (cond s.control.stage2 (stage2_answer e a) (Ok tt))

abbrev leaf_answer : Setup → Leaf → Access → Answer
leaf_answer s f a = stages_answer s (stage1_of f.stage1) (stage2_of f.stage2) (limits_of f.limits) a

abbrev after_access : Setup → Leaf → (Result Access Refusal) → Answer
after_access s f (Ok a) = follow (answer_of (leaf_check f)) (leaf_answer s f a)
after_access s f (Err n) = Err (Refused n)

abbrev pub rights_answer : Setup → Leaf → ℕ → Answer
rights_answer s f n = follow (answer_of (setup_check s.control)) (after_access s f (access_check s.control.two n))

-- an answer without its cause
unfoldable pub uncaused : Answer → Answer
uncaused (Ok u) = Ok tt
uncaused (Err (Faulted g)) = fault_of g.stage g.kind 0
uncaused (Err (Refused n)) = Err (Refused n)

stands : (n : Refusal) → uncaused (Err (Refused n)) ≡ Err (Refused n)
unfolding uncaused
stands n = refl

permits : uncaused (Ok tt) ≡ Ok tt
unfolding uncaused
permits = refl

-- it is taken from a chain step by step
then : (x y : Answer) {u v : Answer} → uncaused x ≡ u → uncaused y ≡ v → uncaused (follow x y) ≡ follow u v
unfolding uncaused
then (Ok u) y p q = rw (← p) q
then (Err (Faulted g)) y p q = rw (← p)
then (Err (Refused n)) y p q = rw (← p)

either : (b : Bool) (x y : Answer) {u v : Answer} → uncaused x ≡ u → uncaused y ≡ v → uncaused (cond b x y) ≡ cond b u v
unfolding uncaused
either true x y p q = p
either false x y p q = q

fault : (b : Bool) (s : Stage) (k : Kind) (c : ℕ) → uncaused (today.fault_unless b s k c) ≡ fault_unless b s k
unfolding uncaused
fault true s k c = refl
fault false s k c = refl

refuses : (b : Bool) (n : Refusal) → uncaused (refuse_if b n) ≡ refuse_if b n
unfolding uncaused
refuses true n = refl
refuses false n = refl

checks : (c : Check) → uncaused (answer_of c) ≡ answer_of c
unfolding uncaused
checks (Ok u) = refl
checks (Err n) = refl

descriptor : (s : Stage) (t a : ℕ) (v f d : Bool) → uncaused (today.descriptor_answer s t a v f d) ≡ descriptor_answer s v f d
descriptor s t a v f d = then _ _ (fault v s Translation t) (then _ _ (fault f s AccessFlag a) (refuses d Unjudged))

-- the rights are those of the chain of steps: computed at all values of the bits that are read
abbrev at : List Bool → ℕ → Bool
at m k = get_or m k false

-- two levels: AP[2], AP[1], APTable[1], APTable[0], PXN, UXN, PXNTable, UXNTable, WXN, PAN
abbrev steps_two : List Bool → List Step
steps_two m =
    fixed 1 (ap_to (at m 0) (at m 1)) ∷ fixed 2 (direct.ap_table (at m 2) (at m 3)) ∷ fixed 3 (direct.execute_never (at m 4) (at m 5)) ∷
    fixed 4 (direct.execute_never (at m 6) (at m 7)) ∷ step 5 (λ (r : Rights). direct.unprivileged_write r.uw) ∷ step 6 (direct.wxn (at m 8)) ∷ step 7 (direct.pan (at m 9)) ∷ []

abbrev rights_two : List Bool → Rights
rights_two m =
    pan (at m 9)
    (wxn (at m 8)
    (unprivileged_write
    (execute_never (at m 6) (at m 7) (execute_never (at m 4) (at m 5) (ap_table (at m 2) (at m 3) (ap_to (at m 0) (at m 1)))))))

two-rights : (c : Control) (d : Stage1) (t : Limits) → left_after everything (direct.steps_two c d t) ≡ direct_two c d t
unfolding direct.ap
two-rights c d t =
    each
    (d.ap2 ∷ d.ap1 ∷ limited c t.aptable1 ∷ limited c t.aptable0 ∷ d.pxn ∷ d.uxn ∷ limited c t.pxntable ∷ limited c t.uxntable ∷
    c.wxn ∷ c.pan ∷ [])
    (λ (m : List Bool). left_after everything (steps_two m)) rights_two refl

-- one level: AP[2], APTable[1], XN, XNTable, WXN
abbrev steps_one : List Bool → List Step
steps_one m =
    fixed 1 (ap_one (at m 0)) ∷ fixed 2 (direct.ap_table (at m 1) false) ∷ fixed 3 (direct.execute_never (at m 2) false) ∷
    fixed 4 (direct.execute_never (at m 3) false) ∷ step 6 (direct.wxn (at m 4)) ∷ []

abbrev rights_one : List Bool → Rights
rights_one m = wxn (at m 4) (execute_never (at m 3) false (execute_never (at m 2) false (ap_table (at m 1) false (ap_one (at m 0)))))

one-rights : (c : Control) (d : Stage1) (t : Limits) → left_after everything (direct.steps_one c d t) ≡ direct_one c d t
one-rights c d t =
    each (d.ap2 ∷ limited c t.aptable1 ∷ d.uxn ∷ limited c t.uxntable ∷ c.wxn ∷ []) (λ (m : List Bool). left_after everything (steps_one m)) rights_one refl

base-rights : (s : Setup) (d : Stage1) (t : Limits) → first.base_rights s d t ≡ base_rights s d t
unfolding first.base_rights direct_steps
base-rights s d t = go s.control.indirect s.control.two
  where
    go : (i two : Bool)
        → left_after everything
        (cond i (fixed 1 (code_rights s.control.two (codes_at s.pir d.piindex)) ∷ [])
        (cond two (direct.steps_two s.control d t) (direct.steps_one s.control d t)))
        ≡ cond i (code_rights s.control.two (codes_at s.pir d.piindex)) (cond two (direct_two s.control d t) (direct_one s.control d t))
    go true two = refl
    go false true = two-rights s.control d t
    go false false = one-rights s.control d t

stage2-rights : (e : Stage2) → second.stage2_rights e ≡ stage2_rights e
unfolding second.stage2_rights
stage2-rights e =
    each (e.read ∷ e.write ∷ xn_px e.xn ∷ xn_ux e.xn ∷ [])
    (λ (m : List Bool). left_after everything (fixed 9 (six (at m 0) (at m 1) true (at m 0) (at m 1) true) ∷ fixed 10 (six true true (at m 2) true true (at m 3)) ∷ []))
    (λ (m : List Bool). six (at m 0) (at m 1) (at m 2) (at m 0) (at m 1) (at m 3)) refl

-- each stage
abbrev slot : Setup → Stage1 → Access → ℕ
slot s d a = slot_at (of_level s.por a.level) d.poindex

same-stage1 : (s : Setup) (d : Stage1) (t : Limits) (a : Access) → uncaused (first.stage1_answer s d t a) ≡ stage1_answer s d t a
unfolding first.stage1_answer first.base_answer
same-stage1 s d t a =
    then _ _ (descriptor One 11 12 d.valid d.af (dirty s.control d))
    (then _ _ (refuses (reserved_base s d) ReservedCode)
    (then _ _ (refuses (unjudged_base s d) Unjudged)
    (then _ _
    (fault (has (first.base_rights s d t) a) One Permission (first.base_cause s d t a) ∙ ap (λ (r : Rights). fault_unless (has r a) One Permission) (base-rights s d t))
    (either (of_level s.control.overlay a.level && of_level (overlays_apply s d) a.level) _ _
    (then _ _ (refuses (leb 8 (slot s d a)) ReservedCode) (fault (has_right (slot_rights (slot s d a)) a.right) One Overlay 8)) permits))))

same-stage2 : (e : Stage2) (a : Access) → uncaused (second.stage2_answer e a) ≡ stage2_answer e a
unfolding second.stage2_answer
same-stage2 e a =
    then _ _ (descriptor Two 13 14 e.valid e.af e.bit51)
    (fault (has (second.stage2_rights e) a) Two Permission (second.stage2_cause e a) ∙ ap (λ (r : Rights). fault_unless (has r a) Two Permission) (stage2-rights e))

-- both stages, and the whole order up to the attribute steps
pub same-stages : (s : Setup) (d : Stage1) (e : Stage2) (t : Limits) (a : Access) → uncaused (order.stages_answer s d e t a) ≡ stages_answer s d e t a
unfolding order.stages_answer
same-stages s d e t a =
    then _ _ (either s.control.stage1 _ _ (same-stage1 s d t a) permits) (either s.control.stage2 _ _ (same-stage2 e a) permits)

pub same-rights-answer : (s : Setup) (f : Leaf) (n : ℕ) → uncaused (order.rights_answer s f n) ≡ rights_answer s f n
unfolding order.rights_answer
same-rights-answer s f n = then _ _ (checks (setup_check s.control)) (go (access_check s.control.two n))
  where
    go : (x : (Result Access Refusal)) → uncaused (order.after_access s f x) ≡ after_access s f x
    go (Ok a) = then _ _ (checks (leaf_check f)) (same-stages s _ _ _ a)
    go (Err k) = stands k

-- what the planner asks for does not read causes: whether an access is permitted, and the rights of a level
pub same-permitted : (x : Answer) → permitted x ≡ permitted (uncaused x)
unfolding uncaused
same-permitted (Ok u) = refl
same-permitted (Err (Faulted g)) = refl
same-permitted (Err (Refused n)) = refl

same-unless : (x : Answer) (l : LevelAnswer) → unless_refused x l ≡ unless_refused (uncaused x) l
unfolding uncaused
same-unless (Ok u) l = refl
same-unless (Err (Faulted g)) l = refl
same-unless (Err (Refused n)) l = refl

blind : (x y z : Answer) → collect x y z ≡ collect (uncaused x) (uncaused y) (uncaused z)
blind x y z =
    rw (← same-permitted x, ← same-permitted y, ← same-permitted z)
    (same-unless x _ ∙ ap (unless_refused (uncaused x)) (same-unless y _ ∙ ap (unless_refused (uncaused y)) (same-unless z _)))

pub same-level : (s : Setup) (d : Stage1) (e : Stage2) (t : Limits) (l : Level)
    → level_of s d e t l ≡ collect (stages_answer s d e t (access_of l Read)) (stages_answer s d e t (access_of l Write)) (stages_answer s d e t (access_of l Execute))
unfolding level_of
same-level s d e t l =
    blind (order.stages_answer s d e t (access_of l Read)) (order.stages_answer s d e t (access_of l Write)) (order.stages_answer s d e t (access_of l Execute))
    ∙ rw (same-stages s d e t (access_of l Read), same-stages s d e t (access_of l Write), same-stages s d e t (access_of l Execute))
