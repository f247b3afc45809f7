-- The planner's pass gives what the accesses of a level give one by one. Stage 1 and stage 2 are each seen first as what they do to every
-- access; what is left is a rule over truth values, computed at all of them. Assumes nothing.
use mathlib.Core.Path.{◌≡◌, refl, ap}
use mathlib.Core.Bool.{Bool, true, false, cond, ◌&&◌}
use mathlib.Core.List.{List, [], ◌∷◌}
use Prim.Native.Nat.{ℕ}
use lib.Dec.{leb}
use lib.ListN.{get_or}
use Rattle.records.proofs.Cases.{tree, each}
use Rattle.records.specs.Access.{access_of, three, level_in, has_right, has}
use Rattle.records.specs.Bits.{bit}
use Rattle.records.specs.Descriptor.{code_at, slot_at}
use Rattle.records.specs.declared.access.Access.{Access}
use Rattle.records.specs.declared.access.Level.{Level}
use Rattle.records.specs.declared.access.Level.TheVariants.{Privileged, Unprivileged}
use Rattle.records.specs.declared.access.Right.{Right}
use Rattle.records.specs.declared.access.Right.TheVariants.{Read, Write, Execute}
use Rattle.records.specs.declared.descriptor.Limits.{Limits}
use Rattle.records.specs.declared.descriptor.Stage1.{Stage1}
use Rattle.records.specs.declared.descriptor.Stage2.{Stage2}
use Rattle.records.specs.declared.setup.PerLevel.{PerLevel}
use Rattle.records.specs.declared.setup.Setup.{Setup}
use Rattle.rights.specs.Mirror.Base.{BaseAnswer, pair, indirect_of, direct_base, base_of, base_from}
use Rattle.rights.specs.Direct.{direct_steps, direct_of}
use Rattle.rights.specs.Indirect.{code_of, codes_at, reserved_code, unjudged_code, code_rights, code_overlays}
use Rattle.rights.specs.Answers.{follow, fault_unless, refuse_if, descriptor_answer, permitted}
use Rattle.rights.specs.Promise.{collect, level_of, LevelAnswer}
use Rattle.rights.specs.Stage1.{dirty, base_rights, base_cause, base_answer, stage1_answer}
use Rattle.rights.specs.Order.{stage1_if, stages_answer}
use Rattle.records.specs.Setup.{of_level}
use Rattle.rights.specs.Overlay.{slot_answer, overlay_answer}
use Rattle.rights.specs.Mirror.Pass.{from_base, stage1_pass, stage2_pass, none, any, both, overlaid, pass_level, pass_with, pass, Stage1Pass, Stage2Pass}
use Rattle.rights.specs.Stage2.{stage2_rights, stage2_cause, stage2_answer}
use Rattle.rights.specs.Steps.{everything, left_after, fixed}
use Rattle.rights.specs.declared.answers.Fault.{Fault}
use Rattle.rights.specs.declared.answers.Kind.TheVariants.{Translation, AccessFlag, Permission, Overlay}
use Rattle.records.specs.declared.access.LevelRights.{LevelRights}
use Rattle.rights.proofs.OrderLaws.{stages-as}
use Rattle.rights.proofs.Removers.{has-everything}
use Rattle.std.specs.Prelude.{Ok, Err}
use Rattle.records.specs.declared.refusal.Refusal.TheVariants.{ReservedCode, Unjudged}
use Rattle.rights.specs.declared.answers.Stop.TheVariants.{Faulted, Refused}
use Rattle.rights.specs.Answers.{Answer}
use Rattle.rights.specs.declared.indirect.Code.{Code}
use Rattle.rights.specs.declared.answers.Stage.TheVariants.{One, Two}
use Rattle.rights.specs.declared.answers.Stage.{Stage}

-- the fault that a descriptor gives every access, by its valid bit, with cause t or f
abbrev first_fault : Stage → ℕ → ℕ → Bool → Fault
first_fault s t f v = record { stage = s; kind = cond v AccessFlag Translation; cause = cond v f t }

-- what stage 2 answers to an access that reaches it, where g is the fault of every access and c the cause of a missing right
abbrev stage2_as : Stage2Pass → Fault → ℕ → Level → Right → Answer
stage2_as (Stage2Pass.Granted k) g c l r = fault_unless (has_right (level_in k l) r) Two Permission c
stage2_as Stage2Pass.Nothing g c l r = Err (Faulted g)
stage2_as (Stage2Pass.Refused n) g c l r = Err (Refused n)

-- what stage 1 answers to an access
abbrev stage1_as : PerLevel Bool → Stage1Pass → ℕ → Fault → ℕ → Level → Right → Answer
stage1_as o (Stage1Pass.Granted b) v g c l r =
    follow (fault_unless (has_right (level_in b.rights l) r) One Permission c) (slot_answer (of_level o l && of_level b.overlay l) v r)
stage1_as o Stage1Pass.Nothing v g c l r = Err (Faulted g)
stage1_as o (Stage1Pass.Refused n) v g c l r = Err (Refused n)

never-overlaid : (b : Bool) (l : Level) → (b && of_level (record { privileged = false; unprivileged = false }) l) ≡ false
never-overlaid true Privileged = refl
never-overlaid true Unprivileged = refl
never-overlaid false Privileged = refl
never-overlaid false Unprivileged = refl

stage2-as : (on : Bool) (d : Stage2) (l : Level) (r : Right)
    → cond on (stage2_answer d (access_of l r)) (Ok tt)
    ≡ stage2_as (stage2_pass on d) (first_fault Two 13 14 d.valid) (stage2_cause d (access_of l r)) l r
unfolding stage2_answer stage2_pass
stage2-as on d l r = go on d.valid d.af d.bit51 (stage2_cause d (access_of l r))
  where
    go : (o v f b : Bool) (c : ℕ)
        → cond o (follow (descriptor_answer Two 13 14 v f b) (fault_unless (has_right (level_in (stage2_rights d) l) r) Two Permission c)) (Ok tt)
        ≡ stage2_as (cond o (cond (v && f) (cond b (Stage2Pass.Refused Unjudged) (Stage2Pass.Granted (stage2_rights d))) Stage2Pass.Nothing) (Stage2Pass.Granted everything))
        (first_fault Two 13 14 v) c l r
    go false v f b c = rw (has-everything l r)
    go true false f b c = refl
    go true true false b c = refl
    go true true true true c = refl
    go true true true false c = refl

-- the steps from the base codes on, with the base rights as one answer
base-as : (s : Setup) (d : Stage1) (t : Limits) (a : Access) → base_answer s d t a ≡ base_from s d (base_cause s d t a) a (base_of s d t)
unfolding base_answer base_rights base_of indirect_of codes_at direct_of
base-as s d t a =
    let k = pair (code_of (code_at s.pir.privileged d.piindex)) (code_of (code_at s.pir.unprivileged d.piindex)) in
    go k s.control.indirect (reserved_code s.control.two k) (unjudged_code s.control.two k) (base_cause s d t a)
  where
    go : (k : PerLevel Code) (i v u : Bool) (c : ℕ)
        → follow (refuse_if (i && v) ReservedCode)
        (follow (refuse_if (i && u) Unjudged)
        (follow (fault_unless (has (left_after everything (cond i (fixed 1 (code_rights s.control.two k) ∷ []) (direct_steps s.control d t))) a) One Permission c)
        (overlay_answer s d (cond i (code_overlays k) (record { privileged = true; unprivileged = true })) a)))
        ≡ base_from s d c a
        (cond i
        (cond v (Err ReservedCode)
        (cond u (Err Unjudged) (Ok (record { rights = code_rights s.control.two k; overlay = code_overlays k }))))
        (direct_base s d t))
    go k false v u c = refl
    go k true true u c = refl
    go k true false true c = refl
    go k true false false c = refl

stage1-as : (s : Setup) (d : Stage1) (t : Limits) (l : Level) (r : Right)
    → cond s.control.stage1 (stage1_answer s d t (access_of l r)) (Ok tt)
    ≡ stage1_as s.control.overlay (stage1_pass s d t) (slot_at (of_level s.por l) d.poindex) (first_fault One 11 12 d.valid)
    (base_cause s d t (access_of l r)) l r
unfolding stage1_answer stage1_pass
stage1-as s d t l r =
    rw (base-as s d t (access_of l r))
    (go s.control.stage1 d.valid d.af (dirty s.control d) (base_cause s d t (access_of l r)) (base_of s d t))
  where
    go : (o v f b : Bool) (c : ℕ) (x : BaseAnswer)
        → cond o (follow (descriptor_answer One 11 12 v f b) (base_from s d c (access_of l r) x)) (Ok tt)
        ≡ stage1_as s.control.overlay
        (cond o (cond (v && f) (cond b (Stage1Pass.Refused Unjudged) (from_base x)) Stage1Pass.Nothing) (Stage1Pass.Granted (record { rights = everything; overlay = record { privileged = false; unprivileged = false } })))
        (slot_at (of_level s.por l) d.poindex) (first_fault One 11 12 v) c l r
    go false v f b c x = rw (has-everything l r, never-overlaid (of_level s.control.overlay l) l)
    go true false f b c x = refl
    go true true false b c x = refl
    go true true true true c x = refl
    go true true true false c (Ok b) = refl
    go true true true false c (Err n) = refl

-- one access: base right b, the cause c where it is missing, overlay on, slot reserved, slot's bit v, and what stage 2 answers
abbrev answer : Bool → ℕ → Bool → Bool → Bool → Answer → Answer
answer b c on reserved v y =
    follow (follow (fault_unless b One Permission c) (cond on (follow (refuse_if reserved ReservedCode) (fault_unless v One Overlay 8)) (Ok tt))) y

-- what stands where a level is refused
abbrev when_refused : LevelAnswer → LevelRights → LevelRights
when_refused (Ok r) x = none
when_refused (Err n) x = x

-- three accesses as a level's answer, and those that are permitted on a level that is refused
abbrev level : Answer → Answer → Answer → LevelAnswer × LevelRights
level a b c = (collect a b c, when_refused (collect a b c) (three (permitted a) (permitted b) (permitted c)))

-- truth value k of a list
abbrev pub pick : List Bool → ℕ → Bool
pick m k = get_or m k false

-- three accesses with their causes, and the pass: truth values 0 to 2 base rights, 3 overlay on, 4 slot reserved, 5 to 7 the slot's rights, 8 to 10, where
-- stage 2 grants something, what it grants
abbrev accesses : (Right → ℕ) → (Right → Bool → Answer) → List Bool → LevelAnswer × LevelRights
accesses c y m =
    level (answer (pick m 0) (c Read) (pick m 3) (pick m 4) (pick m 5) (y Read (pick m 8)))
    (answer (pick m 1) (c Write) (pick m 3) (pick m 4) (pick m 6) (y Write (pick m 9)))
    (answer (pick m 2) (c Execute) (pick m 3) (pick m 4) (pick m 7) (y Execute (pick m 10)))

abbrev passed : (LevelRights → LevelRights → LevelAnswer) → List Bool → LevelAnswer × LevelRights
passed y m = (
  cond (pick m 3 && pick m 4 && any (three (pick m 0) (pick m 1) (pick m 2))) (Err ReservedCode)
      (y (overlaid (pick m 3) (three (pick m 5) (pick m 6) (pick m 7)) (three (pick m 0) (pick m 1) (pick m 2))) (three (pick m 8) (pick m 9) (pick m 10))),
  none,
)

-- rights, and the truth values after them
abbrev pub values : LevelRights → List Bool → List Bool
values r m = r.read ∷ r.write ∷ r.execute ∷ m

-- the slot's rights
abbrev slot : ℕ → List Bool → List Bool
slot v m = bit v 0 ∷ bit v 2 ∷ bit v 1 ∷ m

-- two functions of these truth values agree if they do where the overlay is off, where the slot is reserved, and where neither is so:
-- in the first two the slot's rights are not seen
module _ {A : Type 0} (f g : List Bool → A) (r s : LevelRights) (v : ℕ) where
  abbrev unseen : Bool → Bool → List Bool → List Bool
  unseen o z m = pick m 0 ∷ pick m 1 ∷ pick m 2 ∷ o ∷ z ∷ slot v (pick m 3 ∷ pick m 4 ∷ pick m 5 ∷ [])

  abbrev seen : List Bool → List Bool
  seen m = pick m 0 ∷ pick m 1 ∷ pick m 2 ∷ true ∷ false ∷ pick m 3 ∷ pick m 4 ∷ pick m 5 ∷ pick m 6 ∷ pick m 7 ∷ pick m 8 ∷ []

  by-slot : (o z : Bool) → ((t : Bool) → tree 6 (λ (m : List Bool). f (unseen false t m)) ≡ tree 6 (λ (m : List Bool). g (unseen false t m)))
      → tree 6 (λ (m : List Bool). f (unseen true true m)) ≡ tree 6 (λ (m : List Bool). g (unseen true true m))
      → tree 9 (λ (m : List Bool). f (seen m)) ≡ tree 9 (λ (m : List Bool). g (seen m))
      → f (values r (o ∷ z ∷ slot v (values s []))) ≡ g (values r (o ∷ z ∷ slot v (values s [])))
  by-slot false z p q t = each (values r (values s [])) (λ (m : List Bool). f (unseen false z m)) (λ (m : List Bool). g (unseen false z m)) (p z)
  by-slot true true p q t = each (values r (values s [])) (λ (m : List Bool). f (unseen true true m)) (λ (m : List Bool). g (unseen true true m)) q
  by-slot true false p q t = each (values r (slot v (values s []))) (λ (m : List Bool). f (seen m)) (λ (m : List Bool). g (seen m)) t

-- c and e are the causes where stage 1 and stage 2 lack a right
passes : (r : LevelRights) (on : Bool) (v : ℕ) (t : Stage2Pass) (g : Fault) (c e : Right → ℕ) (l : Level)
    → level
    (follow (follow (fault_unless r.read One Permission (c Read)) (slot_answer on v Read)) (stage2_as t g (e Read) l Read))
    (follow (follow (fault_unless r.write One Permission (c Write)) (slot_answer on v Write)) (stage2_as t g (e Write) l Write))
    (follow (follow (fault_unless r.execute One Permission (c Execute)) (slot_answer on v Execute)) (stage2_as t g (e Execute) l Execute))
    ≡ (pass_level r on v t l, none)
passes r on v (Stage2Pass.Granted k) g c e l =
    by-slot (accesses c (λ x b. fault_unless b Two Permission (e x))) (passed (λ a b. Ok (both a b))) r (level_in k l) v on (leb 8 v) (λ t. refl) refl refl
passes r on v Stage2Pass.Nothing g c e l =
    each (values r (on ∷ leb 8 v ∷ slot v [])) (accesses c (λ x b. (Err (Faulted g)))) (passed (λ a b. Ok none)) refl
passes r on v (Stage2Pass.Refused n) g c e l =
    each (values r (on ∷ leb 8 v ∷ slot v [])) (accesses c (λ x b. (Err (Refused n)))) (passed (λ a b. cond (any a) (Err n) (Ok none))) refl

-- the same with stage 1 as a whole
with-stage1 : (o : PerLevel Bool) (x : Stage1Pass) (v : ℕ) (t : Stage2Pass) (f g : Fault) (c e : Right → ℕ) (l : Level)
    → level (follow (stage1_as o x v f (c Read) l Read) (stage2_as t g (e Read) l Read))
    (follow (stage1_as o x v f (c Write) l Write) (stage2_as t g (e Write) l Write))
    (follow (stage1_as o x v f (c Execute) l Execute) (stage2_as t g (e Execute) l Execute))
    ≡ (pass_with o x v t l, none)
with-stage1 o (Stage1Pass.Granted b) v t f g c e l = passes (level_in b.rights l) (of_level o l && of_level b.overlay l) v t g c e l
with-stage1 o Stage1Pass.Nothing v t f g c e l = refl
with-stage1 o (Stage1Pass.Refused n) v t f g c e l = refl

-- the accesses of a level are those of the pass. Where it is refused none is permitted: at one level there is at most one refusal, and every
-- access that the base grants, or that reaches stage 2, meets it
both-agree : (s : Setup) (d : Stage1) (e : Stage2) (t : Limits) (l : Level)
    → level (stages_answer s d e t (access_of l Read)) (stages_answer s d e t (access_of l Write)) (stages_answer s d e t (access_of l Execute))
    ≡ (pass s d e t l, none)
both-agree s d e t l =
    rw (
      stages-as s d e t (access_of l Read) (stage1_if s d t (access_of l Read)) refl,
      stages-as s d e t (access_of l Write) (stage1_if s d t (access_of l Write)) refl,
      stages-as s d e t (access_of l Execute) (stage1_if s d t (access_of l Execute)) refl,
      stage1-as s d t l Read,
      stage1-as s d t l Write,
      stage1-as s d t l Execute,
      stage2-as s.control.stage2 e l Read,
      stage2-as s.control.stage2 e l Write,
      stage2-as s.control.stage2 e l Execute,
    )
    (with-stage1 s.control.overlay (stage1_pass s d t) (slot_at (of_level s.por l) d.poindex) (stage2_pass s.control.stage2 e)
    (first_fault One 11 12 d.valid) (first_fault Two 13 14 e.valid) (λ r. base_cause s d t (access_of l r)) (λ r. stage2_cause e (access_of l r)) l)

-- the rights of a level are those of the pass
pub agree : (s : Setup) (d : Stage1) (e : Stage2) (t : Limits) (l : Level) → level_of s d e t l ≡ pass s d e t l
unfolding level_of
agree s d e t l = ap (λ (p : LevelAnswer × LevelRights). p.0) (both-agree s d e t l)
