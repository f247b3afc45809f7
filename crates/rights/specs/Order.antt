-- Document 01, 'The order a judgement is made in', up to the attribute steps. Assumes nothing.
use Rattle.std.specs.Prelude.{ℕ, false, cond, ◌≡◌, Result, Ok, Err}
use Rattle.records.specs.Descriptor.{stage1_of, stage2_of, limits_of}
use Rattle.records.specs.declared.access.Access.{Access}
use Rattle.records.specs.declared.descriptor.Limits.{Limits}
use Rattle.records.specs.declared.descriptor.Stage1.{Stage1}
use Rattle.records.specs.declared.descriptor.Stage2.{Stage2}
use Rattle.records.specs.declared.leaf.Leaf.{Leaf}
use Rattle.records.specs.declared.setup.Setup.{Setup}
use Rattle.rights.specs.Answers.{follow, answer_of, permitted}
use Rattle.rights.specs.Checks.{setup_check, access_check, leaf_check}
use Rattle.rights.specs.Stage1.{stage1_answer}
use Rattle.rights.specs.Stage2.{stage2_answer}
use Rattle.records.specs.declared.refusal.Refusal.{Refusal}
use Rattle.rights.specs.declared.answers.Stop.TheVariants.{Refused}
use Rattle.rights.specs.Answers.{Answer}

-- a stage that is off permits everything, and its descriptor is ignored
abbrev pub stage1_if : Setup → Stage1 → Limits → Access → Answer
stage1_if s d t a = cond s.control.stage1 (stage1_answer s d t a) (Ok tt)

abbrev pub stage2_if : Setup → Stage2 → Access → Answer
stage2_if s e a = cond s.control.stage2 (stage2_answer e a) (Ok tt)

-- stage 1, if on, then stage 2, if on
unfoldable pub stages_answer : Setup → Stage1 → Stage2 → Limits → Access → Answer
stages_answer s d e t a = follow (stage1_if s d t a) (stage2_if s e a)

-- What demand 2 says of the answer z of both stages, where stage 1 answers x and stage 2 answers y: permitted exactly when both permit, otherwise the
-- first failing stage's fault or refusal.
pub record FirstFailing (x y z : Answer) : Type 0 where
  pub permits : x ≡ (Ok tt) → y ≡ (Ok tt) → z ≡ (Ok tt)
  pub first : (permitted x ≡ false) → z ≡ x
  pub second : x ≡ (Ok tt) → (permitted y ≡ false) → z ≡ y

-- the stages of a leaf
abbrev pub leaf_answer : Setup → Leaf → Access → Answer
leaf_answer s f a = stages_answer s (stage1_of f.stage1) (stage2_of f.stage2) (limits_of f.limits) a

-- a refused access number
abbrev pub access_refusal : (Result Access Refusal) → Answer
access_refusal (Ok a) = Ok tt
access_refusal (Err n) = Err (Refused n)

-- 4, 5, then the stages
abbrev pub after_access : Setup → Leaf → (Result Access Refusal) → Answer
after_access s f (Ok a) = follow (answer_of (leaf_check f)) (leaf_answer s f a)
after_access s f (Err n) = Err (Refused n)

-- 1, 2, 3, 4, 5, then stage 1, then stage 2
unfoldable pub rights_answer : Setup → Leaf → ℕ → Answer
rights_answer s f n = follow (answer_of (setup_check s.control)) (after_access s f (access_check s.control.two n))
