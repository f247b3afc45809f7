-- Document 01, 'The order a judgement is made in': 'the first that applies is the answer'; and request A1: a fault has its cause. Assumes nothing.
use Rattle.std.specs.Prelude.{ℕ, Bool, true, false, cond, Result, Ok, Err, ⊤}
use Rattle.rights.specs.declared.answers.Kind.{Kind}
use Rattle.rights.specs.declared.answers.Kind.TheVariants.{Translation, AccessFlag, Permission, Overlay}
use Rattle.records.specs.declared.refusal.Refusal.TheVariants.{Unjudged}
use Rattle.rights.specs.declared.answers.Stop.TheVariants.{Faulted, Refused}
use Rattle.records.specs.Values.{Check}
use Rattle.rights.specs.declared.answers.Stop.{Stop}
use Rattle.records.specs.declared.refusal.Refusal.{Refusal}
use Rattle.rights.specs.declared.answers.Stage.TheVariants.{One, Two}
use Rattle.rights.specs.declared.answers.Stage.{Stage}

-- the stages by number
abbrev pub stage_number : Stage → ℕ
stage_number One = 1
stage_number Two = 2

-- the kinds of fault, in the paper's order from 1 on
abbrev pub kind_number : Kind → ℕ
kind_number Translation = 1
kind_number AccessFlag = 2
kind_number Permission = 3
kind_number Overlay = 4

-- what the steps of an access answer: permitted so far, or why not
abbrev pub Answer : Type 0
Answer = Result ⊤ Stop

-- a step's answer, and what follows it: a fault or refusal stands
abbrev pub follow : Answer → Answer → Answer
follow (Ok u) b = b
follow (Err (Faulted f)) b = Err (Faulted f)
follow (Err (Refused n)) b = Err (Refused n)

-- a fault carries its stage, kind and cause
abbrev pub fault_of : Stage → Kind → ℕ → Answer
fault_of s k c = Err (Faulted (record { stage = s; kind = k; cause = c }))

abbrev pub fault_unless : Bool → Stage → Kind → ℕ → Answer
fault_unless ok s k c = cond ok (Ok tt) (fault_of s k c)

abbrev pub refuse_if : Bool → Refusal → Answer
refuse_if bad n = cond bad (Err (Refused n)) (Ok tt)

-- a check as an answer
abbrev pub answer_of : Check → Answer
answer_of (Ok u) = Ok tt
answer_of (Err n) = Err (Refused n)

-- the refusal of an answer; and what is asked of an access that a step permits
abbrev pub refusal_of : Answer → Check
refusal_of (Ok u) = Ok tt
refusal_of (Err (Faulted f)) = Ok tt
refusal_of (Err (Refused n)) = Err n

abbrev pub where_reached : Answer → Check → Check
where_reached (Ok u) c = c
where_reached (Err (Faulted f)) c = Ok tt
where_reached (Err (Refused n)) c = Ok tt

-- an access is permitted by the answer
abbrev pub permitted : Answer → Bool
permitted (Ok u) = true
permitted (Err (Faulted f)) = false
permitted (Err (Refused n)) = false

-- the cause of an answer: that of its fault, 0 where it permits or refuses
abbrev pub cause_of : Answer → ℕ
cause_of (Ok u) = 0
cause_of (Err (Faulted f)) = f.cause
cause_of (Err (Refused n)) = 0

-- the first steps of a stage: Translation fault (valid clear), Access flag fault (AF clear), 7 for dirty state. The causes of the two faults are the
-- stage's own: t and f
abbrev pub descriptor_answer : Stage → ℕ → ℕ → Bool → Bool → Bool → Answer
descriptor_answer s t f valid af dirty =
    follow (fault_unless valid s Translation t) (follow (fault_unless af s AccessFlag f) (refuse_if dirty Unjudged))
