-- Document 01, 'The order a judgement is made in': the whole order for one access. Assumes nothing.
use Rattle.std.specs.Prelude.{ℕ, List, Bool, ◌||◌, eqb, Result, Ok, Err}
use Rattle.records.specs.Descriptor.{stage1_of, stage2_of}
use Rattle.records.specs.Leaf.{read_leaf}
use Rattle.records.specs.Setup.{read_setup}
use Rattle.records.specs.declared.leaf.Leaf.{Leaf}
use Rattle.records.specs.declared.setup.Setup.{Setup}
use Rattle.rights.specs.Order.{rights_answer}
use Rattle.attributes.specs.Order.{attributes_of}
use Rattle.records.specs.declared.refusal.Refusal.{Refusal}
use Rattle.rights.specs.declared.answers.Stop.TheVariants.{Faulted, Refused}
use Rattle.attributes.specs.declared.Memory.{Memory}
use Rattle.judge.specs.Answers.{Judgement}
use Rattle.rights.specs.Answers.{Answer}

-- the accesses that execute: 2 px and 5 ux
abbrev pub fetches : ℕ → Bool
fetches n = eqb n 2 || eqb n 5

-- the attribute steps: a refusal 8, 8 or 9, or the byte and SH
abbrev pub combined : (Result Memory Refusal) → Judgement
combined (Ok m) = Ok m
combined (Err n) = Err (Refused n)

-- a fault or refusal stands; a permitted access reaches the attribute steps
abbrev pub after_rights : Answer → Judgement → Judgement
after_rights (Ok u) j = j
after_rights (Err (Faulted f)) j = Err (Faulted f)
after_rights (Err (Refused n)) j = Err (Refused n)

-- 1, 2, 3, 4, 5, stage 1, stage 2; then 8 at stage 1, 8 at stage 2, 9
unfoldable pub judged : Setup → Leaf → ℕ → Judgement
judged s f n = after_rights (rights_answer s f n) (combined (attributes_of s (stage1_of f.stage1) (stage2_of f.stage2) (fetches n)))

-- 13, before all else: a setup or single leaf that is not 52 or 18 bytes
abbrev pub judge_leaf : Setup → ℕ → (Result Leaf Refusal) → Judgement
judge_leaf s n (Ok f) = judged s f n
judge_leaf s n (Err k) = Err (Refused k)

abbrev pub judge_setup : (Result Leaf Refusal) → ℕ → (Result Setup Refusal) → Judgement
judge_setup f n (Ok s) = judge_leaf s n f
judge_setup f n (Err k) = Err (Refused k)

unfoldable pub judge_of : List ℕ → List ℕ → ℕ → Judgement
judge_of s f n = judge_setup (read_leaf f) n (read_setup s)
