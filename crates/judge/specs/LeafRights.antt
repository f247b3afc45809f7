-- Document 01, 'A leaf's **rights**'. Assumes nothing.
use Rattle.std.specs.Prelude.{ℕ, ◌+◌, ◌^◌, List, [], ◌∷◌, Bool, cond, Ok, Err}
use Rattle.records.specs.declared.leaf.Leaf.{Leaf}
use Rattle.records.specs.declared.setup.Setup.{Setup}
use Rattle.judge.specs.Judge.{judged}
use Rattle.rights.specs.declared.answers.Stop.TheVariants.{Faulted, Refused}
use Rattle.judge.specs.Answers.{LeafRights}
use Rattle.judge.specs.Answers.{Judgement}

-- bit a of the rights, and the accesses after it
abbrev pub weigh : ℕ → LeafRights → LeafRights
weigh w (Ok b) = Ok (w + b)
weigh w (Err n) = Err n

-- an access as a bit, before the later ones: on where the order reaches the end of the attribute steps; a fault gives 0; a refusal
-- refuses the leaf
abbrev pub add : Judgement → ℕ → LeafRights → LeafRights
add (Ok m) w r = weigh w r
add (Err (Faulted f)) w r = r
add (Err (Refused n)) w r = Err n

-- the accesses of these numbers, lowest first
abbrev pub gather : (ℕ → Judgement) → List ℕ → LeafRights
gather j [] = Ok 0
gather j (a ∷ more) = add (j a) (2 ^ a) (gather j more)

-- with one level only 0 to 2 are judged
abbrev pub judged_accesses : Bool → List ℕ
judged_accesses two = cond two (0 ∷ 1 ∷ 2 ∷ 3 ∷ 4 ∷ 5 ∷ []) (0 ∷ 1 ∷ 2 ∷ [])

-- the six accesses as bits, from the judge's own answers
unfoldable pub leaf_rights : Setup → Leaf → LeafRights
leaf_rights s f = gather (judged s f) (judged_accesses s.control.two)
