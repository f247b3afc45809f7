-- The answer is that of the leaves from `i` on.
use Rattle.std.proofs.Common.{◌≡◌, ℕ}
use Rattle.records.specs.Leaf.{leaf_at}
use Rattle.judge.specs.LeafRights.{leaf_rights}
use Rattle.judge.specs.List.{walk}
use Rattle.judge.specs.Mirror.Walked.{listed_of}
use Rattle.judge.proofs.Refusals.{listed_from}
use Rattle.judge.proofs.walk.first_refusal.Given as goal

abbrev pub invariant-loop-i : goal.invariant-loop-i
invariant-loop-i l =
    listed_from (λ (i : ℕ). leaf_rights l.s (leaf_at l.leaves i)) l.n l.i ≡ listed_of (walk (λ (i : ℕ). leaf_rights l.s (leaf_at l.leaves i)) 0 l.n) l.n
