-- The refusal of the leaf is that of its accesses from `a` on.
use Rattle.std.proofs.Common.{◌≡◌, length}
use Rattle.judge.specs.LeafRights.{judged_accesses, leaf_rights}
use Rattle.judge.specs.Mirror.Walked.{refusal_in}
use Rattle.judge.proofs.Refusals.{refusal_from}
use Rattle.judge.proofs.walk.leaf_refusal.Given as goal

abbrev pub invariant-loop-a : goal.invariant-loop-a
invariant-loop-a l = record {
  end : length (judged_accesses l.s.control.two) ≡ l.end;
  rest : refusal_from l.s l.f l.a ≡ refusal_in (leaf_rights l.s l.f);
}
