-- The plan, the masks and the first leaf that no register cures are what the leaves from `i` on make of what is known so far.
use Rattle.std.proofs.Common.{◌≡◌, ◌-◌, ◌≤◌, ◌<◌, ℕ, Some}
use Rattle.std.specs.Prelude.{replicate}
use Rattle.planner.specs.Mirror.Masks.{plans_by, found_or}
use Rattle.planner.specs.Plan.{refused_from, first_uncured, cuts, settled, in_order}
use Rattle.planner.proofs.plan_leaves.Given as goal

abbrev pub invariant-loop-i : goal.invariant-loop-i
invariant-loop-i l =
    let P = plans_by l.s.control l.s.on l.s.base l.s.level l.leaves in
    record {
      within : l.i ≤ l.n;
      planned : in_order P l.n ≡ refused_from P (settled P l.n) (l.n - l.i) l.i;
      cut : cuts P l.n 0 (replicate 8 7) ≡ cuts P (l.n - l.i) l.i l.masks;
      below : (k : ℕ) → l.first ≡ Some k → k < l.n;
      found : first_uncured P l.n 0 ≡ found_or l.first (first_uncured P (l.n - l.i) l.i);
    }
