-- The entries below `k` are made.
use Rattle.std.proofs.Common.{◌≡◌, ◌<◌, ℕ, length, get_or}
use Rattle.records.proofs.table.table_of.Given as goal

abbrev pub invariant-loop-k : goal.invariant-loop-k
invariant-loop-k g l = (length l.t ≡ g.row.N) × ((d : _) (j : ℕ) → j < l.k → goal.F-post g l.f j (get_or l.t j d))
