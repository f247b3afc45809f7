-- The entries below `k` are made.
use Rattle.std.proofs.Common.{◌≡◌, ◌<◌, ℕ, length, get_or}
use Rattle.rights.proofs.words.pair.Table.of.Given as goal

abbrev pub invariant-loop-k : goal.invariant-loop-k
invariant-loop-k g l =
    (length l.t.keeps ≡ g.row.N) × (length l.t.takes ≡ g.row.N)
    × ((j : ℕ) → j < l.k → goal.F-post g l.f j (record { keeps = get_or l.t.keeps j 0; takes = get_or l.t.takes j 0 }))
