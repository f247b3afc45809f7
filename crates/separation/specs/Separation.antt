-- Demand 3 seen by the list: the planner's answer, or those of both levels, put in place of the setup's own registers, and the list of the judge under them.
-- Assumes nothing.
use Rattle.std.specs.Prelude.{ℕ, ◌+◌, ◌/◌, ◌<◌, ◌≡◌, false, List, ◌++◌, length, get_or, take, drop, Ok}
use Rattle.std.specs.Int.Bits.{bit_and}
use Rattle.records.specs.Access.{access_number}
use Rattle.records.specs.Bits.{bit}
use Rattle.records.specs.declared.access.Level.{Level}
use Rattle.records.specs.declared.access.Level.TheVariants.{Privileged, Unprivileged}
use Rattle.records.specs.declared.access.Right.{Right}
use Rattle.records.specs.declared.setup.Setup.{Setup}
use Rattle.judge.specs.Cases.{bytes_of}
use Rattle.records.specs.Leaf.{leaf_at}
use Rattle.judge.specs.List.{list_of}
use Rattle.planner.specs.Demands.{Accepted}
use Rattle.planner.specs.Plan.{plan_of, both_of}
use Rattle.records.specs.declared.setup.PerLevel.{PerLevel}
use Rattle.planner.specs.Plan.{Plan}

-- where a setup of 52 bytes holds a level's POR
abbrev pub por_place : Level → ℕ
por_place Privileged = 36
por_place Unprivileged = 44

-- the setup's bytes with r in place of that level's POR
abbrev pub with_por : List ℕ → Level → ℕ → List ℕ
with_por b l r = take (por_place l) b ++ (bytes_of 8 r ++ drop (por_place l + 8) b)

-- the rights that a list wrote, joined with the forbidden byte of their leaf, are 0 on that level's bits
abbrev pub Stopped : Level → List ℕ → List ℕ → Type 0
Stopped l ls p =
    (i : ℕ) (x : Right) → i < length ls / 18
    → bit (bit_and (get_or p i 0) (leaf_at ls i).forbidden) (access_number l x) ≡ false

-- for every setup s of the bytes b and level l that are accepted with these leaves: where the planner answers a register r, a list under the
-- setup with r in place of that level's POR that is not refused stops every forbidden access of that level
abbrev pub Separated : List ℕ → ℕ → List ℕ → List ℕ → List ℕ → Type 0
Separated b lv ls o c =
    (s : Setup) (l : Level) (r m : ℕ) → Accepted b lv ls s l → plan_of b lv ls ≡ Ok r
    → (list_of (with_por b l r) ls o c).answer ≡ Ok m → Stopped l ls (list_of (with_por b l r) ls o c).out

-- a level's answer, of those of both
abbrev pub answer_at : PerLevel Plan → Level → Plan
answer_at p Privileged = p.privileged
answer_at p Unprivileged = p.unprivileged

-- the setup's bytes with a register for each level, both in place
abbrev pub with_pors : List ℕ → (Level → ℕ) → List ℕ
with_pors b r = with_por (with_por b Privileged (r Privileged)) Unprivileged (r Unprivileged)

-- of both at once: where the planner answers both a register, a list under the setup with both in place that is not refused stops every forbidden access of
-- both levels
abbrev pub BothSeparated : List ℕ → List ℕ → List ℕ → List ℕ → Type 0
BothSeparated b ls o c =
    (r : Level → ℕ) (m : ℕ) → ((l : Level) → answer_at (both_of b ls) l ≡ Ok (r l)) → (list_of (with_pors b r) ls o c).answer ≡ Ok m
    → (l : Level) → Stopped l ls (list_of (with_pors b r) ls o c).out
