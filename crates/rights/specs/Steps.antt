-- Request A1: 'the first remover in this order'. The steps of a stage, each with the number of what takes rights away there. Both the rights that a stage
-- grants and what took a missing one away are read from one chain of steps. Assumes nothing.
use Rattle.std.specs.Prelude.{ℕ, true, cond, ◌&&◌, List, [], ◌∷◌}
use Rattle.records.specs.Access.{six, has}
use Rattle.records.specs.declared.access.Access.{Access}
use Rattle.records.specs.declared.access.Rights.{Rights}

-- the number of a cause, and the rights that its step keeps, where it may read those that the steps before it left
pub record Step : Type 0 where
  pub cause : ℕ
  pub keeps : Rights → Rights

abbrev pub step : ℕ → (Rights → Rights) → Step
step n k = record { cause = n; keeps = k }

-- a step that reads no rights
abbrev pub fixed : ℕ → Rights → Step
fixed n k = step n (λ (r : Rights). k)

-- before the first step no right is missing
abbrev pub everything : Rights
everything = six true true true true true true

-- the rights that both have
abbrev pub meet : Rights → Rights → Rights
meet r k = six (r.pr && k.pr) (r.pw && k.pw) (r.px && k.px) (r.ur && k.ur) (r.uw && k.uw) (r.ux && k.ux)

-- what a step leaves of the rights before it: each step is applied to what the steps before it left
abbrev pub left : Step → Rights → Rights
left x r = meet r (x.keeps r)

-- the rights that are left after these steps
abbrev pub left_after : Rights → List Step → Rights
left_after r [] = r
left_after r (x ∷ more) = left_after (left x r) more

-- the first remover of a right: the first step after which it is missing; 0 if none is
abbrev pub first_remover : Access → Rights → List Step → ℕ
first_remover a r [] = 0
first_remover a r (x ∷ more) = cond (has (left x r) a) (first_remover a (left x r) more) x.cause
