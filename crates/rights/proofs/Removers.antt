-- The first remover of a right: 0 where the right is left after all steps, else the number of a step. A step takes rights away and gives none. Assumes
-- nothing.
use mathlib.Core.Path.{◌≡◌, refl, sym}
use mathlib.Core.Bool.{Bool, true, false, cond, ◌&&◌}
use mathlib.Core.List.{List, [], ◌∷◌}
use Prim.Native.Nat.{ℕ, ◌≤◌}
use native.Mathlib.Omega.{arith}
use lib.Dec.{leb, eqb}
use borrow.Author.Tests.{leb-true, ne_eqb}
use Rattle.records.proofs.Cases.{both_hold}
use Rattle.records.specs.Access.{level_in, has_right, has}
use Rattle.records.specs.declared.access.Access.{Access}
use Rattle.records.specs.declared.access.Level.{Level}
use Rattle.records.specs.declared.access.Level.TheVariants.{Privileged, Unprivileged}
use Rattle.records.specs.declared.access.Right.{Right}
use Rattle.records.specs.declared.access.Right.TheVariants.{Read, Write, Execute}
use Rattle.records.specs.declared.access.Rights.{Rights}
use Rattle.records.specs.declared.descriptor.Limits.{Limits}
use Rattle.records.specs.declared.descriptor.Stage1.{Stage1}
use Rattle.records.specs.declared.descriptor.Stage2.{Stage2}
use Rattle.records.specs.declared.setup.Setup.{Setup}
use Rattle.rights.specs.Direct.{direct_steps}
use Rattle.rights.specs.Stage1.{base_steps, base_rights, base_cause}
use Rattle.rights.specs.Stage2.{stage2_steps, stage2_rights, stage2_cause}
use Rattle.rights.specs.Steps.{Step, everything, meet, left, left_after, first_remover}

pub has-everything : (l : Level) (r : Right) → has_right (level_in everything l) r ≡ true
has-everything Privileged Read = refl
has-everything Privileged Write = refl
has-everything Privileged Execute = refl
has-everything Unprivileged Read = refl
has-everything Unprivileged Write = refl
has-everything Unprivileged Execute = refl

-- a missing right stays missing
off : (r k : Rights) (l : Level) (x : Right) → has_right (level_in r l) x ≡ false → has_right (level_in (meet r k) l) x ≡ false
off r k Privileged Read e = rw e
off r k Privileged Write e = rw e
off r k Privileged Execute e = rw e
off r k Unprivileged Read e = rw e
off r k Unprivileged Write e = rw e
off r k Unprivileged Execute e = rw e

gone : (a : Access) (r : Rights) (xs : List Step) → has r a ≡ false → has (left_after r xs) a ≡ false
gone a r [] e = e
gone a r (x ∷ more) e = gone a (left x r) more (off r (x.keeps r) a.level a.right e)

-- each step's number is from lo to hi
abbrev numbered : ℕ → ℕ → List Step → Bool
numbered lo hi [] = true
numbered lo hi (x ∷ more) = (leb lo x.cause && leb x.cause hi) && numbered lo hi more

-- a right is left, and its remover is 0; or it is missing, and its remover is one of the steps
pub data Removed (lo hi : ℕ) : Bool → ℕ → Type 0 where
  held : Removed lo hi true 0
  taken : (c : ℕ) → (lo ≤ c) × (c ≤ hi) → Removed lo hi false c

removed : (lo hi : ℕ) (a : Access) (r : Rights) (xs : List Step) → numbered lo hi xs ≡ true → has r a ≡ true
    → Removed lo hi (has (left_after r xs) a) (first_remover a r xs)
removed lo hi a r [] n h = rw h held
removed lo hi a r (x ∷ more) n h = go (has (left x r) a) refl (λ e. removed lo hi a (left x r) more all.1 e)
  where
    all : ((leb lo x.cause && leb x.cause hi) ≡ true) × (numbered lo hi more ≡ true)
    all = both_hold (leb lo x.cause && leb x.cause hi) (numbered lo hi more) n

    go : (t : Bool) → has (left x r) a ≡ t
        → (has (left x r) a ≡ true → Removed lo hi (has (left_after (left x r) more) a) (first_remover a (left x r) more))
        → Removed lo hi (has (left_after (left x r) more) a) (cond t (first_remover a (left x r) more) x.cause)
    go true e later = later e
    go false e later =
        let b = both_hold (leb lo x.cause) (leb x.cause hi) all.0 in
        rw (gone a (left x r) more e) (taken x.cause (leb-true lo x.cause b.0, leb-true x.cause hi b.1))

either : (lo hi : ℕ) (t : Bool) (xs ys : List Step) → numbered lo hi xs ≡ true → numbered lo hi ys ≡ true → numbered lo hi (cond t xs ys) ≡ true
either lo hi true xs ys p q = p
either lo hi false xs ys p q = q

-- stage 1's base steps are 1 to 7, stage 2's 9 and 10
pub base-removed : (s : Setup) (d : Stage1) (t : Limits) (a : Access) → Removed 1 7 (has (base_rights s d t) a) (base_cause s d t a)
unfolding base_rights base_cause direct_steps
base-removed s d t a =
    removed 1 7 a everything (base_steps s d t) (either 1 7 s.control.indirect _ _ refl (either 1 7 s.control.two _ _ refl refl))
    (has-everything a.level a.right)

pub stage2-removed : (e : Stage2) (a : Access) → Removed 9 10 (has (stage2_rights e) a) (stage2_cause e a)
unfolding stage2_rights stage2_cause
stage2-removed e a = removed 9 10 a everything (stage2_steps e) refl (has-everything a.level a.right)

-- a right is there exactly where its remover is 0
is_held : {lo hi c : ℕ} {b : Bool} → 1 ≤ lo → Removed lo hi b c → b ≡ eqb c 0
is_held h held = refl
is_held h (taken c (p, q)) = sym (ne_eqb c 0 (λ e. omega arith))

pub base-held : (s : Setup) (d : Stage1) (t : Limits) (a : Access) → has (base_rights s d t) a ≡ eqb (base_cause s d t a) 0
base-held s d t a = is_held (omega arith) (base-removed s d t a)

pub stage2-held : (e : Stage2) (a : Access) → has (stage2_rights e) a ≡ eqb (stage2_cause e a) 0
stage2-held e a = is_held (omega arith) (stage2-removed e a)

-- a chain step by step, as the code takes it: k is what the step leaves, m the first remover of the steps after it
pub data Chain (a : Access) : Rights → List Step → ℕ → Type 0 where
  ends : {r : Rights} → Chain a r [] 0
  first : {r k : Rights} {x : Step} {more : List Step} {m n : ℕ} → k ≡ left x r → n ≡ cond (has k a) m x.cause → Chain a k more m → Chain a r (x ∷ more) n

pub chained : (a : Access) (r : Rights) (xs : List Step) {n : ℕ} → Chain a r xs n → n ≡ first_remover a r xs
chained a r [] ends = refl
chained a r (x ∷ more) (first p q h) = rw (q, chained a _ more h, p)
