-- Demand 3, and the planner's part of demand 1 with the refusals before 10 (document 01, 'The planner' and the planner's sentences of 'The order a judgement
-- is made in'), on the paper's conditions. `plan-met` of proofs/Demands says that the planner meets them, and `plan-unique` that they leave one
-- answer for every input; `both-met` and `both-unique` say so of both levels. Assumes nothing.
use Rattle.std.specs.Prelude.{ℕ, ◌%◌, ◌^◌, ◌≤◌, ◌<◌, ◌≡◌, List, true, cond, not, ◌&&◌, ◌⊎◌, eqb, leb, length, Ok, Err}
use Rattle.records.specs.Access.{access_number}
use Rattle.records.specs.Bits.{bit, nibble}
use Rattle.records.specs.Leaf.{leaf_at, leaf_count, whole_leaves}
use Rattle.records.specs.Setup.{of_level, setup_of, read_setup}
use Rattle.records.specs.Values.{check_if, length_check, check_then}
use Rattle.records.specs.declared.access.Level.{Level}
use Rattle.records.specs.declared.access.Level.TheVariants.{Privileged, Unprivileged}
use Rattle.records.specs.declared.access.Right.{Right}
use Rattle.records.specs.declared.leaf.Leaf.{Leaf}
use Rattle.records.specs.declared.setup.Setup.{Setup}
use Rattle.rights.specs.Checks.{setup_check, level_check, leaf_check}
use Rattle.rights.specs.Promise.{all_open, answer_with, allowed_with, level_refusal}
use Rattle.records.specs.declared.setup.PerLevel.{PerLevel}
use Rattle.records.specs.declared.refusal.Refusal.TheVariants.{UnknownAccess, NotSeparable, ListLength, OverlayOff}
use Rattle.rights.specs.declared.answers.Stop.TheVariants.{Refused}
use Rattle.records.specs.Values.{on_leaf}
use Rattle.planner.specs.Plan.{Plan}
use Rattle.records.specs.Values.{Check}
use Rattle.records.specs.declared.refusal.Refusal.{Refusal}
use Rattle.records.specs.Values.{refusal_number}

-- Demand 3: for every accepted setup with stage 1 on, every level whose overlay is on and every list of up to 2,048 leaves that pass the planner's leaf
-- checks. An access is allowed where the judge's rights layer permits it with the register put in place of that level's POR.

-- a 64-bit register whose slots 0 to 7 hold 0 to 7 and whose slots 8 to 15 hold 0
pub record Usable (r : ℕ) : Type 0 where
  pub word : r < 2 ^ 64
  pub low : (i : ℕ) → i < 8 → nibble r i < 8
  pub high : (i : ℕ) → 8 ≤ i → i < 16 → nibble r i ≡ 0

-- a leaf passes if the planner has no 5, 6 or 7 for it: no 5, and no access of that level is refused with 77777777 in place of that
-- level's POR
pub record Passes (s : Setup) (l : Level) (f : Leaf) : Type 0 where
  pub checked : leaf_check f ≡ Ok tt
  pub met : (x : Right) (n : Refusal) → answer_with s l all_open f x ≡ (Err (Refused n)) → ⊥

module _ (s : Setup) (l : Level) (ls : List ℕ) where
  -- the access of that level with right x is allowed on leaf j with r in place of that level's POR
  abbrev pub Allowed : ℕ → ℕ → Right → Type 0
  Allowed r j x = allowed_with s l r (leaf_at ls j) x ≡ true

  -- leaf j forbids the access of that level with right x
  abbrev pub Forbids : ℕ → Right → Type 0
  Forbids j x = bit (leaf_at ls j).forbidden (access_number l x) ≡ true

  -- r cures leaf j: it stops every forbidden access of that level there
  abbrev pub Cures : ℕ → ℕ → Type 0
  Cures r j = (x : Right) → Forbids j x → Allowed r j x → ⊥

  -- r stops every forbidden access of that level on every leaf
  abbrev pub Separates : ℕ → Type 0
  Separates r = (j : ℕ) → j < leaf_count ls → Cures r j

  -- r is usable and separates; every bit on in any such register is on in r, and each access of that level that such a register allows
  -- on any leaf, r allows too
  pub record Largest (r : ℕ) : Type 0 where
    pub usable : Usable r
    pub separates : Separates r
    pub bits : (q : ℕ) → Usable q → Separates q → (k : ℕ) → bit q k ≡ true → bit r k ≡ true
    pub accesses : (q : ℕ) → Usable q → Separates q → (j : ℕ) → j < leaf_count ls → (x : Right) → Allowed q j x → Allowed r j x

  -- k is the first leaf that no usable register cures
  pub record FirstUncured (k : ℕ) : Type 0 where
    pub within : k < leaf_count ls
    pub uncured : (r : ℕ) → Usable r → Cures r k → ⊥
    pub before : (j : ℕ) → j < k → (r : ℕ) × Usable r × Cures r j

  -- what is demanded of the answer p
  pub record Demand3 (p : Plan) : Type 0 where
    -- 10 or a register, and nothing else
    pub answered : ((k : ℕ) × (p ≡ (Err (on_leaf NotSeparable k)))) ⊎ ((r : ℕ) × (p ≡ Ok r))
    -- refused with 10: no usable register separates
    pub refused : (k : ℕ) → p ≡ (Err (on_leaf NotSeparable k)) → (r : ℕ) → Usable r → Separates r → ⊥
    -- no usable register separates: refused with 10
    pub only : ((r : ℕ) → Usable r → Separates r → ⊥) → (k : ℕ) × (p ≡ (Err (on_leaf NotSeparable k)))
    -- 10 names the first leaf that no usable register cures
    pub first : (k : ℕ) → p ≡ (Err (on_leaf NotSeparable k)) → FirstUncured k
    -- otherwise the answer is the largest register that separates
    pub largest : (r : ℕ) → p ≡ Ok r → Largest r

-- the setup is accepted, none of 1, 2, 3 and 13 applies to it; stage 1 and that level's overlay are on; the list has whole leaves, up to
-- 2,048, and each passes
pub record Accepted (bytes : List ℕ) (lv : ℕ) (ls : List ℕ) (s : Setup) (l : Level) : Type 0 where
  pub read : read_setup bytes ≡ Ok s
  pub checked : setup_check s.control ≡ Ok tt
  pub level_is : level_check lv ≡ Ok l
  pub stage1_on : s.control.stage1 ≡ true
  pub overlay_on : of_level s.control.overlay l ≡ true
  pub whole : length ls % 18 ≡ 0
  pub few : leaf_count ls ≤ 2048
  pub passes : (j : ℕ) → j < leaf_count ls → Passes s l (leaf_at ls j)

-- demand 3 of the answer p, whatever the setup, the level and the list
abbrev pub Demanded : List ℕ → ℕ → List ℕ → Plan → Type 0
Demanded bytes lv ls p = (s : Setup) (l : Level) → Accepted bytes lv ls s l → Demand3 s l ls p

-- levels are numbered 0 privileged, 1 unprivileged
abbrev pub level_at : ℕ → Level
level_at lv = cond (eqb lv 0) Privileged Unprivileged

-- The refusals before the leaves: 13; 1, 2, 3; 4 for any other level; 12 where stage 1 or that level's overlay is off; 11 where the list is not a multiple
-- of 18 bytes or over 2,048 leaves
unfoldable pub start_refusal : List ℕ → ℕ → List ℕ → Check
start_refusal b lv ls =
    check_then (length_check b 52)
    (check_then (setup_check (setup_of b).control)
    (check_then (check_if (not (leb lv 1)) UnknownAccess)
    (check_then (check_if (not ((setup_of b).control.stage1 && of_level (setup_of b).control.overlay (level_at lv))) OverlayOff)
    (check_if (not (whole_leaves (length ls))) ListLength))))

-- the refusal of a leaf: 5, then the 6 or 7 that an access of that level meets with 77777777 in place of that level's POR
abbrev pub leaf_refusal : Setup → Level → Leaf → Check
leaf_refusal s l f = check_then (leaf_check f) (level_refusal s l all_open f)

-- the numbers that the planner refuses with: 1 to 7, 10 to 13
abbrev pub PlannerNumber : ℕ → Type 0
PlannerNumber k = ((1 ≤ k) × (k ≤ 7)) ⊎ ((10 ≤ k) × (k ≤ 13))

-- Of the answer p to the bytes b of a setup, a level and a list: a refusal has one of the paper's numbers; where a refusal before the leaves applies it is
-- the first of them, with leaf 0; else, where one applies at a leaf, it is the first leaf's; else demand 3 says what is answered, 10 or a register
pub record PlannerDemands (b : List ℕ) (lv : ℕ) (ls : List ℕ) (p : Plan) : Type 0 where
  pub numbers : (k : Refusal) (i : ℕ) → p ≡ Err (on_leaf k i) → PlannerNumber (refusal_number k)
  pub before : (k : Refusal) → start_refusal b lv ls ≡ Err k → p ≡ Err (on_leaf k 0)
  pub at_leaf : start_refusal b lv ls ≡ (Ok tt) → (k : Refusal) (i : ℕ) → i < leaf_count ls
      → ((j : ℕ) → j < i → leaf_refusal (setup_of b) (level_at lv) (leaf_at ls j) ≡ (Ok tt))
      → leaf_refusal (setup_of b) (level_at lv) (leaf_at ls i) ≡ Err k → p ≡ Err (on_leaf k i)
  pub settled : Demanded b lv ls p

-- Request A5: both levels are answered, and the demands hold of each separately
pub record BothDemands (b ls : List ℕ) (r : PerLevel Plan) : Type 0 where
  pub privileged : PlannerDemands b 0 ls r.privileged
  pub unprivileged : PlannerDemands b 1 ls r.unprivileged
