-- Document 01, 'The planner' and the planner's sentences of 'The order a judgement is made in': the checks 13, 1, 2, 3, 4, 12, 11; leaf by
-- leaf 5, 6 and 7; then 10; then the register. Assumes nothing.
use Rattle.std.specs.Prelude.{ℕ, zero, suc, List, Bool, false, cond, ◌&&◌, ◌||◌, ltb, length, get_or, set, replicate, Result, Ok, Err}
use Rattle.records.specs.Access.{three, access_number}
use Rattle.records.specs.Bits.{bit}
use Rattle.records.specs.Descriptor.{stage1_of, stage2_of, limits_of}
use Rattle.records.specs.Leaf.{read_leaf, leaf_count, leaf_slice, whole_leaves}
use Rattle.records.specs.Setup.{of_level, read_setup}
use Rattle.records.specs.Values.{Values, refusal, refusal_number, unplaced, with_register, if_passes}
use Rattle.records.specs.declared.access.Level.{Level}
use Rattle.records.specs.declared.access.LevelRights.{LevelRights}
use Rattle.records.specs.declared.access.Right.TheVariants.{Read, Write, Execute}
use Rattle.records.specs.declared.setup.Control.{Control}
use Rattle.records.specs.declared.setup.Setup.{Setup}
use Rattle.rights.specs.Checks.{setup_check, level_check, leaf_check}
use Rattle.rights.specs.Promise.{LevelRange, Range, NoRange, range_of}
use Rattle.planner.specs.Register.{slot_number, cut_mask, pack_from}
use Rattle.planner.specs.declared.cut.Cut.{Cut}
use Rattle.records.specs.declared.refusal.LeafRefusal.{LeafRefusal}
use Rattle.records.specs.declared.setup.PerLevel.{PerLevel}
use Rattle.records.specs.declared.refusal.Refusal.{Refusal}
use Rattle.records.specs.declared.refusal.Refusal.TheVariants.{NotSeparable, ListLength, OverlayOff}
use Rattle.records.specs.Values.{on_leaf}
use Rattle.records.specs.declared.leaf.Leaf.{Leaf}

-- an answer: a register, or a refusal with its leaf; and what a leaf asks of the register, or its refusal
abbrev pub Plan : Type 0
Plan = Result ℕ LeafRefusal

abbrev pub LeafPlan : Type 0
LeafPlan = Result Cut Refusal

-- the paper's number and values of an answer
abbrev pub plan_values : Plan → Values
plan_values (Ok r) = with_register r
plan_values (Err r) = refusal (refusal_number r.refusal) r.leaf

-- 12: stage 1 or that level's overlay is off. 11: the list is not a multiple of 18 bytes or over 2,048 leaves
abbrev pub start_level : Control → ℕ → Result Level Refusal → Result Level Refusal
start_level c len (Err r) = Err r
start_level c len (Ok l) =
    cond (c.stage1 && of_level c.overlay l)
    (cond (whole_leaves len) (Ok l) (Err ListLength)) (Err OverlayOff)

-- 1, 2, 3, then 4, 12, 11, for a list of `len` bytes
unfoldable pub start_of : Control → ℕ → ℕ → Result Level Refusal
start_of c lv len = if_passes (setup_check c) Err (start_level c len (level_check lv))

-- the level's rights that a forbidden byte forbids
abbrev pub forbidden_rights : ℕ → Level → LevelRights
forbidden_rights f l = three (bit f (access_number l Read)) (bit f (access_number l Write)) (bit f (access_number l Execute))

-- rights that are in both, and whether there is one
abbrev pub common : LevelRights → LevelRights → LevelRights
common a b = three (a.read && b.read) (a.write && b.write) (a.execute && b.execute)

abbrev pub any : LevelRights → Bool
any a = a.read || a.write || a.execute

-- a cut of the slot at place k: the bits t must be off; u: no register cures the leaf
abbrev pub cut : ℕ → ℕ → Bool → Cut
cut k t u = record { place = k; taken = t; uncured = u }

-- the slot bits that must be off at the leaf's place, those of forbidden rights that are on with every slot bit on; and whether no register
-- cures the leaf, where a forbidden right is on with every slot bit off
abbrev pub range_plan : ℕ → Level → LevelRange → Result Cut Refusal
range_plan f l (NoRange n) = Err n
range_plan f l (Range k full bare) =
    Ok (cut k (slot_number (common (forbidden_rights f l) full)) (any (common (forbidden_rights f l) bare)))

-- 5, then the 6 or 7 that an access of that level meets with 77777777 in place of that level's POR. Bytes that are no leaf give 13
abbrev pub leaf_plan : Setup → Level → (Result Leaf Refusal) → LeafPlan
leaf_plan s l (Err n) = Err n
leaf_plan s l (Ok f) =
    if_passes (leaf_check f) Err
    (range_plan f.forbidden l (range_of s (stage1_of f.stage1) (stage2_of f.stage2) (limits_of f.limits) l))

unfoldable pub leaf_plan_of : Setup → Level → List ℕ → Result Cut Refusal
leaf_plan_of s l bytes = leaf_plan s l (read_leaf bytes)

-- the plans of a list's leaves, by index
abbrev pub plans_of : Setup → Level → List ℕ → ℕ → Result Cut Refusal
plans_of s l ls i = leaf_plan_of s l (leaf_slice ls i)

-- a leaf's refusal, or what is answered where it has none
abbrev pub or_refused : LeafPlan → ℕ → Plan → Plan
or_refused (Ok c) i p = p
or_refused (Err n) i p = Err (on_leaf n i)

-- the masks after a leaf
abbrev pub cut_by : LeafPlan → List ℕ → List ℕ
cut_by (Ok c) ms = set ms c.place (cut_mask (get_or ms c.place 0) c.taken)
cut_by (Err n) ms = ms

-- no register cures the leaf
abbrev pub uncured : LeafPlan → Bool
uncured (Ok c) = c.uncured
uncured (Err n) = false

-- Each function below goes over the leaves from index i on, of which there are as many as the number before i says.

-- the first refusal of a leaf, or what is answered where there is none
unfoldable pub refused_from : (ℕ → LeafPlan) → Plan → ℕ → ℕ → Plan
refused_from P p zero i = p
refused_from P p (suc m) i = or_refused (P i) i (refused_from P p m (suc i))

-- the first leaf that no register can cure, or the index past the last leaf
unfoldable pub first_uncured : (ℕ → LeafPlan) → ℕ → ℕ → ℕ
first_uncured P zero i = i
first_uncured P (suc m) i = cond (uncured (P i)) i (first_uncured P m (suc i))

-- the eight masks, cut leaf by leaf
unfoldable pub cuts : (ℕ → LeafPlan) → ℕ → ℕ → List ℕ → List ℕ
cuts P zero i ms = ms
cuts P (suc m) i ms = cuts P m (suc i) (cut_by (P i) ms)

-- the register of n leaves: eight masks, 7 each at first
unfoldable pub register_for : (ℕ → LeafPlan) → ℕ → ℕ
register_for P n = pack_from (cuts P n 0 (replicate 8 7)) 8 0

-- 10 names the first leaf that no register can cure
unfoldable pub settled : (ℕ → LeafPlan) → ℕ → Plan
settled P n = cond (ltb (first_uncured P n 0) n) (Err (on_leaf NotSeparable (first_uncured P n 0))) (Ok (register_for P n))

-- n leaves: all their 5, 6 and 7 come before 10
abbrev pub in_order : (ℕ → LeafPlan) → ℕ → Plan
in_order P n = refused_from P (settled P n) n 0

unfoldable pub plan_leaves : Setup → Level → List ℕ → Plan
plan_leaves s l ls = in_order (plans_of s l ls) (leaf_count ls)

-- a refusal before the leaves has leaf 0
abbrev pub plan_from : Setup → List ℕ → (Result Level Refusal) → Plan
plan_from s ls (Err n) = Err (unplaced n)
plan_from s ls (Ok l) = plan_leaves s l ls

-- 13, then 1, 2, 3, 4, 12, 11, then the leaves
abbrev pub plan_setup : ℕ → List ℕ → (Result Setup Refusal) → Plan
plan_setup lv ls (Err n) = Err (unplaced n)
plan_setup lv ls (Ok s) = plan_from s ls (start_of s.control lv (length ls))

unfoldable pub plan_of : List ℕ → ℕ → List ℕ → Plan
plan_of bytes lv ls = plan_setup lv ls (read_setup bytes)

-- request A5: both levels, each with its own plan
unfoldable pub both_of : List ℕ → List ℕ → PerLevel Plan
both_of bytes ls = record { privileged = plan_of bytes 0 ls; unprivileged = plan_of bytes 1 ls }
