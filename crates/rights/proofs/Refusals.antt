-- The refusal of a level that the planner asks for is the first that an access of the level meets with 77777777 in place, and it is 6 or 7. Assumes
-- nothing.
use mathlib.Core.Path.{◌≡◌, refl, sym, ap, ◌∙◌}
use Prim.Native.Nat.{◌≤◌}
use Rattle.records.proofs.Cases.{clash}
use Rattle.records.specs.Access.{access_of}
use Rattle.records.specs.Descriptor.{place_of, stage1_of, stage2_of, limits_of}
use Rattle.records.specs.Values.{check_then}
use Rattle.records.specs.declared.access.Level.{Level}
use Rattle.records.specs.declared.access.Right.{Right}
use Rattle.records.specs.declared.access.Right.TheVariants.{Read, Write, Execute}
use Rattle.records.specs.declared.leaf.Leaf.{Leaf}
use Rattle.records.specs.declared.setup.Setup.{Setup}
use Rattle.rights.specs.Answers.{follow, refusal_of}
use Rattle.rights.specs.Order.{stage1_if, stage2_if}
use Rattle.rights.specs.Promise.{all_open, put, answer_with, level_refusal, LevelAnswer, collect, level_of, LevelRange, Range, NoRange, range_from, range_of}
use Rattle.rights.proofs.Named.{Named, permits, faults, refuses, stage1-named, stage2-named}
use Rattle.rights.proofs.OrderLaws.{stages-as}
use Rattle.rights.proofs.Ranges.{refused-is}
use Rattle.std.specs.Prelude.{Ok, Err}
use Rattle.rights.specs.declared.answers.Stop.TheVariants.{Faulted, Refused}
use Rattle.records.specs.Values.{Check}
use Rattle.rights.specs.Answers.{Answer}
use Rattle.records.specs.declared.refusal.Refusal.{Refusal}
use Rattle.records.specs.Values.{refusal_number}
use Rattle.rights.specs.declared.answers.Stage.TheVariants.{One, Two}

-- the refusal of a level's answer, and of a range
abbrev refusal_at : LevelAnswer → Check
refusal_at (Ok r) = Ok tt
refusal_at (Err n) = Err n

abbrev pub refusal_in : LevelRange → Check
refusal_in (Range k f b) = Ok tt
refusal_in (NoRange n) = Err n

collected : (a b c : Answer) → refusal_at (collect a b c) ≡ check_then (refusal_of a) (check_then (refusal_of b) (refusal_of c))
collected (Err (Refused n)) b c = refl
collected (Ok u) (Err (Refused n)) c = refl
collected (Ok u) (Ok v) (Ok w) = refl
collected (Ok u) (Ok v) (Err (Faulted f)) = refl
collected (Ok u) (Ok v) (Err (Refused n)) = refl
collected (Ok u) (Err (Faulted f)) (Ok v) = refl
collected (Ok u) (Err (Faulted f)) (Err (Faulted g)) = refl
collected (Ok u) (Err (Faulted f)) (Err (Refused n)) = refl
collected (Err (Faulted f)) (Err (Refused n)) c = refl
collected (Err (Faulted f)) (Ok u) (Ok v) = refl
collected (Err (Faulted f)) (Ok u) (Err (Faulted g)) = refl
collected (Err (Faulted f)) (Ok u) (Err (Refused n)) = refl
collected (Err (Faulted f)) (Err (Faulted g)) (Ok u) = refl
collected (Err (Faulted f)) (Err (Faulted g)) (Err (Faulted h)) = refl
collected (Err (Faulted f)) (Err (Faulted g)) (Err (Refused n)) = refl

module _ (s : Setup) (l : Level) (f : Leaf) where
  abbrev level : LevelAnswer
  level = level_of (put s l all_open) (stage1_of f.stage1) (stage2_of f.stage2) (limits_of f.limits) l

  level-refusal : refusal_at level ≡ level_refusal s l all_open f
  unfolding level_of
  level-refusal = collected (answer_with s l all_open f Read) (answer_with s l all_open f Write) (answer_with s l all_open f Execute)

  pub range-refusal : refusal_in (range_of s (stage1_of f.stage1) (stage2_of f.stage2) (limits_of f.limits) l) ≡ level_refusal s l all_open f
  unfolding range_of
  range-refusal = go _ refl level refl ∙ level-refusal
    where
      go : (r : LevelRange) → range_of s (stage1_of f.stage1) (stage2_of f.stage2) (limits_of f.limits) l ≡ r → (x : LevelAnswer) → level ≡ x
          → refusal_in r ≡ refusal_at level
      go (NoRange n) e x q = sym (ap refusal_at (refused-is s (stage1_of f.stage1) (stage2_of f.stage2) (limits_of f.limits) l n e))
      go (Range k a b) e (Ok r) q = sym (ap refusal_at q)
      go (Range k a b) e (Err n) q =
          let h : range_from (place_of (stage1_of f.stage1).poindex) (Err n) (level_of (put s l 0) (stage1_of f.stage1) (stage2_of f.stage2) (limits_of f.limits) l) ≡ Range k a b = rw q at e in
          clash (cc)

  -- an access is refused with 6 or 7
  met : (x : Right) (n : Refusal) → answer_with s l all_open f x ≡ (Err (Refused n)) → (6 ≤ refusal_number n) × (refusal_number n ≤ 7)
  met x n e =
      go (stage1_if (put s l all_open) (stage1_of f.stage1) (limits_of f.limits) (access_of l x)) (stage1-named (put s l all_open) _ _ _) (stage2_if (put s l all_open) (stage2_of f.stage2) (access_of l x)) (stage2-named (put s l all_open) _ _)
      (sym (stages-as (put s l all_open) (stage1_of f.stage1) (stage2_of f.stage2) (limits_of f.limits) (access_of l x) _ refl) ∙ e)
    where
      go : (a : Answer) → Named One a → (b : Answer) → Named Two b → follow a b ≡ (Err (Refused n)) → (6 ≤ refusal_number n) × (refusal_number n ≤ 7)
      go _ permits _ permits q = clash (cc)
      go _ permits _ (faults g p h) q = clash (cc)
      go _ permits _ (refuses m h) q = let g : m ≡ n = cc in rw (← g) h
      go _ (faults g p h) b _ q = clash (cc)
      go _ (refuses m h) b _ q = let g : m ≡ n = cc in rw (← g) h

  pub refusal-number : (n : Refusal) → level_refusal s l all_open f ≡ Err n → (6 ≤ refusal_number n) × (refusal_number n ≤ 7)
  refusal-number n = go (answer_with s l all_open f Read) refl (answer_with s l all_open f Write) refl (answer_with s l all_open f Execute) refl
    where
      last : (c : Answer) → answer_with s l all_open f Execute ≡ c → refusal_of c ≡ Err n → (6 ≤ refusal_number n) × (refusal_number n ≤ 7)
      last (Ok u) e q = clash (cc)
      last (Err (Faulted g)) e q = clash (cc)
      last (Err (Refused m)) e q = met Execute n (e ∙ (cc))

      second : (b : Answer) → answer_with s l all_open f Write ≡ b → (c : Answer) → answer_with s l all_open f Execute ≡ c
          → check_then (refusal_of b) (refusal_of c) ≡ Err n → (6 ≤ refusal_number n) × (refusal_number n ≤ 7)
      second (Ok u) e c r q = last c r q
      second (Err (Faulted g)) e c r q = last c r q
      second (Err (Refused m)) e c r q = met Write n (e ∙ (cc))

      go : (a : Answer) → answer_with s l all_open f Read ≡ a → (b : Answer) → answer_with s l all_open f Write ≡ b → (c : Answer) → answer_with s l all_open f Execute ≡ c
          → check_then (refusal_of a) (check_then (refusal_of b) (refusal_of c)) ≡ Err n → (6 ≤ refusal_number n) × (refusal_number n ≤ 7)
      go (Ok u) e b p c r q = second b p c r q
      go (Err (Faulted g)) e b p c r q = second b p c r q
      go (Err (Refused m)) e b p c r q = met Read n (e ∙ (cc))
