-- What the rights of a level say of its single accesses: a right is on exactly where its access is permitted, and a level that is refused
-- permits none. Assumes nothing.
use Rattle.records.proofs.Cases.{clash}
use mathlib.Core.Logic.{◌⊎◌, inl, inr}
use mathlib.Core.Path.{◌≡◌, ap}
use Rattle.records.specs.Access.{access_of, three, has_right}
use Rattle.records.specs.declared.access.Level.{Level}
use Rattle.records.specs.declared.access.Right.{Right}
use Rattle.records.specs.declared.access.Right.TheVariants.{Read, Write, Execute}
use Rattle.records.specs.declared.descriptor.Limits.{Limits}
use Rattle.records.specs.declared.descriptor.Stage1.{Stage1}
use Rattle.records.specs.declared.descriptor.Stage2.{Stage2}
use Rattle.records.specs.declared.setup.Setup.{Setup}
use Rattle.rights.specs.Answers.{permitted}
use Rattle.rights.specs.Promise.{unless_refused, collect, level_of, LevelAnswer}
use Rattle.rights.specs.Order.{stages_answer}
use Rattle.records.specs.declared.access.LevelRights.{LevelRights}
use Rattle.std.specs.Prelude.{Ok, Err}
use Rattle.rights.specs.declared.answers.Stop.TheVariants.{Faulted, Refused}
use Rattle.rights.specs.Answers.{Answer}
use Rattle.records.specs.declared.refusal.Refusal.{Refusal}

-- rights come from what follows an access that is not refused
rest : (a : Answer) (k : LevelAnswer) (r : LevelRights) → unless_refused a k ≡ Ok r → k ≡ Ok r
rest (Ok u) k r e = e
rest (Err (Faulted f)) k r e = e
rest (Err (Refused n)) k r e = clash (cc)

collected : (a b c : Answer) (r : LevelRights) → collect a b c ≡ Ok r → three (permitted a) (permitted b) (permitted c) ≡ r
collected a b c r e = let f = rest c _ r (rest b _ r (rest a _ r e)) in cc

-- an access that is not refused, before a level that is refused or has rights
passed_on : (a : Answer) (k : LevelAnswer) (n : Refusal) → unless_refused a k ≡ Err n → (a ≡ (Err (Refused n))) ⊎ (k ≡ Err n)
passed_on (Ok u) k n e = inr e
passed_on (Err (Faulted f)) k n e = inr e
passed_on (Err (Refused m)) k n e = inl (cc)

not-this : (a : Answer) (k : LevelAnswer) (r : LevelRights) (n : Refusal) → unless_refused a k ≡ Ok r → a ≡ (Err (Refused n)) → ⊥
not-this a k r n e q = let f : Err n ≡ Ok r = (rw q at e) in clash (cc)

module _ (s : Setup) (d : Stage1) (e : Stage2) (t : Limits) (l : Level) where
  -- the answer to an access of the level
  abbrev pub answer_to : Right → Answer
  answer_to x = stages_answer s d e t (access_of l x)

  all-is : (r : LevelRights) → level_of s d e t l ≡ Ok r
      → three (permitted (answer_to Read)) (permitted (answer_to Write)) (permitted (answer_to Execute)) ≡ r
  unfolding level_of
  all-is r q = collected (answer_to Read) (answer_to Write) (answer_to Execute) r q

  -- a right of a level is on exactly where its access is permitted
  pub right_is : (r : LevelRights) → level_of s d e t l ≡ Ok r → (x : Right) → permitted (answer_to x) ≡ has_right r x
  right_is r q Read = ap (λ (y : LevelRights). y.read) (all-is r q)
  right_is r q Write = ap (λ (y : LevelRights). y.write) (all-is r q)
  right_is r q Execute = ap (λ (y : LevelRights). y.execute) (all-is r q)

  -- a level that is refused has an access that is refused
  pub access-refused : (n : Refusal) → level_of s d e t l ≡ Err n → (x : Right) × (answer_to x ≡ (Err (Refused n)))
  unfolding level_of
  access-refused n q = first (passed_on (answer_to Read) _ n q)
    where
      last : (answer_to Execute ≡ (Err (Refused n))) ⊎ (Ok (three (permitted (answer_to Read)) (permitted (answer_to Write)) (permitted (answer_to Execute))) ≡ Err n)
          → (x : Right) × (answer_to x ≡ (Err (Refused n)))
      last (inl h) = (Execute, h)
      last (inr h) = clash (cc)

      second : (answer_to Write ≡ (Err (Refused n))) ⊎ (unless_refused (answer_to Execute) (Ok (three (permitted (answer_to Read)) (permitted (answer_to Write)) (permitted (answer_to Execute)))) ≡ Err n)
          → (x : Right) × (answer_to x ≡ (Err (Refused n)))
      second (inl h) = (Write, h)
      second (inr h) = last (passed_on (answer_to Execute) _ n h)

      first : (answer_to Read ≡ (Err (Refused n))) ⊎ (unless_refused (answer_to Write) (unless_refused (answer_to Execute) (Ok (three (permitted (answer_to Read)) (permitted (answer_to Write)) (permitted (answer_to Execute))))) ≡ Err n)
          → (x : Right) × (answer_to x ≡ (Err (Refused n)))
      first (inl h) = (Read, h)
      first (inr h) = second (passed_on (answer_to Write) _ n h)

  -- a level that has rights has no access that is refused
  pub access-not-refused : (r : LevelRights) → level_of s d e t l ≡ Ok r → (x : Right) (n : Refusal) → answer_to x ≡ (Err (Refused n)) → ⊥
  unfolding level_of
  access-not-refused r q Read n u = not-this (answer_to Read) _ r n q u
  access-not-refused r q Write n u = not-this (answer_to Write) _ r n (rest (answer_to Read) _ r q) u
  access-not-refused r q Execute n u = not-this (answer_to Execute) _ r n (rest (answer_to Write) _ r (rest (answer_to Read) _ r q)) u
