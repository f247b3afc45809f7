-- What the planner may know of rights, beside the checks: a register put in place of a level's POR (document 01, 'The planner'), all accesses of a
-- level ('A leaf's **rights**', up to the attribute steps), and what the planner asks of a leaf. proofs/PromiseLaws has the laws that it may
-- cite. Assumes nothing.
use Rattle.std.specs.Prelude.{ℕ, ◌%◌, Bool, ◌&&◌, ◌||◌, List, [], ◌∷◌, get_or, Result, Ok, Err}
use Rattle.records.specs.Access.{access_of, three, level_bits}
use Rattle.records.specs.Descriptor.{place_of}
use Rattle.records.specs.Values.{check_then}
use Rattle.records.specs.declared.access.Level.{Level}
use Rattle.records.specs.declared.access.Level.TheVariants.{Privileged, Unprivileged}
use Rattle.records.specs.declared.access.LevelRights.{LevelRights}
use Rattle.records.specs.declared.access.Right.{Right}
use Rattle.records.specs.declared.access.Right.TheVariants.{Read, Write, Execute}
use Rattle.records.specs.declared.descriptor.Limits.{Limits}
use Rattle.records.specs.declared.descriptor.Stage1.{Stage1}
use Rattle.records.specs.declared.descriptor.Stage2.{Stage2}
use Rattle.records.specs.declared.leaf.Leaf.{Leaf}
use Rattle.records.specs.declared.setup.PerLevel.{PerLevel}
use Rattle.records.specs.declared.setup.Setup.{Setup}
pub use Rattle.rights.specs.Answers.{permitted, refusal_of}
use Rattle.rights.specs.Order.{stages_answer, leaf_answer}
use Rattle.rights.specs.Overlay.{slot_rights}
use Rattle.records.specs.declared.refusal.Refusal.{Refusal}
use Rattle.rights.specs.declared.answers.Stop.TheVariants.{Faulted, Refused}
use Rattle.records.specs.Values.{Check}
use Rattle.rights.specs.Answers.{Answer}
use Rattle.rights.specs.declared.promise.RangeMask.{RangeMask}

-- a register in a level's place
abbrev pub replace : PerLevel ℕ → Level → ℕ → PerLevel ℕ
replace p Privileged r = record { privileged = r; unprivileged = p.unprivileged }
replace p Unprivileged r = record { privileged = p.privileged; unprivileged = r }

-- the setup with a register in place of that level's POR
abbrev pub put : Setup → Level → ℕ → Setup
put s l r = record { control = s.control; mair = s.mair; mair2 = s.mair2; pir = s.pir; por = replace s.por l r }

-- 77777777, which stops nothing
abbrev pub all_open : ℕ
all_open = 0x77777777

-- the answer to the access of a level with right x, with r in place of that level's POR; and whether it is allowed: its rights bit is on
abbrev pub answer_with : Setup → Level → ℕ → Leaf → Right → Answer
answer_with s l r f x = leaf_answer (put s l r) f (access_of l x)

abbrev pub allowed_with : Setup → Level → ℕ → Leaf → Right → Bool
allowed_with s l r f x = permitted (answer_with s l r f x)

-- the refusal that an access of the level meets with r in place of that level's POR, lowest access first
abbrev pub level_refusal : Setup → Level → ℕ → Leaf → Check
level_refusal s l r f =
    check_then (refusal_of (answer_with s l r f Read))
    (check_then (refusal_of (answer_with s l r f Write)) (refusal_of (answer_with s l r f Execute)))

-- the rights of a level, or a refusal
abbrev pub LevelAnswer : Type 0
LevelAnswer = Result LevelRights Refusal

-- a refusal refuses the level, whatever the later accesses give
abbrev pub unless_refused : Answer → LevelAnswer → LevelAnswer
unless_refused (Ok u) l = l
unless_refused (Err (Faulted f)) l = l
unless_refused (Err (Refused n)) l = Err n

-- a right is on exactly where its access is permitted; a fault gives 0; a refusal among them refuses, lowest access first
abbrev pub collect : Answer → Answer → Answer → LevelAnswer
collect r w x = unless_refused r (unless_refused w (unless_refused x (Ok (three (permitted r) (permitted w) (permitted x)))))

-- the three accesses of a level
unfoldable pub level_of : Setup → Stage1 → Stage2 → Limits → Level → LevelAnswer
level_of s d e t l =
    collect (stages_answer s d e t (access_of l Read)) (stages_answer s d e t (access_of l Write))
    (stages_answer s d e t (access_of l Execute))

-- the place of the leaf's slot, the rights of the level with every slot bit on and with every one off; or a refusal
pub data LevelRange : Type 0 where
  Range : ℕ → LevelRights → LevelRights → LevelRange
  NoRange : Refusal → LevelRange

-- what the planner asks of a leaf at a level: the 6 or 7 that an access meets with 77777777 in place of that level's POR, or the
-- place of the leaf's slot, the rights with 77777777 in place (every slot bit on) and with 0 in place (every slot bit off)
abbrev pub range_from : ℕ → LevelAnswer → LevelAnswer → LevelRange
range_from k (Err n) b = NoRange n
range_from k (Ok f) (Ok b) = Range k f b
range_from k (Ok f) (Err n) = NoRange n

unfoldable pub range_of : Setup → Stage1 → Stage2 → Limits → Level → LevelRange
range_of s d e t l =
    range_from (place_of d.poindex) (level_of (put s l all_open) d e t l) (level_of (put s l 0) d e t l)

-- the rights with slot v, from those with every slot bit on and with every one off: a right that the slot can't take away stays, and
-- any other needs the slot's bit
abbrev pub between : LevelRights → LevelRights → ℕ → LevelRights
between f b v =
    three (f.read && (b.read || (slot_rights v).read)) (f.write && (b.write || (slot_rights v).write))
    (f.execute && (b.execute || (slot_rights v).execute))

-- the same with rights as bits
abbrev pub range : ℕ → ℕ → ℕ → RangeMask
range k f b = record { place = k; full = f; bare = b }

abbrev pub range_mask : LevelRange → Result RangeMask Refusal
range_mask (Range k f b) = Ok (range k (level_bits f) (level_bits b))
range_mask (NoRange n) = Err n

-- what slots 0 to 7 grant, rights as bits: a slot's bits are R, X, W
abbrev pub slot_table : List ℕ
slot_table = 0 ∷ 1 ∷ 4 ∷ 5 ∷ 2 ∷ 3 ∷ 6 ∷ 7 ∷ []

-- the slot that has the bits of rights: X and W exchanged, as in what a slot grants
abbrev pub slot_of : ℕ → ℕ
slot_of m = get_or slot_table (m % 8) 0
