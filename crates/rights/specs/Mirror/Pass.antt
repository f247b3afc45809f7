-- The planner's pass over all accesses of a level. Nothing here needs to be believed: the law `agree` of proofs/Agree says that it gives `level_of`.
-- Assumes nothing.
use Rattle.records.specs.declared.access.Rights.{Rights as SixRights}
use Rattle.std.specs.Prelude.{ℕ, Bool, false, cond, not, ◌&&◌, ◌||◌, leb, Ok, Err}
use Rattle.records.specs.Access.{three, level_in}
use Rattle.records.specs.Descriptor.{slot_at}
use Rattle.records.specs.Setup.{of_level}
use Rattle.records.specs.declared.access.Level.{Level}
use Rattle.records.specs.declared.access.LevelRights.{LevelRights}
use Rattle.records.specs.declared.descriptor.Limits.{Limits}
use Rattle.records.specs.declared.descriptor.Stage1.{Stage1}
use Rattle.records.specs.declared.descriptor.Stage2.{Stage2}
use Rattle.records.specs.declared.setup.PerLevel.{PerLevel}
use Rattle.records.specs.declared.setup.Setup.{Setup}
use Rattle.rights.specs.Mirror.Base.{Base, BaseAnswer, base_of}
use Rattle.rights.specs.Overlay.{slot_rights}
use Rattle.rights.specs.Promise.{LevelAnswer}
use Rattle.rights.specs.Stage1.{dirty}
use Rattle.rights.specs.Stage2.{stage2_rights}
use Rattle.rights.specs.Steps.{everything}
use Rattle.records.specs.declared.refusal.Refusal.{Refusal}
use Rattle.records.specs.declared.refusal.Refusal.TheVariants.{ReservedCode, Unjudged}

-- stage 1 for all accesses: base rights, a fault of every access, or a refusal of every access
pub data Stage1Pass : Type 0 where
  Granted : Base → Stage1Pass
  Nothing : Stage1Pass
  Refused : Refusal → Stage1Pass

-- stage 2 for all accesses that reach it
pub data Stage2Pass : Type 0 where
  Granted : SixRights → Stage2Pass
  Nothing : Stage2Pass
  Refused : Refusal → Stage2Pass

abbrev pub from_base : BaseAnswer → Stage1Pass
from_base (Ok b) = Stage1Pass.Granted b
from_base (Err n) = Stage1Pass.Refused n

-- stage 1 for all accesses: a fault of every access, a refusal of every access, or base rights. Off, it permits everything and no
-- overlay applies
unfoldable pub stage1_pass : Setup → Stage1 → Limits → Stage1Pass
stage1_pass s d t =
    cond s.control.stage1
    (cond (d.valid && d.af) (cond (dirty s.control d) (Stage1Pass.Refused Unjudged) (from_base (base_of s d t))) Stage1Pass.Nothing)
    (Stage1Pass.Granted (record { rights = everything; overlay = record { privileged = false; unprivileged = false } }))

-- stage 2 for all accesses that reach it
unfoldable pub stage2_pass : Bool → Stage2 → Stage2Pass
stage2_pass on d =
    cond on (cond (d.valid && d.af) (cond d.bit51 (Stage2Pass.Refused Unjudged) (Stage2Pass.Granted (stage2_rights d))) Stage2Pass.Nothing)
    (Stage2Pass.Granted everything)

abbrev pub none : LevelRights
none = three false false false

abbrev pub any : LevelRights → Bool
any r = r.read || r.write || r.execute

abbrev pub both : LevelRights → LevelRights → LevelRights
both a b = three (a.read && b.read) (a.write && b.write) (a.execute && b.execute)

-- the rights that an overlay slot leaves
abbrev pub overlaid : Bool → LevelRights → LevelRights → LevelRights
overlaid on v r = three (r.read && (not on || v.read)) (r.write && (not on || v.write)) (r.execute && (not on || v.execute))

-- the rights that stage 2 leaves; its refusal is met by an access that reaches it
abbrev pub after_stage2 : LevelRights → Stage2Pass → Level → LevelAnswer
after_stage2 r (Stage2Pass.Granted g) l = Ok (both r (level_in g l))
after_stage2 r Stage2Pass.Nothing l = Ok none
after_stage2 r (Stage2Pass.Refused n) l = cond (any r) (Err n) (Ok none)

-- a reserved slot is met by an access that the base grants
abbrev pub pass_level : LevelRights → Bool → ℕ → Stage2Pass → Level → LevelAnswer
pass_level r on v t l = cond (on && leb 8 v && any r) (Err ReservedCode) (after_stage2 (overlaid on (slot_rights v) r) t l)

-- the level's rights with slot v
abbrev pub pass_base : PerLevel Bool → Base → ℕ → Stage2Pass → Level → LevelAnswer
pass_base o b v t l = pass_level (level_in b.rights l) (of_level o l && of_level b.overlay l) v t l

abbrev pub pass_with : PerLevel Bool → Stage1Pass → ℕ → Stage2Pass → Level → LevelAnswer
pass_with o (Stage1Pass.Granted b) v t l = pass_base o b v t l
pass_with o Stage1Pass.Nothing v t l = Ok none
pass_with o (Stage1Pass.Refused n) v t l = Err n

-- the level's rights with the slot of its register
abbrev pub pass : Setup → Stage1 → Stage2 → Limits → Level → LevelAnswer
pass s d e t l =
    pass_with s.control.overlay (stage1_pass s d t) (slot_at (of_level s.por l) d.poindex) (stage2_pass s.control.stage2 e) l
