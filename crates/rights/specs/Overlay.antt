-- Document 01, 'Stage 1 rights', **Overlay**: what a slot grants, and the overlay of one access. Assumes nothing.
use Rattle.std.specs.Prelude.{ℕ, Bool, cond, ◌&&◌, leb, Ok}
use Rattle.records.specs.Access.{three, has_right}
use Rattle.records.specs.Bits.{bit}
use Rattle.records.specs.Descriptor.{slot_at}
use Rattle.records.specs.Setup.{of_level}
use Rattle.records.specs.declared.access.Access.{Access}
use Rattle.records.specs.declared.access.LevelRights.{LevelRights}
use Rattle.records.specs.declared.access.Right.{Right}
use Rattle.records.specs.declared.descriptor.Stage1.{Stage1}
use Rattle.records.specs.declared.setup.PerLevel.{PerLevel}
use Rattle.records.specs.declared.setup.Setup.{Setup}
use Rattle.rights.specs.Answers.{follow, fault_unless, refuse_if}
use Rattle.rights.specs.declared.answers.Kind.TheVariants.{Overlay}
use Rattle.records.specs.declared.refusal.Refusal.TheVariants.{ReservedCode}
use Rattle.rights.specs.Answers.{Answer}
use Rattle.rights.specs.declared.answers.Stage.TheVariants.{One}

-- a slot: bit 0 R, bit 1 X, bit 2 W
abbrev pub slot_rights : ℕ → LevelRights
slot_rights v = three (bit v 0) (bit v 2) (bit v 1)

-- where overlays are on and apply: slots 8 to 15 are reserved, 6; a right that the slot lacks is an Overlay fault, cause 8
abbrev pub slot_answer : Bool → ℕ → Right → Answer
slot_answer on v r = cond on (follow (refuse_if (leb 8 v) ReservedCode) (fault_unless (has_right (slot_rights v) r) One Overlay 8)) (Ok tt)

-- the overlay: on for the access's level, and applying to the base rights of that level; the slot at POIndex in that level's POR
abbrev pub overlay_answer : Setup → Stage1 → PerLevel Bool → Access → Answer
overlay_answer s d applies a =
    slot_answer (of_level s.control.overlay a.level && of_level applies a.level)
    (slot_at (of_level s.por a.level) d.poindex) a.right
