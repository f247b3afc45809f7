-- The planner's pass as the code makes it, with rights as bits of a number. Nothing here needs to be believed: the laws of proofs/Masks say that it gives
-- what Pass has. Assumes nothing.
use Rattle.std.specs.Prelude.{ℕ, Bool, cond, not, ◌&&◌, List, [], ◌∷◌, eqb, leb, Result, Ok, Err}
use Rattle.std.specs.Int.Bits.{bit_and}
use Rattle.records.specs.Access.{bits_in, level_bits, six_mask}
use Rattle.records.specs.Bits.{bit}
use Rattle.records.specs.declared.access.Level.{Level}
use Rattle.records.specs.declared.access.Level.TheVariants.{Privileged, Unprivileged}
use Rattle.records.specs.Setup.{control_of}
use Rattle.records.specs.declared.setup.Setup.{Setup}
use Rattle.rights.specs.Mirror.BaseMasks.{base_mask}
use Rattle.rights.specs.Promise.{LevelAnswer, slot_of}
use Rattle.rights.specs.Mirror.Pass.{Stage1Pass, Stage2Pass}
use Rattle.records.specs.declared.refusal.Refusal.{Refusal}
use Rattle.records.specs.declared.refusal.Refusal.TheVariants.{ReservedCode}
use Rattle.rights.specs.Mirror.BaseMasks.{Mask}
use Rattle.rights.specs.declared.promise.RangeMask.{RangeMask}
use Rattle.rights.specs.Promise.{range}

-- the answer of a level as a mask
abbrev pub level_mask : LevelAnswer → Mask
level_mask (Ok r) = Ok (level_bits r)
level_mask (Err n) = Err n

-- a setup with control word w and PIRs p and u: stage 1 reads no other register before the overlay
abbrev pub setup_with : ℕ → ℕ → ℕ → Setup
setup_with w p u = record {
  control = control_of w;
  mair = 0;
  mair2 = 0;
  pir = record { privileged = p; unprivileged = u };
  por = record { privileged = 0; unprivileged = 0 };
}

-- stage 1 as a base answer: a fault of every access is no rights
abbrev pub stage1_mask : Stage1Pass → Mask
stage1_mask (Stage1Pass.Granted b) = base_mask (Ok b)
stage1_mask Stage1Pass.Nothing = Ok 0
stage1_mask (Stage1Pass.Refused n) = Err n

abbrev pub stage2_mask : Stage2Pass → Mask
stage2_mask (Stage2Pass.Granted g) = Ok (six_mask g)
stage2_mask Stage2Pass.Nothing = Ok 0
stage2_mask (Stage2Pass.Refused n) = Err n

-- stage 2's rights by S2AP and XN: S2AP bit 0 reads, bit 1 writes; XN 00: px ux, 01: ux, 10: neither, 11: px
abbrev pub stage2_table : List ℕ
stage2_table = 36 ∷ 45 ∷ 54 ∷ 63 ∷ 32 ∷ 41 ∷ 50 ∷ 59 ∷ 0 ∷ 9 ∷ 18 ∷ 27 ∷ 4 ∷ 13 ∷ 22 ∷ 31 ∷ []

-- whether overlays apply to the rights of a level
abbrev pub applies_in : ℕ → Level → Bool
applies_in m Privileged = bit m 6
applies_in m Unprivileged = bit m 7

-- what slot v of a level grants, everything where no overlay applies
abbrev pub grants : Bool → ℕ → ℕ
grants on v = cond on (slot_of v) 7

-- the rights that stage 2 leaves; its refusal is met by an access that reaches it
abbrev pub stage2_left : ℕ → Mask → Level → Mask
stage2_left r (Ok g) l = Ok (bit_and r (bits_in g l))
stage2_left r (Err n) l = cond (eqb r 0) (Ok 0) (Err n)

-- a reserved slot is met by an access that the base grants
abbrev pub slot_left : ℕ → Bool → ℕ → Mask → Level → Mask
slot_left r on v t l =
    cond (on && leb 8 v && not (eqb r 0)) (Err ReservedCode) (stage2_left (bit_and r (grants on v)) t l)

-- the level's rights with slot v, where `on` is whether that level's overlay is
abbrev pub mask_with : Bool → Mask → ℕ → Mask → Level → Mask
mask_with on (Ok m) v t l = slot_left (bits_in m l) (on && applies_in m l) v t l
mask_with on (Err n) v t l = Err n

-- the same from the masks with every slot bit on and with every one off
abbrev pub range_with : ℕ → Mask → Mask → Result RangeMask Refusal
range_with k (Ok f) (Ok b) = Ok (range k f b)
range_with k (Ok f) (Err n) = Err n
range_with k (Err n) b = Err n
