-- Tables that a setup decides once, by which stage 1 of a leaf is known up to the overlay. Nothing here needs to be believed: the laws
-- `with-table` and `range-by` of proofs/Table say that it gives what Pass and Promise have. Assumes nothing.
use Rattle.std.specs.Prelude.{ℕ, ◌%◌, ◌<◌, ◌≡◌, Bool, true, cond, ◌&&◌, get_or, Result, Ok, Err}
use Rattle.std.specs.Int.Bits.{bit_and, bit_or}
use Rattle.records.specs.Bits.{bit, nibble}
use Rattle.records.specs.Descriptor.{stage2_of, pi_index, entry_of, po_index, place_of}
use Rattle.records.specs.declared.access.Level.{Level}
use Rattle.rights.specs.Indirect.{code_of}
use Rattle.rights.specs.Mirror.Base.{indirect_step}
use Rattle.rights.specs.Mirror.BaseMasks.{base_mask, descriptor_left, limits_left, descriptor_place, removed}
use Rattle.rights.specs.Mirror.Masks.{stage2_mask, mask_with, range_with}
use Rattle.rights.specs.Mirror.Pass.{stage2_pass}
use Rattle.records.specs.declared.refusal.Refusal.{Refusal}
use Rattle.records.specs.declared.refusal.Refusal.TheVariants.{Unjudged}
use Rattle.rights.specs.declared.pass.table.BaseTable.{BaseTable}
use Rattle.rights.specs.Mirror.BaseMasks.{Mask}
use Rattle.rights.specs.declared.promise.RangeMask.{RangeMask}

-- under Indirect, the answer of the codes at place k of both PIRs, where w is the control word
abbrev pub pair_at : ℕ → ℕ → ℕ → ℕ → Mask
pair_at w p u k = base_mask (indirect_step (bit w 0) (code_of (nibble p k)) (code_of (nibble u k)))

-- the tables of a setup with control word w and PIRs p and u: under Indirect that answer, under Direct what AP[2:1], PXN and UXN leave and what limits leave
pub record TableOf (w p u : ℕ) (b : BaseTable) : Type 0 where
  pub codes : (k : ℕ) → k < 16 → (other : Mask) → get_or b.codes k other ≡ pair_at w p u k
  pub descriptor : (k : ℕ) → k < 16 → get_or b.descriptor k 0 ≡ descriptor_left (bit w 0) k
  pub limits : (k : ℕ) → k < 16 → get_or b.limits k 0 ≡ limits_left (bit w 0) (bit w 8) k

-- the same under Direct alone, whose tables the PIRs do not bear on
pub record DirectTableOf (w : ℕ) (b : BaseTable) : Type 0 where
  pub descriptor : (k : ℕ) → k < 16 → get_or b.descriptor k 0 ≡ descriptor_left (bit w 0) k
  pub limits : (k : ℕ) → k < 16 → get_or b.limits k 0 ≡ limits_left (bit w 0) (bit w 8) k

-- the same in the setup's mode: under Direct no codes are read
pub record ModeTableOf (w p u : ℕ) (b : BaseTable) : Type 0 where
  pub codes : bit w 3 ≡ true → (k : ℕ) → k < 16 → (other : Mask) → get_or b.codes k other ≡ pair_at w p u k
  pub direct : DirectTableOf w b

-- Direct rights of descriptor d and limits t by tables b; overlays apply at both levels
abbrev pub direct_by : BaseTable → ℕ → ℕ → ℕ → ℕ
direct_by b w d t =
    bit_or (removed (bit w 6) (bit w 7) (bit_and (get_or b.descriptor (descriptor_place d) 0) (get_or b.limits (t % 16) 0))) 192

-- stage 1 up to the overlay by tables b: a fault of every access is no rights, and dirty state is 7
unfoldable pub stage1_by : BaseTable → ℕ → ℕ → ℕ → Mask
stage1_by b w d t =
    cond (bit w 1)
    (cond (bit d 0 && bit d 10)
    (cond (bit w 3) (cond (bit d 7) (Err Unjudged) (entry_of (Err Unjudged) b.codes (pi_index d)))
    (cond (bit d 51) (Err Unjudged) (Ok (direct_by b w d t)))) (Ok 0)) (Ok 63)

-- what the planner asks of a level: its rights with slot 7 and with slot 0, where stage 1 gives x and stage 2 gives y
abbrev pub full_and_bare : Bool → ℕ → Mask → Mask → Level → Result RangeMask Refusal
full_and_bare on k x y l = range_with k (mask_with on x 7 y l) (mask_with on x 0 y l)

-- the same for control word w, whether that level's overlay is on, descriptors d and e and limits t by tables b
unfoldable pub range_by : ℕ → Bool → BaseTable → ℕ → ℕ → ℕ → Level → Result RangeMask Refusal
range_by w on b d e t l =
    full_and_bare on (place_of (po_index d)) (stage1_by b w d t) (stage2_mask (stage2_pass (bit w 2) (stage2_of e))) l
