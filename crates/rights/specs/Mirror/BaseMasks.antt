-- Rights as bits of a number, and the tables of the planner's pass. Nothing here needs to be believed: the laws of proofs/BaseMasks say that
-- they give what `direct_of` and `indirect_step` give. Assumes nothing.
use Rattle.std.specs.Prelude.{ℕ, ◌+◌, ◌*◌, ◌/◌, ◌%◌, ◌^◌, List, [], ◌∷◌, Bool, cond, not, ◌&&◌, ◌||◌, leb, get_or, Result, Ok, Err}
use Rattle.std.specs.Int.Bits.{bit_and, bit_or}
use Rattle.records.specs.Access.{digit, six_mask}
use Rattle.records.specs.Bits.{bit}
use Rattle.rights.specs.Mirror.Base.{BaseAnswer}
use Rattle.records.specs.declared.refusal.Refusal.{Refusal}
use Rattle.records.specs.declared.refusal.Refusal.TheVariants.{ReservedCode, Unjudged}

-- rights as bits, or a refusal
abbrev pub Mask : Type 0
Mask = Result ℕ Refusal

-- base rights in bits 0 to 5, whether overlays apply at the privileged and the unprivileged level in bits 6 and 7
abbrev pub base_mask : BaseAnswer → Mask
base_mask (Ok b) = Ok (six_mask b.rights + 64 * digit b.overlay.privileged + 128 * digit b.overlay.unprivileged)
base_mask (Err n) = Err n

-- a mask where a step removes rights, all six where it does not
abbrev pub keep : Bool → ℕ → ℕ
keep removes m = cond removes m 63

-- the rights that AP[2:1], PXN and UXN leave, by AP[1], AP[2], PXN, UXN
abbrev pub descriptor_table : List ℕ
descriptor_table = 39 ∷ 63 ∷ 37 ∷ 45 ∷ 35 ∷ 59 ∷ 33 ∷ 41 ∷ 7 ∷ 31 ∷ 5 ∷ 13 ∷ 3 ∷ 27 ∷ 1 ∷ 9 ∷ []

-- the rights that APTable, PXNTable and UXNTable leave, by the limits
abbrev pub limits_table : List ℕ
limits_table = 63 ∷ 39 ∷ 45 ∷ 37 ∷ 59 ∷ 35 ∷ 41 ∷ 33 ∷ 31 ∷ 7 ∷ 13 ∷ 5 ∷ 27 ∷ 3 ∷ 9 ∷ 1 ∷ []

-- the entry of a table of sixteen that counts: with one level AP[1], PXN and their limits are ignored, and XN stands where PXN does with two
abbrev pub level_place : Bool → ℕ → ℕ
level_place two k = cond two (k % 16) (k / 2 ^ 1 % 2 * 2 + k / 2 ^ 3 % 2 * 4)

-- with one level no unprivileged right is left
abbrev pub level_part : Bool → ℕ → ℕ
level_part two m = cond two m (m % 8)

-- what AP[1], AP[2], PXN and UXN leave, which are bits 0 to 3 of k
abbrev pub descriptor_left : Bool → ℕ → ℕ
descriptor_left two k = level_part two (get_or descriptor_table (level_place two k) 0)

-- what limits k leave
abbrev pub limits_left : Bool → Bool → ℕ → ℕ
limits_left two unlimited k = level_part two (keep (not unlimited) (get_or limits_table (level_place two k) 0))

-- AP[1], AP[2], PXN and UXN of descriptor d as bits 0 to 3
abbrev pub descriptor_place : ℕ → ℕ
descriptor_place d = d / 2 ^ 6 % 4 + d / 2 ^ 53 % 4 * 4

-- unprivileged write takes px away; WXN takes px where pw holds and ux where uw holds; PAN takes pr and pw where ur or uw holds
abbrev pub removed : Bool → Bool → ℕ → ℕ
removed wxn pan m =
    bit_and (bit_and (bit_and m (keep (bit m 4 || wxn && bit m 1) 59)) (keep (wxn && bit m 4) 31)) (keep (pan && (bit m 3 || bit m 4)) 60)

-- the sixteen base codes as bits: 0 R, 1 W, 2 X, 3 overlays apply, 4 reserved, 5 not judged
abbrev pub codes : List ℕ
codes = 8 ∷ 9 ∷ 12 ∷ 13 ∷ 24 ∷ 11 ∷ 40 ∷ 15 ∷ 1 ∷ 1 ∷ 5 ∷ 16 ∷ 3 ∷ 16 ∷ 7 ∷ 16 ∷ []

-- the bits of the unprivileged code; with one level its rights are off and it is not refused
abbrev pub upper_bits : Bool → ℕ → ℕ
upper_bits two u = cond two u (bit_and u 8)

-- the answer of two codes' bits
abbrev pub pair_mask : ℕ → ℕ → Mask
pair_mask p u =
    cond (leb 16 (bit_or p u)) (cond (bit p 4 || bit u 4) (Err ReservedCode) (Err Unjudged))
    (cond (bit p 2 && bit u 1) (Err Unjudged) (Ok (p % 8 + u % 8 * 8 + p / 2 ^ 3 % 2 * 64 + u / 2 ^ 3 % 2 * 128)))
