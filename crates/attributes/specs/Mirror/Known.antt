-- Nothing here needs to be believed: `known-law` of proofs/KnownLaws ties it to `check_of`. Tables that a setup decides once, by which it is
-- known of each leaf whether 8, 8 or 9 refuses it. Assumes nothing.
use Rattle.std.specs.Prelude.{ℕ, ◌/◌, ◌<◌, ◌≡◌, Bool, true, false, not, ◌&&◌, List, [], ◌∷◌, eqb, get_or, Ok, Err}
use Rattle.records.specs.Descriptor.{sh, mem_attr}
use Rattle.records.specs.Mirror.Fields.{attr_indx_of}
use Rattle.records.specs.declared.setup.Control.{Control}
use Rattle.attributes.specs.declared.known.Refused.{Refused}
use Rattle.attributes.specs.Mair.{valid_byte, picked_byte}
use Rattle.attributes.specs.StageTwoType.{reserved_code}
use Rattle.records.specs.Values.{Check}

-- 8 at stage 1 for AttrIndx k, 0 to 15: AttrIndx[3] is set from 8 on
abbrev pub bad_byte : Control → ℕ → ℕ → ℕ → Bool
bad_byte c mair mair2 k = c.stage1 && not (valid_byte (picked_byte c.aie mair mair2 k (eqb (k / 8) 1)))

-- 8 at stage 2 for MemAttr k
abbrev pub bad_code : Control → ℕ → Bool
bad_code c k = c.stage2 && reserved_code c.fwb k

-- 9 by SH, 0 to 3, of a stage that is on or off
abbrev pub bad_sh : Bool → List Bool
bad_sh on = false ∷ on ∷ false ∷ false ∷ []

-- the tables: of stage 1 by AttrIndx, of stage 2 by MemAttr, and of each by its SH
abbrev pub IsRefused : Control → ℕ → ℕ → Refused → Type 0
IsRefused c mair mair2 t =
    ((k : ℕ) → k < 16 → get_or t.stage1.kind k false ≡ bad_byte c mair mair2 k) × ((k : ℕ) → k < 16 → get_or t.stage2.kind k false ≡ bad_code c k)
    × (t.stage1.sh ≡ bad_sh c.stage1) × (t.stage2.sh ≡ bad_sh c.stage2)

-- a field of a stage is known by its table
abbrev pub passes_at : List Bool → ℕ → Bool
passes_at t k = not (get_or t k false)

-- by tables t the attribute steps refuse nothing
unfoldable pub known_with : Refused → ℕ → ℕ → Bool
known_with t d e =
    passes_at t.stage1.kind (attr_indx_of d) && passes_at t.stage2.kind (mem_attr e) && passes_at t.stage1.sh (sh d) && passes_at t.stage2.sh (sh e)

-- a check refuses nothing
abbrev pub passes : Check → Bool
passes (Ok u) = true
passes (Err n) = false
