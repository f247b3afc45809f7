-- Document 01, 'Memory type and shareability', last paragraph: SH is 0 none, 2 outer, 3 inner. With it refusal 9. Assumes nothing.
use Rattle.std.specs.Prelude.{ℕ, ◌%◌, Bool, cond, ◌&&◌, ◌||◌, eqb}
use Rattle.attributes.specs.Mair.{nibbles, is_device, stage1_byte}
use Rattle.attributes.specs.StageTwoType.{mem_attr_of, uncached_code}
use Rattle.attributes.specs.Combine.{result_byte}
use Rattle.records.specs.declared.descriptor.Stage1.{Stage1}
use Rattle.records.specs.declared.descriptor.Stage2.{Stage2}
use Rattle.records.specs.declared.setup.Setup.{Setup}

-- refusal 9: SH, which has two bits, is 01 in a stage that is on, whatever its memory type
unfoldable pub reserved_sh : Setup → Stage1 → Stage2 → Bool
reserved_sh s d e = s.control.stage1 && eqb (d.sh % 4) 1 || s.control.stage2 && eqb (e.sh % 4) 1

-- a byte is a Device or 44
abbrev pub uncached : ℕ → Bool
uncached b = is_device b || eqb b (nibbles 4 4)

-- a Device or 44 counts as 2
abbrev pub counted : Bool → ℕ → ℕ
counted u sh = cond u 2 sh

-- the stronger wins: outer, inner, none
abbrev pub stronger : ℕ → ℕ → ℕ
stronger x y = cond (eqb x 2 || eqb y 2) 2 (cond (eqb x 3 || eqb y 3) 3 0)

-- stage 1's SH where its byte is b: on, its descriptor's, a Device or 44 counted as 2 (house choice); off, with DC 0, else 2
unfoldable pub stage1_sh : Setup → Stage1 → ℕ → ℕ
stage1_sh s d b = cond s.control.stage1 (counted (uncached b) (d.sh % 4)) (cond s.control.dc 0 2)

-- stage 2's SH: its descriptor's, a Device or 44 counted as 2
unfoldable pub stage2_sh : Stage2 → ℕ
stage2_sh e = counted (uncached_code (mem_attr_of e)) (e.sh % 4)

-- the SH of a result byte r where stage 1's byte is b: with stage 2 off, stage 1's SH stands; a final Device or 44 is 2
unfoldable pub combined_sh : Setup → Stage1 → Stage2 → ℕ → ℕ → ℕ
combined_sh s d e b r =
    counted (uncached r) (cond s.control.stage2 (stronger (stage1_sh s d b) (stage2_sh e)) (stage1_sh s d b))

-- the answer's SH
unfoldable pub result_sh : Setup → Stage1 → Stage2 → Bool → ℕ
result_sh s d e fetch = combined_sh s d e (stage1_byte s d fetch) (result_byte s d e fetch)
