-- Document 01, 'Memory type and shareability', fourth to sixth paragraphs: stage 1's byte combined with stage 2's type, and the hints
-- that the result keeps. Assumes nothing.
use Rattle.std.specs.Prelude.{ℕ, Bool, cond, not, ◌&&◌, eqb, leb}
use Rattle.attributes.specs.Mair.{outer, inner, nibbles, device, is_device, non_cacheable, write_back, class_of, hints, cacheable_nibble, stage1_byte}
use Rattle.attributes.specs.StageTwoType.{mem_attr_of, device_code, outer_class, inner_class}
use Rattle.records.specs.declared.descriptor.Stage1.{Stage1}
use Rattle.records.specs.declared.descriptor.Stage2.{Stage2}
use Rattle.records.specs.declared.setup.Setup.{Setup}

-- any Device wins, and two Devices give the stricter (earlier): stage 1's byte b with stage 2's Device m
abbrev pub with_device : ℕ → ℕ → ℕ
with_device b m = cond (is_device b && leb b (device m)) b (device m)

-- the weaker of two classes
abbrev pub weaker : ℕ → ℕ → ℕ
weaker x y = cond (leb x y) x y

-- the nibble of a level that becomes class c, where stage 1 has nibble n of a Normal or a Device byte: a cacheable level keeps stage 1's
-- allocation and transient hints at that level; where stage 1 was not cacheable there, nibble 15
abbrev pub level_nibble : Bool → ℕ → ℕ → ℕ
level_nibble normal n c = cond (eqb c non_cacheable) 4 (cond (normal && not (eqb n 4)) (cacheable_nibble c (hints n)) 15)

-- the byte whose outer level has class o and whose inner level has class i, with stage 1's hints
abbrev pub normal_byte : ℕ → ℕ → ℕ → ℕ
normal_byte b o i = nibbles (level_nibble (not (is_device b)) (outer b) o) (level_nibble (not (is_device b)) (inner b) i)

-- FWB clear, no Device at stage 2. Any Device wins. Normal: per level, the weaker of the two
abbrev pub combine_clear : ℕ → ℕ → ℕ
combine_clear b m = cond (is_device b) b (normal_byte b (weaker (class_of (outer b)) (outer_class m)) (weaker (class_of (inner b)) (inner_class m)))

-- FWB set, no Device at stage 2. 5 keeps a stage 1 Device and makes Normal 44. 6 forces Write-Back at both levels, over Device too.
-- 7 keeps stage 1's type, both nibbles
abbrev pub combine_set : ℕ → ℕ → ℕ
combine_set b m = cond (eqb m 5) (cond (is_device b) b (nibbles 4 4)) (cond (eqb m 6) (normal_byte b write_back write_back) b)

-- stage 1's byte b combined with MemAttr m
unfoldable pub combine : Bool → ℕ → ℕ → ℕ
combine fwb b m = cond (device_code m) (with_device b m) (cond fwb (combine_set b m) (combine_clear b m))

-- the result where stage 1's byte is b and MemAttr is m: with stage 2 off, stage 1's byte stands
unfoldable pub result_of : Setup → ℕ → ℕ → ℕ
result_of s b m = cond s.control.stage2 (combine s.control.fwb b m) b

-- the answer's byte
unfoldable pub result_byte : Setup → Stage1 → Stage2 → Bool → ℕ
result_byte s d e fetch = result_of s (stage1_byte s d fetch) (mem_attr_of e)
