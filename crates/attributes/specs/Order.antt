-- Document 01, 'The order a judgement is made in', its last steps: 8 at stage 1, 8 at stage 2, 9; the first that applies is the answer.
-- Then the byte and SH. Assumes nothing.
use Rattle.std.specs.Prelude.{Bool, Ok, Err, Result}
use Rattle.records.specs.Values.{check_if, check_then}
use Rattle.records.specs.declared.descriptor.Stage1.{Stage1}
use Rattle.records.specs.declared.descriptor.Stage2.{Stage2}
use Rattle.records.specs.declared.setup.Setup.{Setup}
use Rattle.attributes.specs.Mair.{reserved_byte}
use Rattle.attributes.specs.StageTwoType.{reserved_mem_attr}
use Rattle.attributes.specs.Combine.{result_byte}
use Rattle.attributes.specs.Shareability.{reserved_sh, result_sh}
use Rattle.attributes.specs.declared.Memory.{Memory}
use Rattle.records.specs.declared.refusal.Refusal.TheVariants.{MemoryCode, ReservedSh}
use Rattle.records.specs.Values.{Check}
use Rattle.records.specs.declared.refusal.Refusal.{Refusal}

-- 8 at stage 1, 8 at stage 2, 9: the refusal is the same for data and fetches
unfoldable pub check_of : Setup → Stage1 → Stage2 → Check
check_of s d e = check_then (check_if (reserved_byte s d) MemoryCode) (check_then (check_if (reserved_mem_attr s e) MemoryCode) (check_if (reserved_sh s d e) ReservedSh))

-- the byte and SH of an access that none of these refuses; an allowed fetch reports the type as it stands, Device included
unfoldable pub memory_of : Setup → Stage1 → Stage2 → Bool → Memory
memory_of s d e fetch = record { byte = result_byte s d e fetch; sh = result_sh s d e fetch }

-- a byte and SH where a check passes, else its refusal
abbrev pub combined_if : Check → Memory → Result Memory Refusal
combined_if (Ok u) m = Ok m
combined_if (Err n) m = Err n

-- the attribute steps of an access, where `fetch` is whether it executes
unfoldable pub attributes_of : Setup → Stage1 → Stage2 → Bool → Result Memory Refusal
attributes_of s d e fetch = combined_if (check_of s d e) (memory_of s d e fetch)
