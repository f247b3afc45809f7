-- How the values of an answer to the loader are packed into 64 bits, and read from them. docs/INTERFACE.md has the same bit by bit. The number of a
-- refusal, 0 if there is none, is in bits 7:0 of every answer. A value that is not packed is read as 0. Assumes nothing.
use Rattle.std.specs.Prelude.{ℕ, ◌+◌, ◌*◌, ◌^◌}
use Rattle.records.specs.Bits.{field}
use Rattle.records.specs.Values.{Values}

-- The judge: stage in bits 15:8, kind in 23:16, byte in 31:24, SH in 39:32, cause in 47:40. Bits 48 and 49 are kept for the tagged and XS marks: they are
-- 0, as all above them are
abbrev pub pack_judgement : Values → ℕ
pack_judgement v = v.number + 2 ^ 8 * v.stage + 2 ^ 16 * v.kind + 2 ^ 24 * v.byte + 2 ^ 32 * v.sh + 2 ^ 40 * v.cause

abbrev pub judgement_fields : ℕ → Values
judgement_fields w = record {
  number = field w 0 8;
  leaf = 0;
  stage = field w 8 8;
  kind = field w 16 8;
  cause = field w 40 8;
  byte = field w 24 8;
  sh = field w 32 8;
  rights = 0;
  count = 0;
  register = 0;
}

-- The list and the planner: a leaf's index in bits 31:16, and a value in 63:32
abbrev pub pack_numbers : ℕ → ℕ → ℕ → ℕ
pack_numbers number leaf value = number + 2 ^ 16 * leaf + 2 ^ 32 * value

-- the list's value is the number of leaves whose rights and causes were written
abbrev pub pack_list : Values → ℕ
pack_list v = pack_numbers v.number v.leaf v.count

abbrev pub list_fields : ℕ → Values
list_fields w = record {
  number = field w 0 8;
  leaf = field w 16 16;
  stage = 0;
  kind = 0;
  cause = 0;
  byte = 0;
  sh = 0;
  rights = 0;
  count = field w 32 32;
  register = 0;
}

-- the planner's is the register (slots 8 to 15 of a usable register are 0)
abbrev pub pack_plan : Values → ℕ
pack_plan v = pack_numbers v.number v.leaf v.register

abbrev pub plan_fields : ℕ → Values
plan_fields w = record {
  number = field w 0 8;
  leaf = field w 16 16;
  stage = 0;
  kind = 0;
  cause = 0;
  byte = 0;
  sh = 0;
  rights = 0;
  count = 0;
  register = field w 32 32;
}
