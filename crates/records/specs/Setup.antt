-- Document 01, 'Setup and leaf records', first paragraph: a setup of 52 bytes. Assumes nothing.
use Rattle.std.specs.Prelude.{ℕ, ◌*◌, ◌%◌, ◌^◌, List, cond, eqb, leb, length, Result, Ok, Err}
use Rattle.records.specs.Bits.{bit, field}
use Rattle.records.specs.Bytes.{le32, le64}
use Rattle.records.specs.declared.access.Level.{Level}
use Rattle.records.specs.declared.access.Level.TheVariants.{Privileged, Unprivileged}
use Rattle.records.specs.declared.refusal.Refusal.{Refusal}
use Rattle.records.specs.declared.refusal.Refusal.TheVariants.{IllFormed}
use Rattle.records.specs.declared.setup.Control.{Control}
use Rattle.records.specs.declared.setup.PerLevel.{PerLevel}
use Rattle.records.specs.declared.setup.Setup.{Setup}
use Rattle.records.specs.declared.setup.Words.{Words}

-- 52 bytes: the control word, then MAIR, MAIR2, PIR privileged and unprivileged, POR privileged and unprivileged
unfoldable pub words_of : List ℕ → Words
words_of s = record {
  control = le32 s 0;
  mair = le64 s 4;
  mair2 = le64 s 12;
  pir = record { privileged = le64 s 20; unprivileged = le64 s 28 };
  por = record { privileged = le64 s 36; unprivileged = le64 s 44 };
}

-- the control bits of a control word by name; `above`: a bit above 12 is set
unfoldable pub control_of : ℕ → Control
control_of w = record {
  two = bit w 0;
  stage1 = bit w 1;
  stage2 = bit w 2;
  indirect = bit w 3;
  overlay = record { privileged = bit w 4; unprivileged = bit w 5 };
  wxn = bit w 6;
  pan = bit w 7;
  unlimited = bit w 8;
  fwb = bit w 9;
  dc = bit w 10;
  icacheable = bit w 11;
  aie = bit w 12;
  above = leb (2 ^ 13) w;
}

-- the setup of these words: the control bits by name, and the registers
unfoldable pub setup_from : Words → Setup
setup_from w = record { control = control_of w.control; mair = w.mair; mair2 = w.mair2; pir = w.pir; por = w.por }

-- the setup of 52 bytes
unfoldable pub setup_of : List ℕ → Setup
setup_of s = setup_from (words_of s)

-- refusal 13 for a setup: it is not 52 bytes long; for its words, and for the setup
unfoldable pub read_words : List ℕ → Result Words Refusal
read_words s = cond (eqb (length s) 52) (Ok (words_of s)) (Err IllFormed)

unfoldable pub read_setup : List ℕ → Result Setup Refusal
read_setup s = cond (eqb (length s) 52) (Ok (setup_of s)) (Err IllFormed)

-- that of a level: its bit, its register
abbrev pub of_level : {A : Type 0} → PerLevel A → Level → A
of_level r Privileged = r.privileged
of_level r Unprivileged = r.unprivileged

-- the byte at AttrIndx[2:0] of MAIR or MAIR2, which have eight
abbrev pub byte_in : ℕ → ℕ → ℕ
byte_in mair i = field mair (8 * (i % 8)) 8
