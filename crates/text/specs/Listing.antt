-- Document 01, 'File, program, host': the lines that the program prints for a file. Assumes nothing.
use Rattle.std.specs.Prelude.{ℕ, zero, suc, cond, List, [], ◌++◌, ltb, length, get_or, replicate, Ok, Err}
use Rattle.records.specs.MapFile.{Leaves, leaves, ill_formed, value, file_of}
use Rattle.records.specs.Bytes.{over}
use Rattle.records.specs.Leaf.{leaf_at}
use Rattle.judge.specs.List.{ListResult, list_of}
use Rattle.planner.specs.Plan.{plan_of}
use Rattle.text.specs.Lines.{last_number, refusal_line, leaf_line, register_line, ascii}
use Rattle.records.specs.Values.{refusal_number}
use Rattle.judge.specs.Answers.{Listed}
use Rattle.planner.specs.Plan.{Plan}

-- the line of leaf i, whose rights the list wrote
abbrev pub line_at : List ℕ → List ℕ → ℕ → List ℕ
line_at rs ls i = leaf_line i (get_or rs i 0) (leaf_at ls i).forbidden

-- m lines from leaf i on
unfoldable pub lines_from : (ℕ → List ℕ) → ℕ → ℕ → List ℕ
lines_from f zero i = []
lines_from f (suc m) i = f i ++ lines_from f m (suc i)

-- a level's register as 16 hex digits, or its refusal
abbrev pub plan_line : Plan → List ℕ
plan_line (Ok r) = register_line r
plan_line (Err r) = refusal_line (refusal_number r.refusal) r.leaf

-- each level's register or refusal, for a setup and leaves
unfoldable pub plan_lines : List ℕ → List ℕ → List ℕ
plan_lines b ls =
    ascii "privileged " ++ (plan_line (plan_of b 0 ls) ++ (ascii "unprivileged " ++ plan_line (plan_of b 1 ls)))

-- the leaf count, a line for each leaf, then each level's register: for a setup, n leaves and the rights that were written
unfoldable pub map_lines : List ℕ → List ℕ → ℕ → List ℕ → List ℕ
map_lines b ls n rs = last_number (ascii "leaves ") n ++ (lines_from (line_at rs ls) n 0 ++ plan_lines b ls)

-- a refusal of the list prints one line instead
abbrev pub list_lines : List ℕ → List ℕ → ℕ → Listed → List ℕ → List ℕ
list_lines b ls n (Ok m) rs = map_lines b ls n rs
list_lines b ls n (Err r) rs = refusal_line (refusal_number r.refusal) r.leaf

-- the list, for which buffers of zeros are lent, 2,048 for the rights and six times as many for the causes, which no line shows
abbrev pub listed : List ℕ → List ℕ → ListResult
listed b ls = list_of b ls (replicate 2048 0) (replicate 12288 0)

unfoldable pub map_text : List ℕ → List ℕ → ℕ → List ℕ
map_text b ls n = list_lines b ls n (listed b ls).answer (listed b ls).out

-- a file refusal prints `refused 13`; else the setup is the first field, and the count that of the leaf fields
abbrev pub file_text : List ℕ → Leaves → List ℕ
file_text s ill_formed = refusal_line 13 0
file_text s (leaves n ls) = map_text (value 52 s) ls n

unfoldable pub text_of : List ℕ → List ℕ
text_of s = file_text s (file_of s)

-- what writing the text of file s to a lent buffer o answers, the number of bytes written, and what the buffer holds then: with fewer than
-- 36,864 bytes, which every text fits in, 0 and no byte changed
pub record Written : Type 0 where
  pub count : ℕ
  pub out : List ℕ

unfoldable pub written : List ℕ → List ℕ → Written
written s o =
    cond (ltb (length o) 36864) (record { count = 0; out = o }) (record { count = length (text_of s); out = over (text_of s) o })
