-- Document 01, 'File, program, host': a file is fields, a one-byte tag, a two-byte length and a value; first exactly one tag 1
-- (52 bytes), then 0 to 2,048 of tag 2 (18 bytes), and all else gives 13. Assumes nothing.
use Rattle.std.specs.Prelude.{ℕ, zero, suc, ◌+◌, List, [], ◌∷◌, ◌++◌, Bool, cond, ◌&&◌, eqb, leb, length, take, drop, Result, Ok, Err}
use Rattle.records.specs.Bytes.{byte_at, le16, over}
use Rattle.records.specs.Values.{Values, refusal, refusal_number, with_count}
use Rattle.records.specs.declared.refusal.Refusal.{Refusal}
use Rattle.records.specs.declared.refusal.Refusal.TheVariants.{ListLength, IllFormed}

-- whether s begins with a whole field of this tag and this length
unfoldable pub begins_with : ℕ → ℕ → List ℕ → Bool
begins_with tag len s = leb (len + 3) (length s) && (eqb (byte_at s 0) tag && eqb (le16 s 1) len)

-- the value of a field of this length that s begins with, and what follows the field
abbrev pub value : ℕ → List ℕ → List ℕ
value len s = take len (drop 3 s)

abbrev pub rest : ℕ → List ℕ → List ℕ
rest len s = drop (len + 3) s

-- how many leaf fields there are, with their values one after the other; or that something else is there
pub data Leaves : Type 0 where
  leaves : ℕ → List ℕ → Leaves
  ill_formed : Leaves

-- n leaf fields with the values b, before others
abbrev pub prepend : ℕ → List ℕ → Leaves → Leaves
prepend n b (leaves m c) = leaves (n + m) (b ++ c)
prepend n b ill_formed = ill_formed

-- at most m fields of tag 2 and 18 bytes, and nothing after them
unfoldable pub leaves_of : ℕ → List ℕ → Leaves
leaves_of zero [] = leaves 0 []
leaves_of zero (x ∷ s) = ill_formed
leaves_of (suc m) [] = leaves 0 []
leaves_of (suc m) (x ∷ s) =
    cond (begins_with 2 18 (x ∷ s)) (prepend 1 (value 18 (x ∷ s)) (leaves_of m (rest 18 (x ∷ s)))) ill_formed

-- the leaf fields of a file whose first field is a setup of 52 bytes
unfoldable pub file_of : List ℕ → Leaves
file_of s = cond (begins_with 1 52 s) (leaves_of 2048 (rest 52 s)) ill_formed

-- the setup's bytes in a file that is read as a map: the place of the first field's value, and nothing where s is too short for it
unfoldable pub setup_in : List ℕ → List ℕ
setup_in s = cond (leb 55 (length s)) (value 52 s) []

-- What reading the file s gives, where a buffer that holds b is lent for the leaves' bytes: the answer, and what the buffer holds
-- afterwards. A buffer too short gives 11, as a list's output does. A refusal changes no lent byte.
pub record FileResult : Type 0 where
  pub answer : Result ℕ Refusal
  pub leaves : List ℕ

-- the paper's number and values of the answer
abbrev pub file_values : Result ℕ Refusal → Values
file_values (Ok n) = with_count n
file_values (Err r) = refusal (refusal_number r) 0

abbrev pub refuse : Refusal → List ℕ → FileResult
refuse r b = record { answer = Err r; leaves = b }

abbrev pub result_of : Leaves → List ℕ → FileResult
result_of ill_formed b = refuse IllFormed b
result_of (leaves n ls) b = cond (leb (length ls) (length b)) (record { answer = Ok n; leaves = over ls b }) (refuse ListLength b)

unfoldable pub read_file : List ℕ → List ℕ → FileResult
read_file s b = result_of (file_of s) b
