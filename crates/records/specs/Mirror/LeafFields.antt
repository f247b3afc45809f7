-- What `leaf_fields` and `deliver` answer: private to the layer. Nothing here needs to be believed: the laws `read-ill` and `read_whole` of
-- proofs/LeafFields tie it to `read_file`. Assumes nothing.
use Rattle.std.specs.Prelude.{ℕ, ◌*◌, List, take, Option, Some, None}
use Rattle.records.specs.MapFile.{Leaves, leaves, ill_formed, FileResult, result_of}

-- the leaf fields that an answer and the buffer's contents stand for
abbrev pub leaves_in : Option ℕ → List ℕ → Leaves
leaves_in (Some n) v = leaves n (take (n * 18) v)
leaves_in None v = ill_formed

-- what reading a file gives whose n leaves the buffer's contents v begin with
unfoldable pub delivered : List ℕ → ℕ → List ℕ → FileResult
delivered v n b = result_of (leaves n (take (n * 18) v)) b
