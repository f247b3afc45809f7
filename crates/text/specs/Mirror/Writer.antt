-- What a writer into a lent buffer holds. Nothing here needs to be believed: the law `whole` of proofs/WriterLaws ties it to the buffer's bytes, of
-- which the public contract speaks. Assumes nothing.
use Rattle.std.specs.Prelude.{ℕ, ◌≡◌, List, ◌++◌, length, take, drop, min}
use Rattle.text.specs.declared.writer.Writer.{Writer}

-- the buffer o with the text t at its start, as much of it as fits
abbrev pub kept : List ℕ → List ℕ → List ℕ
kept t o = take (length o) t ++ drop (length t) o

-- p was made of the buffer o, and the text t was written
pub record Holds (o t : List ℕ) (p : Writer) : Type 0 where
  pub out : p.out.now ≡ kept t o
  pub len : p.len ≡ min (length t) (length o)

-- q is p after the text w was written: the same lent buffer, and w after whatever p holds
pub record Adds (p : Writer) (w : List ℕ) (q : Writer) : Type 0 where
  pub same : q.out.ghost_name ≡ p.out.ghost_name
  pub text : (o t : List ℕ) → Holds o t p → Holds o (t ++ w) q
