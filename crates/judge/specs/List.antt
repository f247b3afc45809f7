-- Document 01, 'A list checks 1, 2, 3, 11, then its leaves in order, and writes one rights byte per leaf; later output bytes keep their
-- values'; and request A1: 'six bytes per leaf in access order in a second lent buffer (11 if short)'. Assumes nothing.
use Rattle.std.specs.Prelude.{ℕ, zero, suc, ◌*◌, ◌/◌, ◌%◌, List, [], ◌∷◌, Bool, not, ◌&&◌, leb, length, Result, Ok, Err}
use Rattle.records.specs.Bytes.{over}
use Rattle.records.specs.Leaf.{leaf_at, leaf_count, whole_leaves}
use Rattle.records.specs.Setup.{read_setup}
use Rattle.records.specs.Values.{check_if, check_then, if_passes}
use Rattle.records.specs.declared.leaf.Leaf.{Leaf}
use Rattle.records.specs.declared.setup.Control.{Control}
use Rattle.records.specs.declared.setup.Setup.{Setup}
use Rattle.rights.specs.Checks.{setup_check}
use Rattle.judge.specs.Answers.{judgement_values}
use Rattle.judge.specs.Judge.{judged}
use Rattle.judge.specs.LeafRights.{leaf_rights}
use Rattle.records.specs.declared.refusal.Refusal.{Refusal}
use Rattle.records.specs.declared.refusal.Refusal.TheVariants.{ListLength}
use Rattle.records.specs.Values.{on_leaf}
use Rattle.judge.specs.Answers.{LeafRights}
use Rattle.judge.specs.Answers.{Listed}
use Rattle.records.specs.Values.{Check}

-- the rights bytes of leaves, or the first refusal with its leaf's index
pub data Walk : Type 0 where
  bytes : List ℕ → Walk
  refused : Refusal → ℕ → Walk

-- leaf i before the later ones
abbrev pub step : LeafRights → ℕ → Walk → Walk
step (Ok b) i (bytes more) = bytes (b ∷ more)
step (Ok b) i (refused n k) = refused n k
step (Err n) i w = refused n i

-- m leaves from leaf i on, in order
abbrev pub walk : (ℕ → LeafRights) → ℕ → ℕ → Walk
walk f i zero = bytes []
walk f i (suc m) = step (f i) i (walk f (suc i) m)

-- the cause of the judge's own answer to access a: 0 where it allows or refuses, so too for the accesses that one level does not judge
unfoldable pub cause_at : Setup → Leaf → ℕ → ℕ
cause_at s f a = (judgement_values (judged s f a)).cause

-- m bytes of causes from byte k on: byte k is that of access k % 6 of leaf k / 6
abbrev pub causes_from : Setup → List ℕ → ℕ → ℕ → List ℕ
causes_from s ls k zero = []
causes_from s ls k (suc m) = cause_at s (leaf_at ls (k / 6)) (k % 6) ∷ causes_from s ls (suc k) m

-- the causes of all leaves
abbrev pub causes_of : Setup → List ℕ → List ℕ
causes_of s ls = causes_from s ls 0 (6 * leaf_count ls)

-- the answer, and what the lent buffers hold afterwards: the output and the causes
pub record ListResult : Type 0 where
  pub answer : Listed
  pub out : List ℕ
  pub causes : List ℕ

-- a refusal changes no lent byte
abbrev pub refuse : Refusal → ℕ → List ℕ → List ℕ → ListResult
refuse n i o c = record { answer = Err (on_leaf n i); out = o; causes = c }

-- rights and causes of n leaves
abbrev pub finish : Walk → List ℕ → ℕ → List ℕ → List ℕ → ListResult
finish (bytes b) x n o c = record { answer = Ok n; out = over b o; causes = over x c }
finish (refused k i) x n o c = refuse k i o c

-- 11: list not a multiple of 18 bytes, over 2,048 leaves, or output shorter than the leaf count; or causes shorter than six times the leaf count
abbrev pub fits : ℕ → ℕ → ℕ → Bool
fits len room causes = whole_leaves len && (leb (len / 18) room && leb (6 * (len / 18)) causes)

-- 1, 2, 3, then 11, for a list of `len` bytes, an output of `room` bytes and a buffer of `causes` bytes
unfoldable pub list_check : Control → ℕ → ℕ → ℕ → Check
list_check c len room causes = check_then (setup_check c) (check_if (not (fits len room causes)) ListLength)

-- the leaves in order
unfoldable pub leaves_of : Setup → List ℕ → List ℕ → List ℕ → ListResult
leaves_of s ls o c = finish (walk (λ (i : ℕ). leaf_rights s (leaf_at ls i)) 0 (leaf_count ls)) (causes_of s ls) (leaf_count ls) o c

-- 13 before all else, then 1, 2, 3, 11, then the leaves; a refusal before the leaves has leaf 0
abbrev pub list_read : (Result Setup Refusal) → List ℕ → List ℕ → List ℕ → ListResult
list_read (Ok s) ls o c =
    if_passes (list_check s.control (length ls) (length o) (length c)) (λ (n : Refusal). refuse n 0 o c) (leaves_of s ls o c)
list_read (Err k) ls o c = refuse k 0 o c

unfoldable pub list_of : List ℕ → List ℕ → List ℕ → List ℕ → ListResult
list_of s ls o c = list_read (read_setup s) ls o c
