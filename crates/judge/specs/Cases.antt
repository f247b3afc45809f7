-- Document 01, 'Numbers to check against': the starred cases a to l, as one table, with the causes of request A1. Control 7 unless said, MAIR
-- 4FAA0444FF00, limits 0. Assumes nothing.
use Rattle.std.specs.Prelude.{ℕ, zero, suc, ◌/◌, ◌%◌, List, [], ◌∷◌, ◌++◌, replicate, Ok, Err}
use Rattle.rights.specs.declared.answers.Kind.{Kind}
use Rattle.rights.specs.declared.answers.Kind.TheVariants.{Translation, AccessFlag, Permission}
use Rattle.rights.specs.declared.answers.Stop.TheVariants.{Faulted}
use Rattle.judge.specs.Answers.{Judgement}
use Rattle.rights.specs.declared.answers.Stage.TheVariants.{One, Two}
use Rattle.rights.specs.declared.answers.Stage.{Stage}

-- the k little-endian bytes of a number
abbrev pub bytes_of : ℕ → ℕ → List ℕ
bytes_of zero x = []
bytes_of (suc k) x = x % 256 ∷ bytes_of k (x / 256)

-- a setup of control word and MAIR, its other registers 0
abbrev pub setup_bytes : ℕ → ℕ → List ℕ
setup_bytes control mair = bytes_of 4 control ++ (bytes_of 8 mair ++ replicate 40 0)

-- a leaf that forbids nothing
abbrev pub leaf_bytes : ℕ → ℕ → ℕ → List ℕ
leaf_bytes one two limits = bytes_of 8 one ++ (bytes_of 8 two ++ (limits ∷ 0 ∷ []))

-- a row; its last column is the leaf's rights where the paper has them
pub record Case : Type 0 where
  pub control : ℕ
  pub limits : ℕ
  pub stage1 : ℕ
  pub stage2 : ℕ
  pub access : ℕ
  pub answer : Judgement
  pub rights : List ℕ

abbrev pub row : ℕ → ℕ → ℕ → ℕ → ℕ → Judgement → List ℕ → Case
row c t one two n j r = record { control = c; limits = t; stage1 = one; stage2 = two; access = n; answer = j; rights = r }

abbrev pub allowed : ℕ → ℕ → Judgement
allowed b sh = Ok (record { byte = b; sh = sh })

-- a fault with the cause that request A1 gives it
abbrev pub fault : Stage → Kind → ℕ → Judgement
fault s k c = Err (Faulted (record { stage = s; kind = k; cause = c }))

-- control 7, and with FWB
abbrev pub plain : ℕ
plain = 0x7

abbrev pub fwb : ℕ
fwb = 0x207

-- a to l
abbrev pub starred : List Case
starred =
    row plain 0 0x747 0x7FF 4 (allowed 0xFF 3) (59 ∷ []) ∷
    row plain 0 0x747 0x7FF 2 (fault One Permission 5) [] ∷
    row plain 2 0x747 0x7FF 2 (allowed 0xFF 3) (45 ∷ []) ∷
    row plain 0 0x747 0x77F 4 (fault Two Permission 9) [] ∷
    row plain 2 0x747 0x77F 4 (fault One Permission 2) [] ∷
    row plain 0 0x346 0x7FF 0 (fault One Translation 11) [] ∷
    row plain 0 0x347 0x7FF 0 (fault One AccessFlag 12) [] ∷
    row plain 0 0x747 0x7D7 0 (allowed 0x44 2) [] ∷
    row plain 0 0x74F 0x7CF 0 (allowed 0x04 2) [] ∷
    row fwb 0 0x753 0x7DB 0 (allowed 0xEE 3) [] ∷
    row fwb 0 0x757 0x7DF 0 (allowed 0x4F 3) [] ∷
    row fwb 0 0x74F 0x7DB 0 (allowed 0xFF 2) [] ∷ []

abbrev pub mair : ℕ
mair = 0x4FAA0444FF00
