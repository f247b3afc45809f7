-- Document 01, 'Stage 1 rights', **Indirect**: limits, AP, PXN and UXN play no part. Assumes nothing.
use Rattle.std.specs.Prelude.{ℕ, ◌%◌, List, [], ◌∷◌, Bool, true, false, ◌&&◌, ◌||◌, ltb, get_or}
use Rattle.records.specs.Access.{six}
use Rattle.records.specs.Descriptor.{code_at}
use Rattle.records.specs.declared.access.Rights.{Rights}
use Rattle.records.specs.declared.descriptor.index.PIIndex.{PIIndex}
use Rattle.records.specs.declared.setup.PerLevel.{PerLevel}
use Rattle.rights.specs.declared.indirect.Code.{Code}

-- what a code says: a form that is not judged, reserved, or the rights R, W and X that it grants
pub data Meaning : Type 0 where
  grants : Bool → Bool → Bool → Meaning
  reserved : Meaning
  unjudged : Meaning

abbrev none : Meaning
none = grants false false false

abbrev R : Meaning
R = grants true false false

abbrev X : Meaning
X = grants false false true

abbrev RX : Meaning
RX = grants true false true

abbrev RW : Meaning
RW = grants true true false

abbrev RWX : Meaning
RWX = grants true true true

-- 0 none, 1 R, 2 X, 3 RX, 5 RW, 7 RWX, 8 R, 9 R (its GCS right is not covered), 10 RX, 12 RW, 14 RWX; 4, 11, 13 and 15 are reserved;
-- 6 is not judged yet
abbrev pub meanings : List Meaning
meanings =
    none ∷ R ∷ X ∷ RX ∷ reserved ∷ RW ∷ unjudged ∷ RWX ∷
    R ∷ R ∷ RX ∷ reserved ∷ RW ∷ reserved ∷ RWX ∷ reserved ∷ []

-- a meaning and whether overlays apply, as the code's fields
abbrev pub fields : Meaning → Bool → Code
fields (grants r w x) o = record { read = r; write = w; execute = x; overlay = o; reserved = false; unjudged = false }
fields reserved o = record { read = false; write = false; execute = false; overlay = o; reserved = true; unjudged = false }
fields unjudged o = record { read = false; write = false; execute = false; overlay = o; reserved = false; unjudged = true }

-- the base code n; overlays apply to codes 0 to 7, never to 8 and above
unfoldable pub code_of : ℕ → Code
code_of n = fields (get_or meanings (n % 16) reserved) (ltb (n % 16) 8)

-- the codes at PIIndex in PIR privileged and in PIR unprivileged
unfoldable pub codes_at : PerLevel ℕ → PIIndex → PerLevel Code
codes_at pir i = record { privileged = code_of (code_at pir.privileged i); unprivileged = code_of (code_at pir.unprivileged i) }

-- 6: a reserved code at either level. With one level the unprivileged code is not read, here and below
abbrev pub reserved_code : Bool → PerLevel Code → Bool
reserved_code two k = k.privileged.reserved || two && k.unprivileged.reserved

-- 7: code 6 at either level, or px together with uw
abbrev pub unjudged_code : Bool → PerLevel Code → Bool
unjudged_code two k =
    k.privileged.unjudged || two && k.unprivileged.unjudged || k.privileged.execute && (two && k.unprivileged.write)

-- the rights of both codes; with one level the unprivileged ones are off
abbrev pub code_rights : Bool → PerLevel Code → Rights
code_rights two k =
    six k.privileged.read k.privileged.write k.privileged.execute
    (two && k.unprivileged.read) (two && k.unprivileged.write) (two && k.unprivileged.execute)

-- whether overlays apply, at each level
abbrev pub code_overlays : PerLevel Code → PerLevel Bool
code_overlays k = record { privileged = k.privileged.overlay; unprivileged = k.unprivileged.overlay }
