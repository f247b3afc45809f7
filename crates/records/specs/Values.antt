-- Document 01, 'Numbers for no', 'the first that applies is the answer', and 'a definition gives this paper's number and values for each of its
-- cases': checks that give a refusal's number and no fault, and the values of an answer. Cited by the contracts of every layer. Assumes nothing.
use Rattle.std.specs.Prelude.{ℕ, Bool, cond, not, List, [], ◌∷◌, eqb, length, Result, Ok, Err, ⊤}
use Rattle.records.specs.declared.refusal.LeafRefusal.{LeafRefusal}
use Rattle.records.specs.declared.refusal.Refusal.{Refusal}
use Rattle.records.specs.declared.refusal.Refusal.TheVariants.{ControlBits, Clash, WxnOrPan, UnknownAccess, LeafBits, ReservedCode, Unjudged, MemoryCode, ReservedSh, NotSeparable, ListLength, OverlayOff, IllFormed}

-- the paper's numbers
abbrev pub refusal_number : Refusal → ℕ
refusal_number ControlBits = 1
refusal_number Clash = 2
refusal_number WxnOrPan = 3
refusal_number UnknownAccess = 4
refusal_number LeafBits = 5
refusal_number ReservedCode = 6
refusal_number Unjudged = 7
refusal_number MemoryCode = 8
refusal_number ReservedSh = 9
refusal_number NotSeparable = 10
refusal_number ListLength = 11
refusal_number OverlayOff = 12
refusal_number IllFormed = 13

-- a list's refusal; and one with no leaf at fault, whose index is 0
abbrev pub on_leaf : Refusal → ℕ → LeafRefusal
on_leaf r i = record { refusal = r; leaf = i }

abbrev pub unplaced : Refusal → LeafRefusal
unplaced r = on_leaf r 0

-- a check that gives no fault: it passes, or refuses
abbrev pub Check : Type 0
Check = Result ⊤ Refusal

abbrev pub passes : Check
passes = Ok tt

-- a refusal where something is bad
abbrev pub check_if : {E : Type 0} → Bool → E → Result ⊤ E
check_if bad r = cond bad (Err r) (Ok tt)

-- 13: a setup or leaf that is not n bytes
abbrev pub length_check : List ℕ → ℕ → Check
length_check b n = check_if (not (eqb (length b) n)) IllFormed

-- a check, and the one that follows it where it passes
abbrev pub check_then : Check → Check → Check
check_then (Ok u) b = b
check_then (Err r) b = Err r

-- the first refusal among the checks of these numbers, in their order
abbrev pub first_of : (ℕ → Check) → List ℕ → Check
first_of f [] = passes
first_of f (a ∷ more) = check_then (f a) (first_of f more)

-- what is answered where a check passes, or by its refusal
abbrev pub if_passes : {A : Type 0} → Check → (Refusal → A) → A → A
if_passes (Ok u) refuse x = x
if_passes (Err r) refuse x = refuse r

-- The values of an answer, 0 where the paper says 0: a refusal's number and leaf; a fault's stage, kind and cause; an allowed access's byte and SH; a
-- leaf's rights; how many leaves a list or a file has; a register.
pub record Values : Type 0 where
  pub number : ℕ
  pub leaf : ℕ
  pub stage : ℕ
  pub kind : ℕ
  pub cause : ℕ
  pub byte : ℕ
  pub sh : ℕ
  pub rights : ℕ
  pub count : ℕ
  pub register : ℕ

-- registers, rights, byte and SH in a refusal are 0, and by request A1 its cause
abbrev pub refusal : ℕ → ℕ → Values
refusal n i =
    record { number = n; leaf = i; stage = 0; kind = 0; cause = 0; byte = 0; sh = 0; rights = 0; count = 0; register = 0 }

-- a fault carries its stage and kind, with byte and SH 0, and its cause, which request A1 adds
abbrev pub faulted : ℕ → ℕ → ℕ → Values
faulted s k c = record { number = 0; leaf = 0; stage = s; kind = k; cause = c; byte = 0; sh = 0; rights = 0; count = 0; register = 0 }

-- an allowed access carries its byte and SH
abbrev pub allowed : ℕ → ℕ → Values
allowed b h = record { number = 0; leaf = 0; stage = 0; kind = 0; cause = 0; byte = b; sh = h; rights = 0; count = 0; register = 0 }

-- rights, a number of leaves, and a register
abbrev pub with_rights : ℕ → Values
with_rights r = record { number = 0; leaf = 0; stage = 0; kind = 0; cause = 0; byte = 0; sh = 0; rights = r; count = 0; register = 0 }

abbrev pub with_count : ℕ → Values
with_count n = record { number = 0; leaf = 0; stage = 0; kind = 0; cause = 0; byte = 0; sh = 0; rights = 0; count = n; register = 0 }

abbrev pub with_register : ℕ → Values
with_register r = record { number = 0; leaf = 0; stage = 0; kind = 0; cause = 0; byte = 0; sh = 0; rights = 0; count = 0; register = r }
