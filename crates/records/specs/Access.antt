-- Document 01, 'Setup and leaf records': access numbers, which the forbidden bits agree with; and sets of accesses, which both stages grant.
-- Assumes nothing.
use Rattle.std.specs.Prelude.{ℕ, ◌+◌, ◌*◌, ◌/◌, ◌%◌, ◌^◌, List, [], ◌∷◌, Bool, cond, leb, get_or, Option, Some, None, codes}
use Rattle.records.specs.declared.access.Access.{Access}
use Rattle.records.specs.declared.access.Level.{Level}
use Rattle.records.specs.declared.access.Level.TheVariants.{Privileged, Unprivileged}
use Rattle.records.specs.declared.access.LevelRights.{LevelRights}
use Rattle.records.specs.declared.access.Right.{Right}
use Rattle.records.specs.declared.access.Right.TheVariants.{Read, Write, Execute}
use Rattle.records.specs.declared.access.Rights.{Rights}

-- how levels and rights are printed, which no sentence of the paper says
abbrev pub level_text : Level → List ℕ
level_text Privileged = codes "privileged"
level_text Unprivileged = codes "unprivileged"

abbrev pub right_text : Right → List ℕ
right_text Read = codes "read"
right_text Write = codes "write"
right_text Execute = codes "execute"

-- an access: a right of a level
abbrev pub access_of : Level → Right → Access
access_of l r = record { level = l; right = r }

-- in the order of their numbers: 0 privileged read (pr), 1 pw, 2 privileged execute (px), 3 unprivileged read (ur), 4 uw, 5 ux
abbrev pub accesses : List Access
accesses =
    access_of Privileged Read ∷ access_of Privileged Write ∷ access_of Privileged Execute ∷
    access_of Unprivileged Read ∷ access_of Unprivileged Write ∷ access_of Unprivileged Execute ∷ []

-- the access of a number up to 5
abbrev pub access_at : ℕ → Access
access_at n = get_or accesses n (access_of Privileged Read)

-- the number of a level's first access: 0 pr, 3 ur
abbrev pub first_access : Level → ℕ
first_access Privileged = 0
first_access Unprivileged = 3

-- the number of an access, which its forbidden bit agrees with: read, write, execute
abbrev pub access_number : Level → Right → ℕ
access_number l Read = first_access l
access_number l Write = first_access l + 1
access_number l Execute = first_access l + 2

-- no access has a number above 5
unfoldable pub read_access : ℕ → Option Access
read_access n = cond (leb n 5) (Some (access_at n)) None

-- the six rights, in the order of their accesses' numbers
abbrev pub six : Bool → Bool → Bool → Bool → Bool → Bool → Rights
six pr pw px ur uw ux = record { pr = pr; pw = pw; px = px; ur = ur; uw = uw; ux = ux }

-- read, write, execute of a level
abbrev pub three : Bool → Bool → Bool → LevelRights
three r w x = record { read = r; write = w; execute = x }

-- the rights of a level among the six
abbrev pub level_in : Rights → Level → LevelRights
level_in r Privileged = three r.pr r.pw r.px
level_in r Unprivileged = three r.ur r.uw r.ux

-- a right of a level
abbrev pub has_right : LevelRights → Right → Bool
has_right l Read = l.read
has_right l Write = l.write
has_right l Execute = l.execute

-- the right of an access among the six
abbrev pub has : Rights → Access → Bool
has r a = has_right (level_in r a.level) a.right

-- the three bits of a level among six that stand by access number, as those of a forbidden byte do: read, write, execute
abbrev pub bits_in : ℕ → Level → ℕ
bits_in m Privileged = m % 8
bits_in m Unprivileged = m / 2 ^ 3 % 8

-- a truth value as a digit
abbrev pub digit : Bool → ℕ
digit b = cond b 1 0

-- read, write and execute as bits 0 to 2
abbrev pub three_mask : Bool → Bool → Bool → ℕ
three_mask r w x = digit r + 2 * digit w + 4 * digit x

-- the six rights as bits, by the numbers of their accesses
abbrev pub six_mask : Rights → ℕ
six_mask r = three_mask r.pr r.pw r.px + 8 * three_mask r.ur r.uw r.ux

-- rights of a level as bits 0 to 2: read, write, execute
abbrev pub level_bits : LevelRights → ℕ
level_bits r = three_mask r.read r.write r.execute
