-- Request A1: the cause fixes stage and kind, one table of fifteen rows. The law is `cause-fixes` of proofs/Named; demand 1 has it of every answer. Assumes
-- nothing.
use Rattle.std.specs.Prelude.{ℕ, ◌≤◌, ◌≡◌, List, [], ◌∷◌, get_or}

pub record Row : Type 0 where
  pub stage : ℕ
  pub kind : ℕ

abbrev pub row : ℕ → ℕ → Row
row s k = record { stage = s; kind = k }

-- 0 none; stage 1's Permission fault: 1 AP or base code, 2 APTable, 3 PXN or UXN (XN), 4 PXNTable or UXNTable (XNTable), 5 unprivileged write, 6 WXN,
-- 7 PAN; its Overlay fault: 8 overlay; stage 2's Permission fault: 9 S2AP, 10 XN; stage 1's Translation and Access flag fault: 11 and 12; stage 2's: 13
-- and 14. Kinds are by number: 1 Translation, 2 Access flag, 3 Permission, 4 Overlay
abbrev pub causes : List Row
causes =
    row 0 0 ∷
    row 1 3 ∷ row 1 3 ∷ row 1 3 ∷ row 1 3 ∷ row 1 3 ∷ row 1 3 ∷ row 1 3 ∷
    row 1 4 ∷
    row 2 3 ∷ row 2 3 ∷
    row 1 1 ∷ row 1 2 ∷
    row 2 1 ∷ row 2 2 ∷ []

-- stage s and kind k are those of cause c, one of the fifteen
abbrev pub CauseFixes : ℕ → ℕ → ℕ → Type 0
CauseFixes s k c = (c ≤ 14) × (get_or causes c (row 0 0) ≡ row s k)
