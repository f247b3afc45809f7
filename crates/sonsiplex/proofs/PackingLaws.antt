-- A packed judgement meets its contract. Assumes nothing.
use mathlib.Core.Path.{◌≡◌, sym, ap, ◌∙◌}
use Prim.Native.Nat.{ℕ}
use Rattle.records.specs.Bits.{field}
use Rattle.records.specs.Values.{Values}
use Rattle.sonsiplex.specs.Packing.{pack_judgement, judgement_fields}

-- the values of a judgement
abbrev pub values : ℕ → ℕ → ℕ → ℕ → ℕ → ℕ → Values
values n s k b h c =
    record { number = n; leaf = 0; stage = s; kind = k; cause = c; byte = b; sh = h; rights = 0; count = 0; register = 0 }

pub judgement : (v : Values) (w n s k b h c : ℕ) → v ≡ values n s k b h c
    → (w ≡ pack_judgement (values n s k b h c))
    × (((field w 0 8 ≡ n) × (field w 8 8 ≡ s) × (field w 16 8 ≡ k)) × ((field w 24 8 ≡ b) × (field w 32 8 ≡ h) × (field w 40 8 ≡ c)))
    → (w ≡ pack_judgement v) × (judgement_fields w ≡ v)
judgement v w n s k b h c e p = (
  p.0 ∙ ap pack_judgement (sym e),
  rw (p.1.0.0, p.1.0.1, p.1.0.2, p.1.1.0, p.1.1.1, p.1.1.2) (sym e),
)
