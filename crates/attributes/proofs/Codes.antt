-- Two functions that agree at each FWB, byte and MemAttr, which antt computes, agree at each argument; and a test that holds at each.
-- Assumes nothing.
use mathlib.Core.Path.{◌≡◌}
use mathlib.Core.List.{List}
use mathlib.Core.Bool.{Bool, true}
use Prim.Native.Nat.{ℕ, ◌<◌}
use Rattle.records.proofs.Cases.{upto, both, at, at_both}

-- the values at each MemAttr of a byte, at each byte, with FWB clear and set
abbrev pub row : {A : Type 0} → (ℕ → ℕ → A) → ℕ → List A
row f b = upto 16 (f b)

abbrev pub table : {A : Type 0} → (Bool → ℕ → ℕ → A) → List (List (List A))
table f = both (λ (fwb : Bool). upto 256 (row (f fwb)))

pub at-codes : {A : Type 0} (f g : Bool → ℕ → ℕ → A) → table f ≡ table g → (fwb : Bool) (b m : ℕ) → b < 256 → m < 16
    → f fwb b m ≡ g fwb b m
at-codes f g e fwb b m hb hm =
    at 16 (f fwb b) (g fwb b)
    (at 256 (row (f fwb)) (row (g fwb)) (at_both (λ (t : Bool). upto 256 (row (f t))) (λ (t : Bool). upto 256 (row (g t))) e fwb)
    b hb)
    m hm

pub all_codes : (t : Bool → ℕ → ℕ → Bool) → table t ≡ table (λ (fwb : Bool) (b m : ℕ). true) → (fwb : Bool) (b m : ℕ) → b < 256 → m < 16
    → t fwb b m ≡ true
all_codes t = at-codes t (λ (fwb : Bool) (b m : ℕ). true)
