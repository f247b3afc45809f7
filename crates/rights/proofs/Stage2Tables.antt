-- Stage 2's XN table as the code has it. Assumes nothing.
use mathlib.Core.Path.{◌≡◌, refl, sym, ◌∙◌}
use mathlib.Core.Bool.{Bool, true, false, ◌||◌}
use mathlib.Core.List.{[], ◌∷◌}
use Prim.Native.Nat.{ℕ}
use native.Mathlib.Omega.{arith}
use lib.Dec.{eqb, ltb}
use lib.ListN.{get_or-eq_default}
use borrow.Author.Tests.{ltb-true, ltb-false, le-ltb, ne_eqb}
use Rattle.records.proofs.Cases.{at}
use Rattle.rights.specs.Stage2.{xn_px, xn_ux}

pub px-is : (n : ℕ) → xn_px n ≡ (eqb n 0 || eqb n 3)
unfolding xn_px
px-is n = go (ltb n 4) refl
  where
    go : (t : Bool) → ltb n 4 ≡ t → xn_px n ≡ (eqb n 0 || eqb n 3)
    go true q = at 4 xn_px (λ (k : ℕ). eqb k 0 || eqb k 3) refl n (ltb-true n 4 q)
    go false q =
        let h = ltb-false n 4 q in
        get_or-eq_default (true ∷ false ∷ false ∷ true ∷ []) false h
        ∙ sym (rw (ne_eqb n 0 (λ e. omega arith), ne_eqb n 3 (λ e. omega arith)))

pub ux-is : (n : ℕ) → xn_ux n ≡ ltb n 2
unfolding xn_ux
ux-is n = go (ltb n 4) refl
  where
    go : (t : Bool) → ltb n 4 ≡ t → xn_ux n ≡ ltb n 2
    go true q = at 4 xn_ux (λ (k : ℕ). ltb k 2) refl n (ltb-true n 4 q)
    go false q =
        let h = ltb-false n 4 q in
        get_or-eq_default (true ∷ true ∷ false ∷ false ∷ []) false h ∙ sym (le-ltb n 2 (omega arith))
