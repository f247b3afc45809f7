-- What the checks before the leaves tell: a list that is gone over has whole leaves, up to 2,048. Assumes nothing.
use Rattle.records.proofs.Cases.{clash}
use mathlib.Core.Path.{◌≡◌, refl}
use mathlib.Core.List.{List}
use mathlib.Core.Bool.{Bool, true, false, cond, ◌&&◌}
use Prim.Native.Nat.{ℕ, ◌/◌, ◌%◌, ◌≤◌}
use lib.Dec.{eqb, leb}
use borrow.Author.Tests.{eqb-true, leb-true, eq-eqb, le-leb}
use Rattle.records.specs.declared.access.Level.{Level}
use Rattle.records.specs.declared.setup.Control.{Control}
use Rattle.records.specs.declared.setup.Setup.{Setup}
use Rattle.rights.specs.Checks.{setup_check, level_check}
use Rattle.records.specs.Setup.{of_level}
use Rattle.planner.specs.Demands.{Accepted}
use Rattle.records.specs.Values.{if_passes}
use Rattle.planner.specs.Plan.{start_level, start_of}
use lib.ListN.{length}
use Rattle.std.specs.Prelude.{Result, Ok, Err}
use Rattle.records.specs.declared.refusal.Refusal.{Refusal}
use Rattle.records.specs.declared.refusal.Refusal.TheVariants.{ListLength, OverlayOff}
use Rattle.records.specs.Values.{Check}

module _ (len : ℕ) (k : Level) where
  -- whole leaves, up to 2,048
  abbrev pub Fits : Type 0
  Fits = (len % 18 ≡ 0) × (len / 18 ≤ 2048)

  by_length : (l : Level) (a b : Bool) → eqb (len % 18) 0 ≡ a → leb (len / 18) 2048 ≡ b → cond (a && b) (Ok l) (Err ListLength) ≡ Ok k → Fits
  by_length l true true p q e = (eqb-true _ _ p, leb-true _ _ q)
  by_length l true false p q e = clash (cc)
  by_length l false b p q e = clash (cc)

  by-on : (l : Level) (on : Bool)
      → cond on (cond (eqb (len % 18) 0 && leb (len / 18) 2048) (Ok l) (Err ListLength)) (Err OverlayOff) ≡ Ok k → Fits
  by-on l true e = by_length l (eqb (len % 18) 0) (leb (len / 18) 2048) refl refl e
  by-on l false e = clash (cc)

  by_level : (c : Control) (x : (Result Level Refusal)) → start_level c len x ≡ Ok k → Fits
  by_level c (Ok l) e = by-on l (c.stage1 && of_level c.overlay l) e
  by_level c (Err n) e = clash (cc)

  by-check : (a : Check) (x : (Result Level Refusal)) → (x ≡ Ok k → Fits) → if_passes a Err x ≡ Ok k → Fits
  by-check (Ok u) x f e = f e
  by-check (Err n) x f e = clash (cc)

  pub fits : (c : Control) (lv : ℕ) → start_of c lv len ≡ Ok k → Fits
  unfolding start_of
  fits c lv e = by-check (setup_check c) (start_level c len (level_check lv)) (by_level c (level_check lv)) e

-- a list that is accepted is gone over
pub accepted-starts : (bytes : List ℕ) (lv : ℕ) (ls : List ℕ) (s : Setup) (l : Level) → Accepted bytes lv ls s l
    → start_of s.control lv (length ls) ≡ Ok l
unfolding start_of
accepted-starts bytes lv ls s l A =
    rw (A.checked, A.level_is, A.stage1_on, A.overlay_on, eq-eqb (length ls % 18) 0 A.whole, le-leb (length ls / 18) 2048 A.few)
