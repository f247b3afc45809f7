-- What a list tells that 1, 2, 3 and 11 do not refuse. Assumes nothing.
use mathlib.Core.Path.{◌≡◌, refl}
use mathlib.Core.Bool.{Bool, true, false, not, ◌&&◌}
use Prim.Native.Nat.{ℕ, ◌*◌, ◌/◌, ◌%◌, ◌≤◌}
use lib.Dec.{eqb, leb}
use borrow.Author.Tests.{leb-true}
use Rattle.records.proofs.Cases.{clash, both_hold}
use Rattle.records.specs.Leaf.{whole_leaves}
use Rattle.records.specs.Values.{check_if, check_then}
use Rattle.records.specs.declared.setup.Control.{Control}
use Rattle.rights.specs.Checks.{setup_check}
use Rattle.judge.specs.List.{fits, list_check}
use Rattle.std.specs.Prelude.{Ok, Err}
use Rattle.records.specs.declared.refusal.Refusal.TheVariants.{ListLength}
use Rattle.records.specs.Values.{Check}

pub record Fits (c : Control) (len room causes : ℕ) : Type 0 where
  pub accepted : setup_check c ≡ Ok tt
  pub few : len / 18 ≤ 2048
  pub roomy : len / 18 ≤ room
  pub caused : 6 * (len / 18) ≤ causes

pub fitting : (c : Control) (len room causes : ℕ) → list_check c len room causes ≡ (Ok tt) → Fits c len room causes
unfolding list_check
fitting c len room causes = go (setup_check c) refl (fits len room causes) refl
  where
    go : (x : Check) → setup_check c ≡ x → (t : Bool) → fits len room causes ≡ t → check_then x (check_if (not t) ListLength) ≡ (Ok tt) → Fits c len room causes
    go (Ok u) e true f h =
        let w = both_hold (whole_leaves len) (leb (len / 18) room && leb (6 * (len / 18)) causes) f in
        let v = both_hold (leb (len / 18) room) (leb (6 * (len / 18)) causes) w.1 in record {
          accepted = e;
          few = leb-true _ _ (both_hold (eqb (len % 18) 0) (leb (len / 18) 2048) w.0).1;
          roomy = leb-true _ _ v.0;
          caused = leb-true _ _ v.1;
        }
    go (Ok u) e false f h = clash (cc)
    go (Err n) e t f h = clash (cc)
