-- What the planner uses of rights, by the single right: with a register in place a right is on exactly where it is on with every slot bit
-- on and it is on with every slot bit off or the slot has its bit; and what is on with every slot bit off is on with every one on.
-- Assumes nothing.
use mathlib.Core.Path.{◌≡◌, refl, sym, ap, ◌∙◌}
use mathlib.Core.Bool.{true, ◌&&◌, ◌||◌}
use Prim.Native.Nat.{ℕ, ◌<◌}
use native.Mathlib.Omega.{arith}
use Rattle.records.proofs.Cases.{both_hold}
use Rattle.records.specs.Bits.{bit, nibble}
use Rattle.records.specs.Descriptor.{place_of, slot_at}
use Rattle.records.specs.declared.access.Level.{Level}
use Rattle.records.specs.declared.access.Right.{Right}
use Rattle.records.specs.declared.access.Right.TheVariants.{Read, Write, Execute}
use Rattle.records.specs.declared.descriptor.Limits.{Limits}
use Rattle.records.specs.declared.descriptor.Stage1.{Stage1}
use Rattle.records.specs.declared.descriptor.Stage2.{Stage2}
use Rattle.records.specs.declared.setup.Setup.{Setup}
use Rattle.rights.proofs.PromiseLaws.{answer_to, right_is, bare-is, rights-with, place_is}
use Rattle.rights.specs.Promise.{permitted, range_of, between, put, Range, LevelAnswer}
use Rattle.records.specs.Access.{has_right}
use Rattle.records.specs.declared.access.LevelRights.{LevelRights}
use Rattle.planner.specs.Register.{slot_bit}
use Rattle.planner.proofs.Bits.{nought-slot}
use Rattle.std.specs.Prelude.{Ok}

-- one right of the rights with slot v
between-right : (f b : LevelRights) (v : ℕ) (x : Right) → has_right (between f b v) x ≡ (has_right f x && (has_right b x || bit v (slot_bit x)))
between-right f b v Read = refl
between-right f b v Write = refl
between-right f b v Execute = refl

abbrev granted : LevelRights → LevelAnswer
granted a = Ok a

same-rights : (a b : LevelRights) → granted a ≡ granted b → a ≡ b
same-rights a b e = cc

module _ (s : Setup) (d : Stage1) (e : Stage2) (t : Limits) (l : Level) (k : ℕ) (f b : LevelRights) where
  -- a right that is on with every slot bit off is on with every one on
  pub bare-within : range_of s d e t l ≡ Range k f b → (x : Right) → has_right b x ≡ true → has_right f x ≡ true
  bare-within q x h =
      let z = rights-with s d e t l k f b q 0 (let n = nought-slot (place_of d.poindex) in omega arith) in
      let y : b ≡ between f b (slot_at 0 d.poindex) = same-rights b _ (sym (bare-is s d e t l k f b q) ∙ z) in
      (both_hold (has_right f x) _ (sym (between-right f b (slot_at 0 d.poindex) x) ∙ ap (λ (w : LevelRights). has_right w x) (sym y) ∙ h)).0

  -- one access with a register in place
  pub allowed-is : range_of s d e t l ≡ Range k f b → (r : ℕ) → nibble r k < 8 → (x : Right)
      → permitted (answer_to (put s l r) d e t l x) ≡ (has_right f x && (has_right b x || bit (nibble r k) (slot_bit x)))
  allowed-is q r h x =
      let p = place_is s d e t l k f b q in
      let g : slot_at r d.poindex < 8 = rw (← p) h in
      right_is (put s l r) d e t l (between f b (slot_at r d.poindex)) (rights-with s d e t l k f b q r g) x
      ∙ between-right f b (slot_at r d.poindex) x
      ∙ ap (λ (i : ℕ). has_right f x && (has_right b x || bit (nibble r i) (slot_bit x))) (sym p)
