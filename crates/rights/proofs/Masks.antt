-- The pass over bits gives what the pass over rights gives. A level's part of a number is computed at all rights; then each rule is computed
-- at all values of the bits that it reads. Assumes nothing.
use mathlib.Core.Path.{◌≡◌, refl, sym, ap, ap₂, ◌∙◌}
use mathlib.Core.Bool.{Bool, true, false, cond, not, ◌&&◌}
use mathlib.Core.List.{List, [], ◌∷◌}
use Prim.Native.Nat.{ℕ, ◌+◌, ◌*◌, ◌/◌, ◌%◌, ◌^◌, ◌<◌}
use native.Mathlib.Omega.{arith}
use lib.Bits.{bit_and, bit_or}
use lib.Dec.{eqb, leb, ltb}
use lib.ListN.{get_or}
use borrow.Author.Tests.{ltb-true}
use Rattle.records.proofs.Cases.{tree, digit_tree, at, each, each-digit}
use Rattle.records.specs.Bits.{bit}
use Rattle.records.specs.Descriptor.{stage1_of, stage2_of, limits_of, po_index, place_of, slot_at}
use Rattle.records.specs.declared.access.Level.{Level}
use Rattle.records.specs.declared.access.Level.TheVariants.{Privileged, Unprivileged}
use Rattle.records.specs.declared.descriptor.Limits.{Limits}
use Rattle.records.specs.declared.descriptor.Stage1.{Stage1}
use Rattle.records.specs.declared.descriptor.Stage2.{Stage2}
use Rattle.records.specs.declared.setup.PerLevel.{PerLevel}
use Rattle.records.specs.Setup.{control_of, setup_from, of_level}
use Rattle.records.specs.declared.setup.Setup.{Setup}
use Rattle.records.specs.declared.setup.Words.{Words}
use Rattle.rights.specs.Mirror.Base.{direct_base, base_of, indirect_of, Base, BaseAnswer}
use Rattle.records.specs.Access.{six, three, level_in, bits_in, digit, six_mask, level_bits}
use Rattle.rights.specs.Direct.{direct_of}
use Rattle.rights.proofs.BaseMasks.{two_digits}
use Rattle.rights.specs.Mirror.BaseMasks.{base_mask}
use Rattle.records.specs.declared.access.Rights.{Rights}
use Rattle.rights.specs.Overlay.{slot_rights}
use Rattle.rights.specs.Mirror.Masks.{level_mask, setup_with, stage1_mask, stage2_mask, applies_in, stage2_table, stage2_left, slot_left, mask_with, range_with}
use Rattle.rights.specs.Promise.{slot_table, range_mask, level_of, range_from, range_of, put, all_open, LevelAnswer}
use Rattle.rights.specs.Steps.{meet}
use Rattle.rights.specs.Stage2.{xn_px, xn_ux, stage2_rights}
use Rattle.rights.proofs.Ranges.{with-register, open-slot, shut-slot}
use Rattle.rights.specs.Mirror.Pass.{from_base, stage1_pass, stage2_pass, none, any, both, overlaid, after_stage2, pass_level, pass_with, Stage1Pass, Stage2Pass}
use Rattle.records.specs.declared.access.LevelRights.{LevelRights}
use Rattle.std.specs.Prelude.{Ok, Err}
use Rattle.records.specs.declared.refusal.Refusal.TheVariants.{ReservedCode, Unjudged}

abbrev pick : List Bool → ℕ → Bool
pick m k = get_or m k false

-- a level's part of six rights, and of base rights with the bits for overlays: truth values 0 to 5 the rights, 6 and 7 overlays apply
abbrev six_at : List Bool → Rights
six_at m = six (pick m 0) (pick m 1) (pick m 2) (pick m 3) (pick m 4) (pick m 5)

abbrev base_at : List Bool → ℕ
base_at m = six_mask (six_at m) + 64 * digit (pick m 6) + 128 * digit (pick m 7)

bits-six : (r : Rights) (l : Level) → bits_in (six_mask r) l ≡ level_bits (level_in r l)
bits-six r Privileged =
    each (r.pr ∷ r.pw ∷ r.px ∷ r.ur ∷ r.uw ∷ r.ux ∷ []) (λ (m : List Bool). bits_in (six_mask (six_at m)) Privileged)
    (λ (m : List Bool). level_bits (level_in (six_at m) Privileged)) refl
bits-six r Unprivileged =
    each (r.pr ∷ r.pw ∷ r.px ∷ r.ur ∷ r.uw ∷ r.ux ∷ []) (λ (m : List Bool). bits_in (six_mask (six_at m)) Unprivileged)
    (λ (m : List Bool). level_bits (level_in (six_at m) Unprivileged)) refl

-- base rights as a number
abbrev base_bits : Base → ℕ
base_bits b = six_mask b.rights + 64 * digit b.overlay.privileged + 128 * digit b.overlay.unprivileged

module _ (b : Base) where
  abbrev values : List Bool
  values = let r = b.rights in r.pr ∷ r.pw ∷ r.px ∷ r.ur ∷ r.uw ∷ r.ux ∷ b.overlay.privileged ∷ b.overlay.unprivileged ∷ []

  bits-base : (l : Level) → bits_in (base_bits b) l ≡ level_bits (level_in b.rights l)
  bits-base Privileged = each values (λ (m : List Bool). bits_in (base_at m) Privileged) (λ (m : List Bool). level_bits (level_in (six_at m) Privileged)) refl
  bits-base Unprivileged = each values (λ (m : List Bool). bits_in (base_at m) Unprivileged) (λ (m : List Bool). level_bits (level_in (six_at m) Unprivileged)) refl

  applies-base : (l : Level) → applies_in (base_bits b) l ≡ of_level b.overlay l
  applies-base Privileged = each values (λ (m : List Bool). applies_in (base_at m) Privileged) (λ (m : List Bool). pick m 6) refl
  applies-base Unprivileged = each values (λ (m : List Bool). applies_in (base_at m) Unprivileged) (λ (m : List Bool). pick m 7) refl

  -- they are a byte
  pub base-small : base_bits b < 256
  base-small = ltb-true _ _ (each values (λ (m : List Bool). ltb (base_at m) 256) (λ (m : List Bool). true) refl)

-- rights of two levels in common, and whether there are any: truth values 0 to 2 and 3 to 5
abbrev low : List Bool → LevelRights
low m = three (pick m 0) (pick m 1) (pick m 2)

abbrev high : List Bool → LevelRights
high m = three (pick m 3) (pick m 4) (pick m 5)

pub and-bits : (a b : LevelRights) → bit_and (level_bits a) (level_bits b) ≡ level_bits (both a b)
and-bits a b =
    each (a.read ∷ a.write ∷ a.execute ∷ b.read ∷ b.write ∷ b.execute ∷ []) (λ (m : List Bool). bit_and (level_bits (low m)) (level_bits (high m)))
    (λ (m : List Bool). level_bits (both (low m) (high m))) refl

pub any-bits : (a : LevelRights) → not (eqb (level_bits a) 0) ≡ any a
any-bits a = each (a.read ∷ a.write ∷ a.execute ∷ []) (λ (m : List Bool). not (eqb (level_bits (low m)) 0)) (λ (m : List Bool). any (low m)) refl

unless-any : {A : Type 0} (a : LevelRights) (x y : A) → cond (eqb (level_bits a) 0) x y ≡ cond (any a) y x
unless-any a x y =
    each (a.read ∷ a.write ∷ a.execute ∷ []) (λ (m : List Bool). cond (eqb (level_bits (low m)) 0) x y) (λ (m : List Bool). cond (any (low m)) y x) refl

and_none : (a : LevelRights) → bit_and (level_bits a) 0 ≡ 0
and_none a = each (a.read ∷ a.write ∷ a.execute ∷ []) (λ (m : List Bool). bit_and (level_bits (low m)) 0) (λ (m : List Bool). 0) refl

-- what a slot leaves: truth values 0 to 2 the rights, 3 the overlay is on
slot-bits : (a : LevelRights) (on : Bool) (v : ℕ) → v < 16
    → bit_and (level_bits a) (cond on (get_or slot_table (v % 8) 0) 7) ≡ level_bits (overlaid on (slot_rights v) a)
slot-bits a on v h =
    each (a.read ∷ a.write ∷ a.execute ∷ on ∷ []) (λ (m : List Bool). bit_and (level_bits (low m)) (cond (pick m 3) (get_or slot_table (v % 8) 0) 7))
    (λ (m : List Bool). level_bits (overlaid (pick m 3) (slot_rights v) (low m)))
    (at 16 (λ (k : ℕ). tree 4 (λ (m : List Bool). bit_and (level_bits (low m)) (cond (pick m 3) (get_or slot_table (k % 8) 0) 7)))
    (λ (k : ℕ). tree 4 (λ (m : List Bool). level_bits (overlaid (pick m 3) (slot_rights k) (low m)))) refl v h)

-- a slot grants three bits
pub slot-low : (v : ℕ) → get_or slot_table (v % 8) 0 < 8
slot-low v = ltb-true _ _ (at 8 (λ (k : ℕ). ltb (get_or slot_table k 0) 8) (λ (k : ℕ). true) refl (v % 8) (omega arith))

-- a choice of answers as a choice of masks
chosen : (b : Bool) (x y : LevelAnswer) → level_mask (cond b x y) ≡ cond b (level_mask x) (level_mask y)
chosen true x y = refl
chosen false x y = refl

stage2-left : (a : LevelRights) (t : Stage2Pass) (l : Level) → stage2_left (level_bits a) (stage2_mask t) l ≡ level_mask (after_stage2 a t l)
stage2-left a (Stage2Pass.Granted g) l = ap Ok (rw (bits-six g l) (and-bits a (level_in g l)))
stage2-left a Stage2Pass.Nothing Privileged = ap Ok (and_none a)
stage2-left a Stage2Pass.Nothing Unprivileged = ap Ok (and_none a)
stage2-left a (Stage2Pass.Refused n) l = unless-any a (Ok 0) (Err n) ∙ sym (chosen (any a) (Err n) (Ok none))

-- the same with the slot before it
slot-left : (a : LevelRights) (on : Bool) (v : ℕ) (t : Stage2Pass) (l : Level) → v < 16
    → slot_left (level_bits a) on v (stage2_mask t) l ≡ level_mask (pass_level a on v t l)
slot-left a on v t l h =
    rw (any-bits a, slot-bits a on v h, stage2-left (overlaid on (slot_rights v) a) t l)
    (sym (chosen (on && leb 8 v && any a) (Err ReservedCode) (after_stage2 (overlaid on (slot_rights v) a) t l)))

-- a level with no base right has none, whatever the slot
never : (a b : Bool) → (a && b && false) ≡ false
never true true = refl
never true false = refl
never false b = refl

none_left : (t : Stage2Pass) (l : Level) → after_stage2 none t l ≡ Ok none
none_left (Stage2Pass.Granted g) l = refl
none_left Stage2Pass.Nothing l = refl
none_left (Stage2Pass.Refused n) l = refl

none_passed : (on : Bool) (v : ℕ) (t : Stage2Pass) (l : Level) → pass_level none on v t l ≡ Ok none
none_passed on v t l = rw (never on (leb 8 v)) (none_left t l)

-- the same with stage 1 as a whole
pub mask-with : (o : PerLevel Bool) (x : Stage1Pass) (v : ℕ) (t : Stage2Pass) (l : Level) → v < 16
    → mask_with (of_level o l) (stage1_mask x) v (stage2_mask t) l ≡ level_mask (pass_with o x v t l)
mask-with o (Stage1Pass.Granted b) v t l h = rw (bits-base b l, applies-base b l) (slot-left (level_in b.rights l) (of_level o l && of_level b.overlay l) v t l h)
mask-with o Stage1Pass.Nothing v t Privileged h =
    slot-left none (o.privileged && false) v t Privileged h ∙ ap level_mask (none_passed (o.privileged && false) v t Privileged)
mask-with o Stage1Pass.Nothing v t Unprivileged h =
    slot-left none (o.unprivileged && false) v t Unprivileged h ∙ ap level_mask (none_passed (o.unprivileged && false) v t Unprivileged)
mask-with o (Stage1Pass.Refused n) v t l h = refl

-- Direct rights, to which overlays apply at both levels
all-overlaid : (r : Rights) → bit_or (six_mask r) 192 ≡ six_mask r + 64 * 1 + 128 * 1
all-overlaid r =
    each (r.pr ∷ r.pw ∷ r.px ∷ r.ur ∷ r.uw ∷ r.ux ∷ []) (λ (m : List Bool). bit_or (six_mask (six_at m)) 192)
    (λ (m : List Bool). six_mask (six_at m) + 64 * 1 + 128 * 1) refl

pub six-small : (r : Rights) → bit_or (six_mask r) 192 < 256
six-small r =
    ltb-true _ _
    (each (r.pr ∷ r.pw ∷ r.px ∷ r.ur ∷ r.uw ∷ r.ux ∷ []) (λ (m : List Bool). ltb (bit_or (six_mask (six_at m)) 192) 256) (λ (m : List Bool). true) refl)

-- stage 2's table: digits 0 and 1 S2AP, and XN
abbrev tabled : ℕ → List ℕ → ℕ
tabled x m = get_or stage2_table (get_or m 0 0 + get_or m 1 0 * 2 + x * 4) 0

abbrev granted : ℕ → List ℕ → ℕ
granted x m =
    six_mask
    (meet (six (eqb (get_or m 0 0) 1) (eqb (get_or m 1 0) 1) true (eqb (get_or m 0 0) 1) (eqb (get_or m 1 0) 1) true) (six true true (xn_px x) true true (xn_ux x)))

pub stage2-table : (e : ℕ) → get_or stage2_table (e / 2 ^ 6 % 4 + e / 2 ^ 53 % 4 * 4) 0 ≡ six_mask (stage2_rights (stage2_of e))
unfolding stage2_of stage2_rights xn_px xn_ux
stage2-table e =
    let x = e / 2 ^ 53 % 4 in
    ap (λ (n : ℕ). get_or stage2_table (n + x * 4) 0) (two_digits (e / 2 ^ 6) (e / 2 ^ 7) (omega arith))
    ∙ each-digit (e / 2 ^ 6 ∷ e / 2 ^ 7 ∷ []) (tabled x) (granted x)
    (at 4 (λ (k : ℕ). digit_tree 2 (tabled k)) (λ (k : ℕ). digit_tree 2 (granted k)) refl x (omega arith))

-- a base answer as stage 1's
pub from-base : (x : BaseAnswer) → stage1_mask (from_base x) ≡ base_mask x
from-base (Ok b) = refl
from-base (Err n) = refl

-- a Direct leaf with no fault and no dirty state
picked : (on fine indirect e f : Bool) (x y : BaseAnswer) (z : Stage1Pass) → on ≡ true → fine ≡ true → indirect ≡ false → f ≡ false
    → cond on (cond fine (cond (cond indirect e f) (Stage1Pass.Refused Unjudged) (from_base (cond indirect x y))) Stage1Pass.Nothing) z ≡ from_base y
picked on fine indirect e f x y z p q r t = rw (p, q, r, t)

pub stage1-direct : (s : Setup) (d : Stage1) (t : Limits)
    → s.control.stage1 ≡ true → (d.valid && d.af) ≡ true → s.control.indirect ≡ false → d.bit51 ≡ false
    → stage1_mask (stage1_pass s d t) ≡ Ok (bit_or (six_mask (direct_of s.control d t)) 192)
unfolding stage1_pass base_of
stage1-direct s d t on fine direct clean =
    ap stage1_mask (picked s.control.stage1 (d.valid && d.af) s.control.indirect d.bit7 d.bit51 (indirect_of s.control s.pir d.piindex) (direct_base s d t) _ on fine direct clean)
    ∙ ap Ok (sym (all-overlaid (direct_of s.control d t)))

-- stage 2 with no fault and no dirty state
pub stage2-grants : (on : Bool) (d : Stage2) → on ≡ true → (d.valid && d.af) ≡ true → d.bit51 ≡ false
    → stage2_mask (stage2_pass on d) ≡ Ok (six_mask (stage2_rights d))
unfolding stage2_pass
stage2-grants on d h fine clean = rw (h, fine, clean)

-- a range of answers as a range of masks
range-with : (k : ℕ) (x y : LevelAnswer) → range_with k (level_mask x) (level_mask y) ≡ range_mask (range_from k x y)
range-with k (Ok f) (Ok b) = refl
range-with k (Ok f) (Err n) = refl
range-with k (Err n) y = refl

module _ (q : Words) where
  -- stage 1 before the overlay reads the control word and the PIRs alone
  abbrev first_setup : Setup
  first_setup = setup_with q.control q.pir.privileged q.pir.unprivileged

  same_first : (d : Stage1) (t : Limits) → stage1_pass (setup_from q) d t ≡ stage1_pass first_setup d t
  unfolding stage1_pass base_of setup_from
  same_first d t = refl

  -- the pass that the code makes gives the answer of a level, with slot v of a register put in place of that level's POR
  pub put-masks : (d e t v r : ℕ) (l : Level) → v < 16 → slot_at r (po_index d) ≡ v
      → mask_with (of_level (control_of q.control).overlay l) (stage1_mask (stage1_pass first_setup (stage1_of d) (limits_of t))) v
      (stage2_mask (stage2_pass (bit q.control 2) (stage2_of e))) l
      ≡ level_mask (level_of (put (setup_from q) l r) (stage1_of d) (stage2_of e) (limits_of t) l)
  unfolding setup_from control_of stage1_of
  put-masks d e t v r l h k =
      mask-with (control_of q.control).overlay (stage1_pass first_setup (stage1_of d) (limits_of t)) v (stage2_pass (bit q.control 2) (stage2_of e)) l h
      ∙ ap level_mask (sym (with-register (setup_from q) (stage1_of d) (stage2_of e) (limits_of t) l r
      ∙ ap (λ (x : Stage1Pass). pass_with (control_of q.control).overlay x (slot_at r (po_index d)) (stage2_pass (bit q.control 2) (stage2_of e)) l) (same_first (stage1_of d) (limits_of t))
      ∙ ap (λ (n : ℕ). pass_with (control_of q.control).overlay (stage1_pass first_setup (stage1_of d) (limits_of t)) n (stage2_pass (bit q.control 2) (stage2_of e)) l) k))

  -- what the planner asks of a level
  pub range-masks : (d e t : ℕ) (l : Level)
      → range_with (place_of (po_index d))
      (mask_with (of_level (control_of q.control).overlay l) (stage1_mask (stage1_pass first_setup (stage1_of d) (limits_of t))) 7 (stage2_mask (stage2_pass (bit q.control 2) (stage2_of e))) l)
      (mask_with (of_level (control_of q.control).overlay l) (stage1_mask (stage1_pass first_setup (stage1_of d) (limits_of t))) 0 (stage2_mask (stage2_pass (bit q.control 2) (stage2_of e))) l)
      ≡ range_mask (range_of (setup_from q) (stage1_of d) (stage2_of e) (limits_of t) l)
  unfolding range_of stage1_of
  range-masks d e t l =
      ap₂ (range_with (place_of (po_index d))) (put-masks d e t 7 all_open l (omega arith) (open-slot (po_index d))) (put-masks d e t 0 0 l (omega arith) (shut-slot (po_index d)))
      ∙ range-with (place_of (po_index d)) (level_of (put (setup_from q) l all_open) (stage1_of d) (stage2_of e) (limits_of t) l) (level_of (put (setup_from q) l 0) (stage1_of d) (stage2_of e) (limits_of t) l)
