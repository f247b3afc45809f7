-- What rights promises the planner: how the rights of a level depend on the register put in place of that level's POR. They depend on
-- it only through the slot at the leaf's POIndex; a right is on with slot v exactly where it is on with slot 7 and it is on with slot
-- 0 or v has its bit; and a leaf that passes with 77777777 in place is refused with no usable register. Assumes nothing.
use Rattle.records.proofs.Cases.{clash}
use mathlib.Core.Path.{◌≡◌, refl, sym, ap, ◌∙◌}
use mathlib.Core.Bool.{Bool, false, cond, ◌&&◌, ◌||◌, true}
use mathlib.Core.List.{List, [], ◌∷◌}
use Prim.Native.Nat.{ℕ, suc, ◌<◌}
use native.Mathlib.Omega.{arith}
use borrow.Author.Tests.{lt-leb}
use Rattle.records.proofs.Cases.{at, each}
use Rattle.records.specs.Bits.{nibble}
use Rattle.records.specs.Descriptor.{place_of, slot_at}
use Rattle.records.specs.declared.access.Level.{Level}
use Rattle.records.specs.declared.access.Level.TheVariants.{Privileged, Unprivileged}
use Rattle.records.specs.declared.descriptor.index.POIndex.{POIndex}
use Rattle.records.specs.declared.descriptor.Limits.{Limits}
use Rattle.records.specs.declared.descriptor.Stage1.{Stage1}
use Rattle.records.specs.declared.descriptor.Stage2.{Stage2}
use Rattle.records.specs.declared.setup.PerLevel.{PerLevel}
use Rattle.records.specs.declared.setup.Setup.{Setup}
use Rattle.rights.specs.Mirror.Base.{base_of}
use Rattle.rights.proofs.Agree.{pick, values, agree}
use Rattle.rights.specs.Promise.{level_of, range_from, range_of, between, put, all_open, LevelAnswer, LevelRange}
use Rattle.records.specs.Access.{three, level_in}
use Rattle.records.specs.Setup.{of_level}
use Rattle.rights.specs.Overlay.{slot_rights}
use Rattle.rights.specs.Mirror.Pass.{stage1_pass, stage2_pass, none, any, both, overlaid, pass_level, pass_with, Stage1Pass, Stage2Pass}
use Rattle.records.specs.declared.access.LevelRights.{LevelRights}
use Rattle.std.specs.Prelude.{Ok, Err}
use Rattle.records.specs.declared.refusal.Refusal.{Refusal}
use Rattle.records.specs.declared.refusal.Refusal.TheVariants.{ReservedCode}

-- the register put in place is the level's
placed : (s : Setup) (l : Level) (r : ℕ) → of_level (put s l r).por l ≡ r
placed s Privileged r = refl
placed s Unprivileged r = refl

-- stage 1 up to the overlay does not see a POR
put-stage1 : (s : Setup) (d : Stage1) (t : Limits) (l : Level) (r : ℕ) → stage1_pass (put s l r) d t ≡ stage1_pass s d t
unfolding stage1_pass base_of
put-stage1 s d t l r = refl

-- the pass with a register in place sees only its slot at the leaf's POIndex
pub with-register : (s : Setup) (d : Stage1) (e : Stage2) (t : Limits) (l : Level) (r : ℕ)
    → level_of (put s l r) d e t l
    ≡ pass_with s.control.overlay (stage1_pass s d t) (slot_at r d.poindex) (stage2_pass s.control.stage2 e) l
with-register s d e t l r = agree (put s l r) d e t l ∙ rw (placed s l r, put-stage1 s d t l r)

-- every slot of 77777777 is 7, and every slot of 0 is 0
pub open-slot : (i : POIndex) → slot_at all_open i ≡ 7
open-slot i = at 8 (λ (k : ℕ). nibble all_open k) (λ (k : ℕ). 7) refl (place_of i) (omega arith)

pub shut-slot : (i : POIndex) → slot_at 0 i ≡ 0
shut-slot i = at 8 (λ (k : ℕ). nibble 0 k) (λ (k : ℕ). 0) refl (place_of i) (omega arith)

-- the range as the pass has it
pub range-is : (s : Setup) (d : Stage1) (e : Stage2) (t : Limits) (l : Level)
    → range_of s d e t l
    ≡ range_from (place_of d.poindex) (pass_with s.control.overlay (stage1_pass s d t) 7 (stage2_pass s.control.stage2 e) l)
    (pass_with s.control.overlay (stage1_pass s d t) 0 (stage2_pass s.control.stage2 e) l)
unfolding range_of
range-is s d e t l = rw (with-register s d e t l all_open, with-register s d e t l 0, open-slot d.poindex, shut-slot d.poindex)

-- an answer, where another has rights
abbrev when_rights : LevelAnswer → LevelAnswer → LevelAnswer
when_rights (Ok f) x = x
when_rights (Err n) x = Err n

-- the rights with slot v, from the answers with slot 7 and with slot 0
abbrev between_of : LevelAnswer → LevelAnswer → LevelRights → LevelAnswer
between_of (Ok f) (Ok b) v =
    Ok (three (f.read && (b.read || v.read)) (f.write && (b.write || v.write)) (f.execute && (b.execute || v.execute)))
between_of (Ok f) (Err n) v = Err n
between_of (Err n) b v = Err n

abbrev three-from : ℕ → List Bool → LevelRights
three-from k m = three (pick m k) (pick m (suc k)) (pick m (suc (suc k)))

-- the pass with a slot that is not reserved: v the slot's rights, g what stage 2 grants, truth values 0 to 2 base rights, 3 overlay on
abbrev slotted : (LevelRights → LevelRights → LevelAnswer) → LevelRights → LevelRights → List Bool → LevelAnswer
slotted y v g m = cond (pick m 3 && false && any (three-from 0 m)) (Err ReservedCode) (y (overlaid (pick m 3) v (three-from 0 m)) g)

-- truth values 4 to 6 the slot's rights, 7 to 9, where stage 2 grants something, what it grants
abbrev mixed : (LevelRights → LevelRights → LevelAnswer) → List Bool → LevelAnswer
mixed y m = when_rights (slotted y (slot_rights 7) (three-from 7 m) m) (slotted y (three-from 4 m) (three-from 7 m) m)

abbrev ruled : (LevelRights → LevelRights → LevelAnswer) → List Bool → LevelAnswer
ruled y m =
    between_of (slotted y (slot_rights 7) (three-from 7 m) m) (slotted y (slot_rights 0) (three-from 7 m) m) (three-from 4 m)

rule : (r : LevelRights) (on : Bool) (v : ℕ) (t : Stage2Pass) (l : Level) → v < 8
    → when_rights (pass_level r on 7 t l) (pass_level r on v t l) ≡ between_of (pass_level r on 7 t l) (pass_level r on 0 t l) (slot_rights v)
rule r on v (Stage2Pass.Granted g) l h =
    let y : LevelRights → LevelRights → LevelAnswer = λ a b. Ok (both a b) in
    rw (lt-leb 8 v h) (each (values r (on ∷ values (slot_rights v) (values (level_in g l) []))) (mixed y) (ruled y) refl)
rule r on v Stage2Pass.Nothing l h =
    let y : LevelRights → LevelRights → LevelAnswer = λ a b. Ok none in
    rw (lt-leb 8 v h) (each (values r (on ∷ values (slot_rights v) [])) (mixed y) (ruled y) refl)
rule r on v (Stage2Pass.Refused n) l h =
    let y : LevelRights → LevelRights → LevelAnswer = λ a b. cond (any a) (Err n) (Ok none) in
    rw (lt-leb 8 v h) (each (values r (on ∷ values (slot_rights v) [])) (mixed y) (ruled y) refl)

rule-with : (o : PerLevel Bool) (x : Stage1Pass) (v : ℕ) (t : Stage2Pass) (l : Level) → v < 8
    → when_rights (pass_with o x 7 t l) (pass_with o x v t l) ≡ between_of (pass_with o x 7 t l) (pass_with o x 0 t l) (slot_rights v)
rule-with o (Stage1Pass.Granted b) v t l h = rule (level_in b.rights l) (of_level o l && of_level b.overlay l) v t l h
rule-with o Stage1Pass.Nothing v t l h = refl
rule-with o (Stage1Pass.Refused n) v t l h = refl

-- a range comes from rights with slot 7 and with slot 0
from-range : (k : ℕ) (x y : LevelAnswer) (p : ℕ) (f b : LevelRights) → range_from k x y ≡ LevelRange.Range p f b
    → (p ≡ k) × (x ≡ Ok f) × (y ≡ Ok b)
from-range k (Ok g) (Ok h) p f b e = (cc, cc, cc)
from-range k (Ok g) (Err n) p f b e = clash (cc)
from-range k (Err n) y p f b e = clash (cc)

-- rights with slot 7 mean rights with slot 0
abbrev stays : LevelAnswer → LevelAnswer → Bool
stays (Ok f) (Ok b) = true
stays (Ok f) (Err n) = false
stays (Err n) b = true

-- truth values 4 to 6, where stage 2 grants something, what it grants
abbrev staying : (LevelRights → LevelRights → LevelAnswer) → List Bool → Bool
staying y m = stays (slotted y (slot_rights 7) (three-from 4 m) m) (slotted y (slot_rights 0) (three-from 4 m) m)

stay : (r : LevelRights) (on : Bool) (t : Stage2Pass) (l : Level) → stays (pass_level r on 7 t l) (pass_level r on 0 t l) ≡ true
stay r on (Stage2Pass.Granted g) l = each (values r (on ∷ values (level_in g l) [])) (staying (λ a b. Ok (both a b))) (λ m. true) refl
stay r on Stage2Pass.Nothing l = each (values r (on ∷ [])) (staying (λ a b. Ok none)) (λ m. true) refl
stay r on (Stage2Pass.Refused n) l = each (values r (on ∷ [])) (staying (λ a b. cond (any a) (Err n) (Ok none))) (λ m. true) refl

stay-with : (o : PerLevel Bool) (x : Stage1Pass) (t : Stage2Pass) (l : Level) → stays (pass_with o x 7 t l) (pass_with o x 0 t l) ≡ true
stay-with o (Stage1Pass.Granted b) t l = stay (level_in b.rights l) (of_level o l && of_level b.overlay l) t l
stay-with o Stage1Pass.Nothing t l = refl
stay-with o (Stage1Pass.Refused n) t l = refl

-- so a refused range is refused with slot 7
from-refused : (k : ℕ) (x y : LevelAnswer) (n : Refusal) → stays x y ≡ true → range_from k x y ≡ LevelRange.NoRange n → x ≡ Err n
from-refused k (Err m) y n h e = cc
from-refused k (Ok f) (Err m) n h e = clash (ap (λ (b : Bool). cond b 1 0) h)
from-refused k (Ok f) (Ok b) n h e = clash (cc)

module _ (s : Setup) (d : Stage1) (e : Stage2) (t : Limits) (l : Level) where
  -- the level's answer with slot v
  abbrev with : ℕ → LevelAnswer
  with v = pass_with s.control.overlay (stage1_pass s d t) v (stage2_pass s.control.stage2 e) l

  -- the promise to the planner: the rights of the level with any register whose slot is not reserved
  pub rights-with : (k : ℕ) (f b : LevelRights) → range_of s d e t l ≡ LevelRange.Range k f b → (r : ℕ) → slot_at r d.poindex < 8
      → level_of (put s l r) d e t l ≡ Ok (between f b (slot_at r d.poindex))
  rights-with k f b q r h =
      let x = from-range (place_of d.poindex) (with 7) (with 0) k f b (sym (range-is s d e t l) ∙ q) in
      with-register s d e t l r
      ∙ (rw (x.1, x.2) at (rule-with s.control.overlay (stage1_pass s d t) (slot_at r d.poindex) (stage2_pass s.control.stage2 e) l h))

  -- the place is that of the leaf's slot
  pub place_is : (k : ℕ) (f b : LevelRights) → range_of s d e t l ≡ LevelRange.Range k f b → k ≡ place_of d.poindex
  place_is k f b q = (from-range (place_of d.poindex) (with 7) (with 0) k f b (sym (range-is s d e t l) ∙ q)).0

  -- the bare rights are those with 0 in place
  pub bare-is : (k : ℕ) (f b : LevelRights) → range_of s d e t l ≡ LevelRange.Range k f b → level_of (put s l 0) d e t l ≡ Ok b
  bare-is k f b q =
      with-register s d e t l 0 ∙ rw (shut-slot d.poindex)
      (from-range (place_of d.poindex) (with 7) (with 0) k f b (sym (range-is s d e t l) ∙ q)).2

  -- a range is refused where the level is refused with 77777777 in place
  pub refused-is : (n : Refusal) → range_of s d e t l ≡ LevelRange.NoRange n → level_of (put s l all_open) d e t l ≡ Err n
  refused-is n q =
      with-register s d e t l all_open ∙ rw (open-slot d.poindex)
      (from-refused (place_of d.poindex) (with 7) (with 0) n (stay-with s.control.overlay (stage1_pass s d t) (stage2_pass s.control.stage2 e) l)
      (sym (range-is s d e t l) ∙ q))
