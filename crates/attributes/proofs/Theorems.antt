-- What the definitions give, for a reviewer: an answer's byte is a valid MAIR byte and its SH is 0, 2 or 3; where stage 1's byte stands;
-- that with FWB clear no level becomes stronger than a stage allows; and that stage 2's own Device or 44 never decides an SH that the
-- result does not. What speaks of all bytes and MemAttr is one computed test each. Assumes nothing.
use mathlib.Core.Path.{◌≡◌, refl, ap}
use mathlib.Core.Bool.{Bool, true, false, cond, not, ◌&&◌, ◌||◌}
use lib.Dec.{eqb, leb, ltb}
use Prim.Native.Nat.{ℕ, ◌%◌, ◌<◌, ◌≤◌}
use native.Mathlib.Nat.{mod-lt}
use native.Mathlib.Omega.{arith}
use borrow.Author.Tests.{leb-true, ltb-true, not-false}
use Rattle.records.proofs.Cases.{at, both_hold}
use Rattle.records.specs.declared.descriptor.Stage1.{Stage1}
use Rattle.records.specs.declared.descriptor.Stage2.{Stage2}
use Rattle.records.specs.declared.setup.Setup.{Setup}
use Rattle.attributes.proofs.Codes.{at-codes, all_codes}
use Rattle.attributes.proofs.Laws.{allowed}
use Rattle.attributes.specs.Mair.{outer, inner, is_device, is_normal, valid_byte, class_of, mair_byte, off_byte, stage1_byte, reserved_byte}
use Rattle.attributes.specs.StageTwoType.{mem_attr_of, device_code, reserved_code, outer_class, inner_class, uncached_code, reserved_mem_attr}
use Rattle.attributes.specs.Combine.{combine, result_of, result_byte}
use Rattle.attributes.specs.Shareability.{uncached, counted, stronger, reserved_sh, stage1_sh, stage2_sh, combined_sh, result_sh}
use Rattle.attributes.specs.Order.{attributes_of, memory_of}
use Rattle.attributes.specs.declared.Memory.{Memory}
use Rattle.std.specs.Prelude.{Ok}

-- t wherever a and b hold
abbrev where_both : Bool → Bool → Bool → Bool
where_both a b t = cond a (cond b t true) true

-- a MAIR byte that is not refused
abbrev pub ValidByte : ℕ → Type 0
ValidByte b = (b < 256) × (valid_byte b ≡ true)

-- 0 none, 2 outer, 3 inner
abbrev pub is_sh : ℕ → Bool
is_sh n = eqb n 0 || (eqb n 2 || eqb n 3)

-- combining valid codes gives a valid byte
abbrev stays_valid : Bool → ℕ → ℕ → Bool
stays_valid fwb b m = where_both (valid_byte b) (not (reserved_code fwb m)) (ltb (combine fwb b m) 256 && valid_byte (combine fwb b m))

pub combine-valid : (fwb : Bool) (b m : ℕ) → b < 256 → m < 16 → valid_byte b ≡ true → reserved_code fwb m ≡ false
    → ValidByte (combine fwb b m)
unfolding combine
combine-valid fwb b m hb hm v r =
    let h = both_hold _ _ (rw (v, r) at (all_codes stays_valid refl fwb b m hb hm)) in
    (ltb-true _ _ h.0, h.1)

-- the byte of every answer is a valid MAIR byte
pub answer-valid : (s : Setup) (d : Stage1) (e : Stage2) (fetch : Bool) (m : Memory) → attributes_of s d e fetch ≡ Ok m
    → ValidByte m.byte
unfolding mair_byte off_byte stage1_byte reserved_byte mem_attr_of reserved_mem_attr result_of result_byte memory_of
answer-valid s d e fetch m p =
    let h = allowed s d e fetch m p in
    rw (← ap (λ (n : Memory). n.byte) h.3)
    (second s.control.stage2 s.control.fwb _ (e.memattr % 16)
    (first s.control.stage1 s.control.dc fetch s.control.icacheable _ (mod-lt _ (omega arith)) h.0)
    (mod-lt _ (omega arith)) h.1)
  where
    first : (on dc f i : Bool) (b : ℕ) → b < 256 → (on && not (valid_byte b)) ≡ false
        → ValidByte (cond on b (cond dc 255 (cond f (cond i 170 68) 0)))
    first true dc f i b hb r = (hb, not-false _ r)
    first false true f i b hb r = (omega arith, refl)
    first false false true true b hb r = (omega arith, refl)
    first false false true false b hb r = (omega arith, refl)
    first false false false i b hb r = (omega arith, refl)

    second : (on fwb : Bool) (b n : ℕ) → ValidByte b → n < 16 → (on && reserved_code fwb n) ≡ false → ValidByte (cond on (combine fwb b n) b)
    second true fwb b n v hn r = combine-valid fwb b n v.0 hn v.1 r
    second false fwb b n v hn r = v

-- the SH of every answer is 0, 2 or 3
pub answer-sh : (s : Setup) (d : Stage1) (e : Stage2) (fetch : Bool) (m : Memory) → attributes_of s d e fetch ≡ Ok m
    → is_sh m.sh ≡ true
unfolding reserved_sh stage1_sh combined_sh result_sh memory_of
answer-sh s d e fetch m p =
    let h = allowed s d e fetch m p in
    rw (← ap (λ (n : Memory). n.sh) h.3)
    (both (uncached (result_byte s d e fetch)) s.control.stage2 (stage1_sh s d (stage1_byte s d fetch)) (stage2_sh e)
    (first s.control.stage1 s.control.dc (uncached (stage1_byte s d fetch)) (d.sh % 4) _ (mod-lt _ (omega arith)) h.2))
  where
    written : (x : ℕ) → x < 4 → eqb x 1 ≡ false → is_sh x ≡ true
    written x hx r = rw r at (at 4 (λ (n : ℕ). cond (eqb n 1) true (is_sh n)) (λ (n : ℕ). true) refl x hx)

    first : (on dc u : Bool) (x : ℕ) (other : Bool) → x < 4 → (on && eqb x 1 || other) ≡ false
        → is_sh (cond on (counted u x) (cond dc 0 2)) ≡ true
    first true dc true x other hx r = refl
    first true dc false x other hx r = written x hx (neither (eqb x 1) other r)
      where
        neither : (a b : Bool) → (a || b) ≡ false → a ≡ false
        neither true b q = q
        neither false b q = refl
    first false true u x other hx r = refl
    first false false u x other hx r = refl

    strong : (p q : Bool) → is_sh (cond p 2 (cond q 3 0)) ≡ true
    strong true q = refl
    strong false true = refl
    strong false false = refl

    both : (w on : Bool) (x y : ℕ) → is_sh x ≡ true → is_sh (counted w (cond on (stronger x y) x)) ≡ true
    both true on x y h = refl
    both false true x y h = strong (eqb x 2 || eqb y 2) (eqb x 3 || eqb y 3)
    both false false x y h = h

-- with stage 2 off, stage 1's byte stands
pub stands-off : (s : Setup) (d : Stage1) (e : Stage2) (fetch : Bool) → s.control.stage2 ≡ false
    → result_byte s d e fetch ≡ stage1_byte s d fetch
unfolding result_of result_byte
stands-off s d e fetch off = rw off

-- with FWB clear and MemAttr 15, a valid byte stands (source 000, I_MCQKW)
pub stands-clear : (b : ℕ) → b < 256 → valid_byte b ≡ true → combine false b 15 ≡ b
unfolding combine
stands-clear b hb v = rw v at (at 256 (λ (n : ℕ). cond (valid_byte n) (combine false n 15) n) (λ (n : ℕ). n) refl b hb)

-- with FWB set and MemAttr 7, every byte stands, both nibbles
pub stands_set : (b : ℕ) → combine true b 7 ≡ b
unfolding combine
stands_set b = refl

-- FWB clear: the result is a Device exactly where a stage has one
pub device-clear : (b m : ℕ) → b < 256 → m < 16 → valid_byte b ≡ true → reserved_code false m ≡ false
    → is_device (combine false b m) ≡ is_device b || device_code m
unfolding combine
device-clear b m hb hm v r = rw (v, r) at (at-codes here there refl false b m hb hm)
  where
    here : Bool → ℕ → ℕ → Bool
    here f x y = where_both (valid_byte x) (not (reserved_code false y)) (is_device (combine false x y))

    there : Bool → ℕ → ℕ → Bool
    there f x y = where_both (valid_byte x) (not (reserved_code false y)) (is_device x || device_code y)

-- FWB clear, Normal at both stages: no level is stronger than either stage allows it
abbrev no_stronger : Bool → ℕ → ℕ → Bool
no_stronger f b m =
    where_both (is_normal b) (not (reserved_code false m || device_code m))
    ((leb (class_of (outer (combine false b m))) (class_of (outer b)) && leb (class_of (outer (combine false b m))) (outer_class m))
    && (leb (class_of (inner (combine false b m))) (class_of (inner b)) && leb (class_of (inner (combine false b m))) (inner_class m)))

pub weakens : (b m : ℕ) → b < 256 → m < 16 → is_normal b ≡ true → reserved_code false m ≡ false → device_code m ≡ false
    → ((class_of (outer (combine false b m)) ≤ class_of (outer b)) × (class_of (outer (combine false b m)) ≤ outer_class m))
    × ((class_of (inner (combine false b m)) ≤ class_of (inner b)) × (class_of (inner (combine false b m)) ≤ inner_class m))
unfolding combine
weakens b m hb hm n r q =
    let h = both_hold _ _ (met (is_normal b) (reserved_code false m) (device_code m) _ n r q (all_codes no_stronger refl false b m hb hm)) in
    let o = both_hold _ _ h.0 in
    let i = both_hold _ _ h.1 in
    ((leb-true _ _ o.0, leb-true _ _ o.1), (leb-true _ _ i.0, leb-true _ _ i.1))
  where
    met : (a c d t : Bool) → a ≡ true → c ≡ false → d ≡ false → where_both a (not (c || d)) t ≡ true → t ≡ true
    met a c d t x y z p = rw (x, y, z) at p

-- where stage 2's own type is a Device or 44, so is the result, and SH is 2 by the rule on the result
pub second-counts : (fwb : Bool) (b m : ℕ) → b < 256 → m < 16 → valid_byte b ≡ true → uncached_code m ≡ true
    → uncached (combine fwb b m) ≡ true
unfolding combine
second-counts fwb b m hb hm v u = rw (v, u) at (all_codes test refl fwb b m hb hm)
  where
    test : Bool → ℕ → ℕ → Bool
    test f x y = where_both (valid_byte x) (uncached_code y) (uncached (combine f x y))
