-- Bits of slots, of masks and of a register; each rule over finitely many values is one computation. Assumes nothing.
use Rattle.records.proofs.Cases.{clash, upto, at, each}
use mathlib.Core.Path.{◌≡◌, refl, sym, ap, ◌∙◌}
use mathlib.Core.Bool.{Bool, true, false, cond, not, ◌&&◌, ◌||◌}
use mathlib.Core.List.{List, [], ◌∷◌}
use Prim.Native.Nat.{ℕ, zero, suc, ◌+◌, ◌*◌, ◌-◌, ◌/◌, ◌%◌, ◌^◌, ◌≤◌, ◌<◌}
use native.Mathlib.Omega.{arith}
use native.Mathlib.Nat.{zero-div, div-eq_of_lt}
use lib.Dec.{eqb}
use lib.ListN.{get_or}
use lib.Pow.{shr-shr, field, mod-mod-pow, pow_mono}
use Rattle.records.specs.Bits.{bit, nibble}
use Rattle.records.specs.declared.access.Right.{Right}
use Rattle.records.specs.declared.access.Right.TheVariants.{Read, Write, Execute}
use Rattle.records.specs.Access.{three, has_right}
use Rattle.records.specs.declared.access.LevelRights.{LevelRights}
use Rattle.planner.specs.Register.{slot_bit, slot_number, cut_mask}
use Rattle.planner.specs.Plan.{any}

-- a truth value as a number
cond-low : (b : Bool) → cond b 1 0 ≤ 1
cond-low true = omega arith
cond-low false = omega arith

pub slot-low : (v : LevelRights) → slot_number v < 8
slot-low v = omega (arith, cond-low v.read, cond-low v.write, cond-low v.execute)

-- a slot has the bit of each of its rights
abbrev pick : List Bool → ℕ → Bool
pick m k = get_or m k false

abbrev listed : List Bool → LevelRights
listed m = three (pick m 0) (pick m 1) (pick m 2)

pub slot-bit : (v : LevelRights) (x : Right) → bit (slot_number v) (slot_bit x) ≡ has_right v x
slot-bit v Read =
    each (v.read ∷ v.write ∷ v.execute ∷ []) (λ (m : List Bool). bit (slot_number (listed m)) 0) (λ (m : List Bool). pick m 0) refl
slot-bit v Write =
    each (v.read ∷ v.write ∷ v.execute ∷ []) (λ (m : List Bool). bit (slot_number (listed m)) 2) (λ (m : List Bool). pick m 1) refl
slot-bit v Execute =
    each (v.read ∷ v.write ∷ v.execute ∷ []) (λ (m : List Bool). bit (slot_number (listed m)) 1) (λ (m : List Bool). pick m 2) refl

-- the bits of a slot are those of rights
pub right-at : (b : ℕ) → b < 3 → (x : Right) × (slot_bit x ≡ b)
right-at zero h = (Read, refl)
right-at (suc zero) h = (Execute, refl)
right-at (suc (suc zero)) h = (Write, refl)
right-at (suc (suc (suc b))) h = absurd (omega arith)

pub right-low : (x : Right) → slot_bit x < 3
right-low Read = omega arith
right-low Write = omega arith
right-low Execute = omega arith

-- a mask without the bits taken
pub cut_low : (m t : ℕ) → m < 8 → cut_mask m t < 8
cut_low m t h = omega arith

pub cut-bit : (m t b : ℕ) → m < 8 → t < 8 → b < 3 → bit (cut_mask m t) b ≡ (bit m b && not (bit t b))
cut-bit m t b hm ht hb =
    at 3 (λ (k : ℕ). bit (cut_mask m t) k) (λ (k : ℕ). bit m k && not (bit t k))
    (at 8 (λ (j : ℕ). upto 3 (λ (k : ℕ). bit (cut_mask m j) k)) (λ (j : ℕ). upto 3 (λ (k : ℕ). bit m k && not (bit j k)))
    (at 8 (λ (i : ℕ). upto 8 (λ (j : ℕ). upto 3 (λ (k : ℕ). bit (cut_mask i j) k)))
    (λ (i : ℕ). upto 8 (λ (j : ℕ). upto 3 (λ (k : ℕ). bit i k && not (bit j k)))) refl m hm)
    t ht)
    b hb

pub seven-bit : (b : ℕ) → b < 3 → bit 7 b ≡ true
seven-bit b h = at 3 (λ (k : ℕ). bit 7 k) (λ (k : ℕ). true) refl b h

-- truth values
pub opposed : {a : Bool} → a ≡ true → a ≡ false → ⊥
opposed p q = clash (ap (λ (b : Bool). cond b 0 1) (sym p ∙ q))

off-l : (a b : Bool) → (a || b) ≡ false → a ≡ false
off-l true b e = e
off-l false b e = refl

off-r : (a b : Bool) → (a || b) ≡ false → b ≡ false
off-r true b e = absurd (opposed refl e)
off-r false b e = e

-- whether there is a right
pub any_none : (v : LevelRights) → any v ≡ false → (x : Right) → has_right v x ≡ false
any_none v e Read = off-l v.read v.write (off-l (v.read || v.write) v.execute e)
any_none v e Write = off-r v.read v.write (off-l (v.read || v.write) v.execute e)
any_none v e Execute = off-r (v.read || v.write) v.execute e

pub any-one : (v : LevelRights) → any v ≡ true → (x : Right) × (has_right v x ≡ true)
any-one v e = go v.read refl v.write refl v.execute refl
  where
    go : (r : Bool) → v.read ≡ r → (w : Bool) → v.write ≡ w → (t : Bool) → v.execute ≡ t → (x : Right) × (has_right v x ≡ true)
    go true p w q t s = (Read, p)
    go false p true q t s = (Write, q)
    go false p false q true s = (Execute, s)
    go false p false q false s = absurd (opposed (rw (p, q, s) at e) refl)

-- a register below 2 ^ j has nothing in the slots from bit j on
pub upper : (r i j : ℕ) → r < 2 ^ j → j ≤ 4 * i → nibble r i ≡ 0
upper r i j h k = ap (λ (x : ℕ). x % 16) (div-eq_of_lt (omega (arith, pow_mono {i = j} {j = 4 * i} k)))

pub nought-slot : (i : ℕ) → nibble 0 i ≡ 0
nought-slot i = ap (λ (x : ℕ). x % 16) (zero-div (2 ^ (4 * i)))

pub nought-bit : (k : ℕ) → bit 0 k ≡ false
nought-bit k = ap (λ (x : ℕ). eqb (x % 2) 1) (zero-div (2 ^ k))

-- the fourth bit of a slot below 8
pub fourth : (x b : ℕ) → x < 8 → 3 ≤ b → b < 4 → bit x b ≡ false
fourth x b h lo hi = let e : b ≡ 3 = omega arith in rw e (at 8 (λ (k : ℕ). bit k 3) (λ (k : ℕ). false) refl x h)

-- bit k of a register is a bit of one of its slots
pub bit-slot : (r k : ℕ) → bit r k ≡ bit (nibble r (k / 4)) (k % 4)
bit-slot r k =
    let t = k % 4 in
    let q = k / 4 in
    let n = r / 2 ^ (4 * q) in
    let e : 3 - t + 1 + t ≡ 4 = omega arith in
    let d : 4 * q + t ≡ k = omega arith in
    ap (λ (x : ℕ). eqb x 1)
    (sym
    (ap (λ (m : ℕ). n % 2 ^ m / 2 ^ t % 2) (sym e)
    ∙ ap (λ (x : ℕ). x % 2) (field n (3 - t + 1) t)
    ∙ mod-mod-pow (n / 2 ^ t) (3 - t) 1
    ∙ ap (λ (x : ℕ). x % 2) (shr-shr r (4 * q) t ∙ ap (λ (m : ℕ). r / 2 ^ m) d)))
