-- The numbers of the planner's pass are those of Direct and Indirect: each rule is computed at all values of the bits that it reads. Assumes
-- nothing.
use Rattle.records.proofs.Cases.{clash}
use mathlib.Core.Path.{◌≡◌, refl, sym, ap, ap₂, ◌∙◌}
use mathlib.Core.Bool.{Bool, true, false, not, ◌&&◌, ◌||◌}
use mathlib.Core.List.{List, [], ◌∷◌}
use Prim.Native.Nat.{ℕ, ◌+◌, ◌*◌, ◌/◌, ◌%◌, ◌^◌}
use native.Mathlib.Omega.{arith}
use native.Mathlib.Nat.{mod-eq_of_lt}
use lib.Bits.{bit_and, and_mod, and_mask, mask_lt}
use lib.Dec.{eqb, ltb}
use lib.ListN.{length, get_or}
use Rattle.records.proofs.Cases.{upto, at, each, digits, each-digit}
use Rattle.records.specs.Bits.{bit}
use Rattle.records.specs.Descriptor.{stage1_of, limits_of}
use Rattle.records.specs.Setup.{control_of}
use Rattle.records.specs.Access.{six, six_mask}
use Rattle.rights.specs.Direct as direct
use Rattle.rights.specs.Indirect.{meanings, fields, reserved, code_of}
use Rattle.rights.specs.Mirror.Base.{indirect_step}
use Rattle.rights.specs.Mirror.BaseMasks.{base_mask, keep, descriptor_table, limits_table, level_place, descriptor_left, limits_left, descriptor_place, removed, codes, upper_bits, pair_mask}
use Rattle.rights.specs.Steps.{Step, step, fixed, everything, left_after}
use Rattle.records.specs.declared.access.Rights.{Rights}
use Rattle.rights.specs.Mirror.BaseMasks.{Mask}

abbrev pick : List ℕ → ℕ → ℕ
pick m k = get_or m k 0

abbrev on : List ℕ → ℕ → Bool
on m k = eqb (pick m k) 1

-- two levels, up to the removal by unprivileged write: digits 0 to 3 AP[1], AP[2], PXN, UXN, 4 to 7 the limits, 8 limits disabled
abbrev tabled_two : List ℕ → ℕ
tabled_two m =
    bit_and (get_or descriptor_table (pick m 0 + pick m 1 * 2 + pick m 2 * 4 + pick m 3 * 8) 0)
    (keep (not (on m 8)) (get_or limits_table (pick m 4 + pick m 5 * 2 + pick m 6 * 4 + pick m 7 * 8) 0))

abbrev left_two : List ℕ → Rights
left_two m =
    left_after everything
    (fixed 1 (direct.ap (on m 1) (on m 0)) ∷
    fixed 2 (direct.ap_table (on m 5 && not (on m 8)) (on m 4 && not (on m 8))) ∷
    fixed 3 (direct.execute_never (on m 2) (on m 3)) ∷
    fixed 4 (direct.execute_never (on m 6 && not (on m 8)) (on m 7 && not (on m 8))) ∷ [])

two-left : (l : List ℕ) → length l ≡ 9 → tabled_two (digits l) ≡ six_mask (left_two (digits l))
unfolding direct.ap
two-left l h = each-digit l tabled_two (λ (m : List ℕ). six_mask (left_two m)) (rw h refl)

-- the removals by unprivileged write, WXN and PAN: truth values 0 WXN, 1 PAN, 2 to 7 the rights
abbrev at6 : List Bool → Rights
at6 m = six (get_or m 2 false) (get_or m 3 false) (get_or m 4 false) (get_or m 5 false) (get_or m 6 false) (get_or m 7 false)

abbrev last_steps : Bool → Bool → List Step
last_steps w p = step 5 (λ (r : Rights). direct.unprivileged_write r.uw) ∷ step 6 (direct.wxn w) ∷ step 7 (direct.pan p) ∷ []

removed-is : (w p : Bool) (r : Rights) → removed w p (six_mask r) ≡ six_mask (left_after r (last_steps w p))
removed-is w p r =
    each (w ∷ p ∷ r.pr ∷ r.pw ∷ r.px ∷ r.ur ∷ r.uw ∷ r.ux ∷ []) (λ (m : List Bool). removed (get_or m 0 false) (get_or m 1 false) (six_mask (at6 m)))
    (λ (m : List Bool). six_mask (left_after (at6 m) (last_steps (get_or m 0 false) (get_or m 1 false)))) refl

-- two digits of a number, and four
pub two_digits : (n m : ℕ) → m ≡ n / 2 → n % 4 ≡ n % 2 + m % 2 * 2
two_digits n m e = omega arith

four : (a b c d : ℕ) → a + b * 2 + (c + d * 2) * 4 ≡ a + b * 2 + c * 4 + d * 8
four a b c d = omega arith

descriptor-index : (d : ℕ) → d / 2 ^ 6 % 4 + d / 2 ^ 53 % 4 * 4 ≡ d / 2 ^ 6 % 2 + d / 2 ^ 7 % 2 * 2 + d / 2 ^ 53 % 2 * 4 + d / 2 ^ 54 % 2 * 8
descriptor-index d =
    ap₂ (λ (x y : ℕ). x + y * 4) (two_digits (d / 2 ^ 6) (d / 2 ^ 7) (omega arith)) (two_digits (d / 2 ^ 53) (d / 2 ^ 54) (omega arith))
    ∙ four (d / 2 ^ 6 % 2) (d / 2 ^ 7 % 2) (d / 2 ^ 53 % 2) (d / 2 ^ 54 % 2)

halves : (t : ℕ) → t % 16 ≡ t / 2 ^ 0 % 4 + t / 2 ^ 2 % 4 * 4
halves t = omega arith

limits-index : (t : ℕ) → t % 16 ≡ t / 2 ^ 0 % 2 + t / 2 ^ 1 % 2 * 2 + t / 2 ^ 2 % 2 * 4 + t / 2 ^ 3 % 2 * 8
limits-index t =
    halves t ∙ ap₂ (λ (x y : ℕ). x + y * 4) (two_digits (t / 2 ^ 0) (t / 2 ^ 1) (omega arith)) (two_digits (t / 2 ^ 2) (t / 2 ^ 3) (omega arith))
    ∙ four (t / 2 ^ 0 % 2) (t / 2 ^ 1 % 2) (t / 2 ^ 2 % 2) (t / 2 ^ 3 % 2)

-- what descriptor d and limits t leave with two levels
abbrev two_left : Bool → ℕ → ℕ → ℕ
two_left unlimited d t = bit_and (get_or descriptor_table (descriptor_place d) 0) (keep (not unlimited) (get_or limits_table (t % 16) 0))

-- Direct with two levels
direct-two : (w d t : ℕ) → bit w 0 ≡ true
    → removed (bit w 6) (bit w 7) (two_left (bit w 8) d t) ≡ six_mask (direct.direct_of (control_of w) (stage1_of d) (limits_of t))
unfolding control_of stage1_of limits_of direct.direct_of direct.direct_steps
direct-two w d t h =
    let l : List ℕ = d / 2 ^ 6 ∷ d / 2 ^ 7 ∷ d / 2 ^ 53 ∷ d / 2 ^ 54 ∷ t / 2 ^ 0 ∷ t / 2 ^ 1 ∷ t / 2 ^ 2 ∷ t / 2 ^ 3 ∷ w / 2 ^ 8 ∷ [] in
    rw h
    (ap (removed (bit w 6) (bit w 7))
    (ap₂ (λ (i j : ℕ). bit_and (get_or descriptor_table i 0) (keep (not (bit w 8)) (get_or limits_table j 0))) (descriptor-index d) (limits-index t) ∙ two-left l refl)
    ∙ removed-is (bit w 6) (bit w 7) (left_two (digits l)))

-- one level: digits 0 AP[2], 1 XN, 2 APTable[1], 3 XNTable, 4 limits disabled, 5 WXN, 6 PAN
abbrev tabled_one : List ℕ → ℕ
tabled_one m =
    removed (on m 5) (on m 6)
    (bit_and (get_or descriptor_table (pick m 0 * 2 + pick m 1 * 4) 0)
    (keep (not (on m 4)) (get_or limits_table (pick m 2 * 2 + pick m 3 * 4) 0)) % 8)

abbrev left_one : List ℕ → Rights
left_one m =
    left_after everything
    (fixed 1 (direct.ap_one (on m 0)) ∷
    fixed 2 (direct.ap_table (on m 2 && not (on m 4)) false) ∷
    fixed 3 (direct.execute_never (on m 1) false) ∷
    fixed 4 (direct.execute_never (on m 3 && not (on m 4)) false) ∷
    step 6 (direct.wxn (on m 5)) ∷ [])

-- what descriptor d and limits t leave with one level
abbrev one_left : Bool → ℕ → ℕ → ℕ
one_left unlimited d t =
    bit_and (get_or descriptor_table (d / 2 ^ 7 % 2 * 2 + d / 2 ^ 54 % 2 * 4) 0)
    (keep (not unlimited) (get_or limits_table (t / 2 ^ 1 % 2 * 2 + t / 2 ^ 3 % 2 * 4) 0)) % 8

direct-one : (w d t : ℕ) → bit w 0 ≡ false
    → removed (bit w 6) (bit w 7) (one_left (bit w 8) d t) ≡ six_mask (direct.direct_of (control_of w) (stage1_of d) (limits_of t))
unfolding control_of stage1_of limits_of direct.direct_of direct.direct_steps
direct-one w d t h =
    rw h
    (each-digit (d / 2 ^ 7 ∷ d / 2 ^ 54 ∷ t / 2 ^ 1 ∷ t / 2 ^ 3 ∷ w / 2 ^ 8 ∷ w / 2 ^ 6 ∷ w / 2 ^ 7 ∷ []) tabled_one (λ (m : List ℕ). six_mask (left_one m)) refl)

-- the entries that count
low-place : (k : ℕ) → k % 16 % 16 ≡ k % 16
low-place k = omega arith

descriptor-low : (d : ℕ) → descriptor_place d % 16 ≡ descriptor_place d
descriptor-low d = omega arith

second-and-fourth : (a b c e : ℕ) → level_place false (a % 2 + b % 2 * 2 + c % 2 * 4 + e % 2 * 8) ≡ b % 2 * 2 + e % 2 * 4
second-and-fourth a b c e =
    each-digit (a ∷ b ∷ c ∷ e ∷ []) (λ (m : List ℕ). level_place false (pick m 0 + pick m 1 * 2 + pick m 2 * 4 + pick m 3 * 8))
    (λ (m : List ℕ). pick m 1 * 2 + pick m 3 * 4) refl

-- Direct by what the descriptor leaves and what the limits leave
pub direct-left : (w d t : ℕ)
    → removed (bit w 6) (bit w 7) (bit_and (descriptor_left (bit w 0) (descriptor_place d)) (limits_left (bit w 0) (bit w 8) (t % 16)))
    ≡ six_mask (direct.direct_of (control_of w) (stage1_of d) (limits_of t))
direct-left w d t = go (bit w 0) refl
  where
    go : (two : Bool) → bit w 0 ≡ two
        → removed (bit w 6) (bit w 7) (bit_and (descriptor_left two (descriptor_place d)) (limits_left two (bit w 8) (t % 16)))
        ≡ six_mask (direct.direct_of (control_of w) (stage1_of d) (limits_of t))
    go true e =
        ap₂ (λ (i j : ℕ). removed (bit w 6) (bit w 7) (bit_and (get_or descriptor_table i 0) (keep (not (bit w 8)) (get_or limits_table j 0)))) (descriptor-low d) (low-place t)
        ∙ direct-two w d t e
    go false e =
        ap₂ (λ (i j : ℕ). removed (bit w 6) (bit w 7) (bit_and (get_or descriptor_table i 0 % 8) (keep (not (bit w 8)) (get_or limits_table j 0) % 8)))
        (ap (level_place false) (descriptor-index d) ∙ second-and-fourth (d / 2 ^ 6) (d / 2 ^ 7) (d / 2 ^ 53) (d / 2 ^ 54))
        (ap (level_place false) (limits-index t) ∙ second-and-fourth (t / 2 ^ 0) (t / 2 ^ 1) (t / 2 ^ 2) (t / 2 ^ 3))
        ∙ ap (removed (bit w 6) (bit w 7)) (sym (and_mod (get_or descriptor_table (d / 2 ^ 7 % 2 * 2 + d / 2 ^ 54 % 2 * 4) 0) (keep (not (bit w 8)) (get_or limits_table (t / 2 ^ 1 % 2 * 2 + t / 2 ^ 3 % 2 * 4) 0)) 3))
        ∙ direct-one w d t e

-- Indirect, at all pairs of codes
abbrev pair_table : Bool → ℕ → ℕ → Mask
pair_table two p u = pair_mask (get_or codes p 0) (upper_bits two (get_or codes u 0))

abbrev step_table : Bool → ℕ → ℕ → Mask
step_table two p u =
    base_mask (indirect_step two (fields (get_or meanings p reserved) (ltb p 8)) (fields (get_or meanings u reserved) (ltb u 8)))

pairs : (two : Bool) (p u : ℕ) → upto 16 (λ (k : ℕ). upto 16 (pair_table two k)) ≡ upto 16 (λ (k : ℕ). upto 16 (step_table two k))
    → pair_table two (p % 16) (u % 16) ≡ step_table two (p % 16) (u % 16)
pairs two p u e =
    at 16 (pair_table two (p % 16)) (step_table two (p % 16))
    (at 16 (λ (k : ℕ). upto 16 (pair_table two k)) (λ (k : ℕ). upto 16 (step_table two k)) e (p % 16) (omega arith)) (u % 16) (omega arith)

pub pair_is : (two : Bool) (p u : ℕ)
    → pair_mask (get_or codes (p % 16) 0) (upper_bits two (get_or codes (u % 16) 0)) ≡ base_mask (indirect_step two (code_of p) (code_of u))
unfolding code_of
pair_is true p u = pairs true p u refl
pair_is false p u = pairs false p u refl

twice : (n : ℕ) → bit_and (bit_and n 63) 63 ≡ bit_and n 63
twice n = and_mask (bit_and n 63) 6 ∙ mod-eq_of_lt (mask_lt n 6)

-- without WXN and PAN the removal by unprivileged write is left
write-removal-alone : (m : ℕ) → bit_and (bit_and m (keep (bit m 4) 59)) 63 ≡ removed false false m
write-removal-alone m = go (bit m 4)
  where
    go : (b : Bool) → bit_and (bit_and m (keep b 59)) 63 ≡ bit_and (bit_and (bit_and m (keep (b || false) 59)) 63) 63
    go true = sym (twice (bit_and m 59))
    go false = sym (twice (bit_and m 63))

pub write-removal : (w p : Bool) (m : ℕ) → (w || p) ≡ false → bit_and (bit_and m (keep (bit m 4) 59)) 63 ≡ removed w p m
write-removal false false m e = write-removal-alone m
write-removal false true m e = absurd (clash (cc))
write-removal true p m e = absurd (clash (cc))
