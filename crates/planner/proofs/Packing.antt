-- The register that eight masks are packed into: its size and its slots. Assumes nothing.
use mathlib.Core.Path.{◌≡◌, sym, ap, ◌∙◌}
use mathlib.Core.List.{List}
use Prim.Native.Nat.{ℕ, zero, suc, ◌+◌, ◌*◌, ◌/◌, ◌%◌, ◌^◌, ◌≤◌, ◌<◌}
use native.Mathlib.Omega.{arith}
use native.Mathlib.Nat.{add-zero, add-suc, suc-add}
use lib.Pow.{pow-add, pow_mono, shr-shr}
use lib.ListN.{get_or}
use Rattle.records.specs.Bits.{nibble}
use Rattle.planner.specs.Register.{pack_from}

four : (m : ℕ) → 2 ^ (4 * suc m) ≡ 16 * 2 ^ (4 * m)
four m = let e : 4 * suc m ≡ 4 + 4 * m = omega arith in ap (λ (k : ℕ). 2 ^ k) e ∙ pow-add 2 4 (4 * m)

module _ (ms : List ℕ) (small : (s : ℕ) → get_or ms s 0 < 8) where
  pub pack-lt : (m s : ℕ) → pack_from ms m s < 2 ^ (4 * m)
  unfolding pack_from
  pack-lt zero s = omega arith
  pack-lt (suc m) s = omega (arith, four m, pack-lt m (suc s), small s)

  pub pack-lt-32 : (m s : ℕ) → m ≤ 8 → pack_from ms m s < 4294967296
  pack-lt-32 m s h =
      let e : 4 * m ≤ 32 = omega arith in
      omega (arith, pack-lt m s, pow_mono {i = 4 * m} {j = 32} e)

  pub pack-lt-28 : (m s : ℕ) → m ≤ 7 → pack_from ms m s < 268435456
  pack-lt-28 m s h =
      let e : 4 * m ≤ 28 = omega arith in
      omega (arith, pack-lt m s, pow_mono {i = 4 * m} {j = 28} e)

  -- slot k of the register is the mask at its place
  pub pack-slot : (m s k : ℕ) → k < m → nibble (pack_from ms m s) k ≡ get_or ms (s + k) 0
  unfolding pack_from
  pack-slot zero s k h = absurd (omega arith)
  pack-slot (suc m) s zero h = let g = small s in rw add-zero (omega arith)
  pack-slot (suc m) s (suc k) h =
      let g = small s in
      let e : 4 * suc k ≡ 4 + 4 * k = omega arith in
      let p = pack_from ms m (suc s) in
      let q : (p * 16 + get_or ms s 0) / 2 ^ 4 ≡ p = omega arith in
      ap (λ (n : ℕ). (p * 16 + get_or ms s 0) / 2 ^ n % 16) e
      ∙ ap (λ (n : ℕ). n % 16) (sym (shr-shr (p * 16 + get_or ms s 0) 4 (4 * k)))
      ∙ ap (λ (n : ℕ). n / 2 ^ (4 * k) % 16) q
      ∙ pack-slot m (suc s) k (omega arith)
      ∙ ap (λ (n : ℕ). get_or ms n 0) (suc-add s k ∙ sym (add-suc s k))
