-- The places of a descriptor: what they are of its bytes, where the descriptors of a leaf stand in a list of leaves, and which fields a place has.
-- Assumes nothing.
use mathlib.Core.Path.{◌≡◌, refl, ap, ◌∙◌}
use mathlib.Core.List.{List}
use Prim.Native.Nat.{ℕ, ◌+◌, ◌*◌, ◌/◌, ◌%◌, ◌^◌, ◌<◌, ◌≤◌}
use native.Mathlib.Nat.{add-zero, add_assoc, div-div-eq-div-mul}
use native.Mathlib.Omega.{arith}
use lib.Dec.{eqb}
use lib.ListN.{length, take, drop}
use lib.Seq.{get_or-take, get_or-drop}
use Rattle.records.specs.Access.{digit}
use Rattle.records.specs.Bits.{bit, field}
use Rattle.records.specs.Bytes.{byte_at, le16, le32, le64}
use Rattle.records.specs.Descriptor.{sh, mem_attr, pi_index, po_index}
use Rattle.records.specs.Leaf.{leaf_of, leaf_at}
use Rattle.records.specs.Mirror.Fields.{attr_indx_of}
use Rattle.records.specs.Mirror.Places.{places_of, codes_place, slots_place, codes_descriptor, slots_descriptor, codes_index, slots_index}
use Rattle.records.specs.declared.descriptor.places.Places.{Places}
use Rattle.records.proofs.Cases.{upto, at}
use Rattle.records.proofs.FieldLaws.{permission-bits}

-- the fields of a number by its parts: x0 and x1 are its lowest bytes, n both, y and z what stands above them; x6 and x7 are its highest bytes, l
-- what stands below them
bits5-0 : (x0 y : ℕ) → (x0 + 256 * y) / 2 ^ 0 % 2 ^ 6 ≡ x0 % 64
bits5-0 x0 y = omega arith

bits4-0 : (x0 y : ℕ) → (x0 + 256 * y) / 2 ^ 0 % 2 ^ 5 ≡ x0 % 32
bits4-0 x0 y = omega arith

bits7-6 : (x0 y : ℕ) → (x0 + 256 * y) / 2 ^ 6 % 2 ^ 2 ≡ x0 / 2 ^ 6 % 4
bits7-6 x0 y = omega arith

bits6-6 : (x0 y : ℕ) → (x0 + 256 * y) / 2 ^ 6 % 2 ^ 1 ≡ x0 / 2 ^ 6 % 2
bits6-6 x0 y = omega arith

bits10-8 : (x0 x1 z : ℕ) → x0 < 256 → (x0 + 256 * x1 + 65536 * z) / 2 ^ 8 % 2 ^ 3 ≡ x1 % 8
bits10-8 x0 x1 z h = omega arith

bits10-7 : (n z : ℕ) → (n + 65536 * z) / 2 ^ 7 % 2 ^ 4 ≡ n / 2 ^ 7 % 16
bits10-7 n z = omega arith

bits54-51 : (l x6 x7 : ℕ) → l < 2 ^ 48 → (l + 2 ^ 48 * x6 + 2 ^ 56 * x7) / 2 ^ 51 % 2 ^ 4 ≡ x6 / 2 ^ 3 % 16
bits54-51 l x6 x7 h = omega arith

bits62-59 : (l x7 : ℕ) → l < 2 ^ 56 → (l + 2 ^ 56 * x7) / 2 ^ 59 % 2 ^ 4 ≡ x7 / 2 ^ 3 % 16
bits62-59 l x7 h = omega arith

bits59-59 : (l x7 : ℕ) → l < 2 ^ 56 → (l + 2 ^ 56 * x7) / 2 ^ 59 % 2 ^ 1 ≡ x7 / 2 ^ 3 % 2
bits59-59 l x7 h = omega arith

-- the places by four of a number's bytes, and n, the number of the first two
abbrev by_bytes : ℕ → ℕ → ℕ → ℕ → ℕ → Places
by_bytes x0 x1 x6 x7 n = record {
  low1 = x0 % 32 + x7 / 2 ^ 3 % 2 * 32;
  low2 = x0 % 64;
  ap = x0 / 2 ^ 6 % 4;
  flags = x1 % 8;
  state = n / 2 ^ 7 % 16;
  never = x6 / 2 ^ 3 % 16;
  codes = record { 0 = x6 / 2 ^ 3 % 16 + x0 / 2 ^ 6 % 2 * 16 };
  slots = record { 0 = x7 / 2 ^ 3 % 16 };
}

-- the places by a number's eight bytes, where n is the number of the first two
eight : (x0 x1 x2 x3 x4 x5 x6 x7 d n : ℕ) → (x0 < 256) × (x1 < 256) × (x2 < 256) × (x3 < 256) × (x4 < 256) × (x5 < 256) × (x6 < 256)
    → d ≡ x0 + 256 * x1 + 2 ^ 16 * x2 + 2 ^ 24 * x3 + 2 ^ 32 * x4 + 2 ^ 40 * x5 + 2 ^ 48 * x6 + 2 ^ 56 * x7 → n ≡ x0 + 256 * x1
    → places_of d ≡ by_bytes x0 x1 x6 x7 n
unfolding places_of
eight x0 x1 x2 x3 x4 x5 x6 x7 d n small e f =
    let z = x2 + 256 * x3 + 2 ^ 16 * x4 + 2 ^ 24 * x5 + 2 ^ 32 * x6 + 2 ^ 40 * x7 in
    let y = x1 + 256 * z in
    let l = n + 2 ^ 16 * x2 + 2 ^ 24 * x3 + 2 ^ 32 * x4 + 2 ^ 40 * x5 in
    let h = l + 2 ^ 48 * x6 in
    let lh : l < 2 ^ 48 = omega arith in
    let hh : h < 2 ^ 56 = omega arith in
    let p : d ≡ x0 + 256 * y = omega arith in
    let q : d ≡ x0 + 256 * x1 + 65536 * z = omega arith in
    let r : d ≡ n + 65536 * z = omega arith in
    let s : d ≡ l + 2 ^ 48 * x6 + 2 ^ 56 * x7 = omega arith in
    let b0 : d / 2 ^ 0 % 2 ^ 6 ≡ x0 % 64 = rw p (bits5-0 x0 y) in
    let b1 : d / 2 ^ 0 % 2 ^ 5 ≡ x0 % 32 = rw p (bits4-0 x0 y) in
    let b2 : d / 2 ^ 59 % 2 ^ 1 ≡ x7 / 2 ^ 3 % 2 = rw s (bits59-59 h x7 hh) in
    let b3 : d / 2 ^ 6 % 2 ^ 2 ≡ x0 / 2 ^ 6 % 4 = rw p (bits7-6 x0 y) in
    let b4 : d / 2 ^ 8 % 2 ^ 3 ≡ x1 % 8 = rw q (bits10-8 x0 x1 z small.0) in
    let b5 : d / 2 ^ 7 % 2 ^ 4 ≡ n / 2 ^ 7 % 16 = rw r (bits10-7 n z) in
    let b6 : d / 2 ^ 51 % 2 ^ 4 ≡ x6 / 2 ^ 3 % 16 = rw s (bits54-51 l x6 x7 lh) in
    let b7 : d / 2 ^ 6 % 2 ^ 1 ≡ x0 / 2 ^ 6 % 2 = rw p (bits6-6 x0 y) in
    let b8 : d / 2 ^ 59 % 2 ^ 4 ≡ x7 / 2 ^ 3 % 16 = rw s (bits62-59 h x7 hh) in
    rw (b1, b2, b0, b3, b4, b5, b6, b7, b8)

-- the places by the bytes of a list, where n is the number of the first two
pub places-bytes : (s : List ℕ) (k n : ℕ) → ((i : ℕ) → byte_at s i < 256) → n ≡ le16 s k
    → places_of (le64 s k) ≡ by_bytes (byte_at s k) (byte_at s (k + 1)) (byte_at s (k + 6)) (byte_at s (k + 7)) n
unfolding le64
places-bytes s k n h e =
    let p : k + 4 + 2 ≡ k + 6 = omega arith in
    let q : k + 4 + 3 ≡ k + 7 = omega arith in
    rw (← p, ← q)
    (eight (byte_at s k) (byte_at s (k + 1)) (byte_at s (k + 2)) (byte_at s (k + 3)) (byte_at s (k + 4)) (byte_at s (k + 4 + 1)) (byte_at s (k + 4 + 2)) (byte_at s (k + 4 + 3)) (le64 s k) n (h k, h (k + 1), h (k + 2), h (k + 3), h (k + 4), h (k + 4 + 1), h (k + 4 + 2)) (omega arith) (omega arith))

-- byte k of a leaf within a list of leaves
leaf-byte : (ls : List ℕ) (n k : ℕ) → k < 18 → byte_at ls (n + k) ≡ byte_at (take 18 (drop n ls)) k
leaf-byte ls n k h = rw (get_or-take 18 (drop n ls) k 0, get_or-drop)

-- the number of eight bytes within a leaf
leaf-word : (ls : List ℕ) (n k : ℕ) → k + 8 ≤ 18 → le64 ls (n + k) ≡ le64 (take 18 (drop n ls)) k
unfolding le64
leaf-word ls n k h = rw (half k (omega arith), add_assoc n k 4, half (k + 4) (omega arith))
  where
    half : (j : ℕ) → j + 4 ≤ 18 → le32 ls (n + j) ≡ le32 (take 18 (drop n ls)) j
    half j f =
        rw (add_assoc n j 1, add_assoc n j 2, add_assoc n j 3, leaf-byte ls n j (omega arith), leaf-byte ls n (j + 1) (omega arith), leaf-byte ls n (j + 2) (omega arith), leaf-byte ls n (j + 3) (omega arith))

-- where the parts of leaf i stand in a list of leaves
pub leaf-places : (ls : List ℕ) (i : ℕ) → i * 18 + 18 ≤ length ls
    → (le64 ls (i * 18) ≡ (leaf_at ls i).stage1)
    × (le64 ls (i * 18 + 8) ≡ (leaf_at ls i).stage2)
    × (byte_at ls (i * 18 + 16) ≡ (leaf_at ls i).limits)
    × (byte_at ls (i * 18 + 17) ≡ (leaf_at ls i).forbidden)
unfolding leaf_of
leaf-places ls i h =
    (rw add-zero at (leaf-word ls (i * 18) 0 (omega arith)), leaf-word ls (i * 18) 8 (omega arith), leaf-byte ls (i * 18) 16 (omega arith), leaf-byte ls (i * 18) 17 (omega arith))

-- THE FIELDS OF A PLACE. A table of n entries is read at a place modulo n
digit-of : (x : ℕ) → x < 2 → x ≡ digit (eqb x 1)
digit-of x h = at 2 (λ (k : ℕ). k) (λ (k : ℕ). digit (eqb k 1)) refl x h

module _ (d : ℕ) where
  pub low2-fields : let k = (places_of d).low2 % 64 in (k % 2 ≡ digit (bit d 0)) × (k / 4 ≡ mem_attr d)
  unfolding places_of
  low2-fields = (parity (d / 2 ^ 0) ∙ digit-of (d / 2 ^ 0 % 2) (omega arith), omega arith)
    where
      parity : (x : ℕ) → x % 2 ^ 6 % 64 % 2 ≡ x % 2
      parity x = omega arith

  pub low1-fields : let k = (places_of d).low1 % 64 in (k % 2 ≡ digit (bit d 0)) × (k / 4 ≡ attr_indx_of d)
  unfolding places_of
  low1-fields = (parity (d / 2 ^ 0) (d / 2 ^ 59) ∙ digit-of (d / 2 ^ 0 % 2) (omega arith), index d (d / 2 ^ 59))
    where
      parity : (x y : ℕ) → (x % 2 ^ 5 + y % 2 ^ 1 * 32) % 64 % 2 ≡ x % 2
      parity x y = omega arith

      index : (x y : ℕ) → (x / 2 ^ 0 % 2 ^ 5 + y % 2 ^ 1 * 32) % 64 / 4 ≡ x / 2 ^ 2 % 2 ^ 3 + y % 2 ^ 1 * 8
      index x y = omega arith

  pub flag-fields : let k = (places_of d).flags % 8 in (k / 4 ≡ digit (bit d 10)) × (k % 4 ≡ sh d)
  unfolding places_of
  flag-fields = (upper (d / 2 ^ 8) ∙ ap (λ (n : ℕ). n % 2) (div-div-eq-div-mul d (2 ^ 8) 4) ∙ digit-of (d / 2 ^ 10 % 2) (omega arith), lower (d / 2 ^ 8))
    where
      upper : (x : ℕ) → x % 2 ^ 3 % 8 / 4 ≡ x / 4 % 2
      upper x = omega arith

      lower : (x : ℕ) → x % 2 ^ 3 % 8 % 4 ≡ x % 2 ^ 2
      lower x = omega arith

  pub state-fields : let k = (places_of d).state % 16 in (k % 2 ≡ digit (bit d 7)) × (k / 2 % 4 ≡ sh d) × (k / 8 ≡ digit (bit d 10))
  unfolding places_of
  state-fields = (
    first (d / 2 ^ 7) ∙ digit-of (d / 2 ^ 7 % 2) (omega arith),
    middle (d / 2 ^ 7) ∙ ap (λ (n : ℕ). n % 2 ^ 2) (div-div-eq-div-mul d (2 ^ 7) 2),
    last (d / 2 ^ 7) ∙ ap (λ (n : ℕ). n % 2) (div-div-eq-div-mul d (2 ^ 7) 8) ∙ digit-of (d / 2 ^ 10 % 2) (omega arith),
  )
    where
      first : (x : ℕ) → x % 2 ^ 4 % 16 % 2 ≡ x % 2
      first x = omega arith

      middle : (x : ℕ) → x % 2 ^ 4 % 16 / 2 % 4 ≡ x / 2 % 2 ^ 2
      middle x = omega arith

      last : (x : ℕ) → x % 2 ^ 4 % 16 / 8 ≡ x / 8 % 2
      last x = omega arith

  pub never-fields : let k = (places_of d).never % 16 in (k % 2 ≡ digit (bit d 51)) × (k / 4 ≡ field d 53 2)
  unfolding places_of
  never-fields = (lower (d / 2 ^ 51) ∙ digit-of (d / 2 ^ 51 % 2) (omega arith), upper (d / 2 ^ 51) ∙ ap (λ (n : ℕ). n % 2 ^ 2) (div-div-eq-div-mul d (2 ^ 51) 4))
    where
      lower : (x : ℕ) → x % 2 ^ 4 % 16 % 2 ≡ x % 2
      lower x = omega arith

      upper : (x : ℕ) → x % 2 ^ 4 % 16 / 4 ≡ x / 4 % 2 ^ 2
      upper x = omega arith

  pub ap-bits : let k = (places_of d).ap % 4 in (bit k 0 ≡ bit d 6) × (bit k 1 ≡ bit d 7)
  unfolding places_of
  ap-bits = let b = permission-bits d in (ap (λ (n : ℕ). eqb n 1) (low (d / 2 ^ 6) (d / 2 ^ 53)) ∙ b.0, ap (λ (n : ℕ). eqb n 1) (high (d / 2 ^ 6) (d / 2 ^ 53)) ∙ b.1)
    where
      low : (x y : ℕ) → x % 2 ^ 2 % 4 / 2 ^ 0 % 2 ≡ (x % 2 ^ 2 + y % 2 ^ 2 * 4) / 2 ^ 0 % 2
      low x y = omega arith

      high : (x y : ℕ) → x % 2 ^ 2 % 4 / 2 ^ 1 % 2 ≡ (x % 2 ^ 2 + y % 2 ^ 2 * 4) / 2 ^ 1 % 2
      high x y = omega arith

  -- the entry at the place of base codes: its own descriptor picks the same codes
  pub codes_at : let k = codes_index (places_of d).codes in (k < 32) × (pi_index (codes_descriptor k) ≡ pi_index d)
  unfolding places_of
  codes_at = (
    omega arith,
    ap (λ (n : ℕ). record { 0 = n })
        (at 32 (λ (k : ℕ). field (codes_descriptor k) 54 1 * 8 + field (codes_descriptor k) 53 1 * 4 + field (codes_descriptor k) 51 1 * 2 + field (codes_descriptor k) 6 1) sum refl ((codes_place d).0 % 32) (omega arith)
        ∙ rw (← (div-div-eq-div-mul d (2 ^ 51) 8), ← (div-div-eq-div-mul d (2 ^ 51) 4)) (go (d / 2 ^ 51) (d / 2 ^ 6))),
  )
    where
      -- the bits of an entry
      sum : ℕ → ℕ
      sum k = k / 8 % 2 * 8 + k / 4 % 2 * 4 + k % 2 * 2 + k / 16

      small : (x y : ℕ) → x < 16 → y < 2 → sum ((x + y * 16) % 32) ≡ x / 8 % 2 * 8 + x / 4 % 2 * 4 + x % 2 * 2 + y
      small x y h g =
          at 16 (λ (x : ℕ). sum ((x + y * 16) % 32)) (λ (x : ℕ). x / 8 % 2 * 8 + x / 4 % 2 * 4 + x % 2 * 2 + y)
          (at 2 (λ (y : ℕ). upto 16 (λ (x : ℕ). sum ((x + y * 16) % 32))) (λ (y : ℕ). upto 16 (λ (x : ℕ). x / 8 % 2 * 8 + x / 4 % 2 * 4 + x % 2 * 2 + y)) refl y g) x h

      eighth : (x : ℕ) → x % 2 ^ 4 / 8 % 2 ≡ x / 8 % 2 ^ 1
      eighth x = omega arith

      fourth : (x : ℕ) → x % 2 ^ 4 / 4 % 2 ≡ x / 4 % 2 ^ 1
      fourth x = omega arith

      second : (x : ℕ) → x % 2 ^ 4 % 2 ≡ x % 2 ^ 1
      second x = omega arith

      go : (x y : ℕ) → sum ((x % 2 ^ 4 + y % 2 ^ 1 * 16) % 32) ≡ x / 8 % 2 ^ 1 * 8 + x / 4 % 2 ^ 1 * 4 + x % 2 ^ 1 * 2 + y % 2 ^ 1
      go x y = small (x % 2 ^ 4) (y % 2 ^ 1) (omega arith) (omega arith) ∙ rw (eighth x, fourth x, second x)

  -- and at the place of slots, in a part that is 0, 16, 32 or 48
  pub slots_at : (part : ℕ) → part % 64 / 16 * 16 ≡ part
      → (k : ℕ) × (k < 16) × (slots_index (places_of d).slots part ≡ k + part) × (po_index (slots_descriptor (k + part)) ≡ po_index d)
  unfolding places_of
  slots_at part e =
      let k = (slots_place d).0 % 16 in
      let f : (k + part) % 16 ≡ k = omega arith in (
        k,
        omega arith,
        ap (λ (n : ℕ). k + n) e,
        ap (λ (n : ℕ). record { 0 = n })
            (ap (λ (n : ℕ). field (n * 2 ^ 59) 60 3) f
            ∙ at 16 (λ (k : ℕ). field (k * 2 ^ 59) 60 3) (λ (k : ℕ). k / 2) refl k (omega arith) ∙ go (d / 2 ^ 59) ∙ ap (λ (n : ℕ). n % 2 ^ 3) (div-div-eq-div-mul d (2 ^ 59) 2)),
      )
    where
      go : (x : ℕ) → x % 2 ^ 4 % 16 / 2 ≡ x / 2 % 2 ^ 3
      go x = omega arith
