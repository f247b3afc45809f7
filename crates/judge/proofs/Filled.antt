-- The buffers of a list, a leaf at a time: its rights, its six causes, and whether a leaf is marked. Assumes nothing.
use mathlib.Core.Path.{◌≡◌, refl, sym, ap, ap₂, ◌∙◌}
use mathlib.Core.Bool.{Bool, ◌&&◌}
use mathlib.Core.List.{List, [], ◌∷◌}
use Prim.Native.Nat.{ℕ, ◌+◌, ◌*◌, ◌/◌, ◌%◌, ◌^◌, ◌≤◌, ◌<◌}
use native.Mathlib.Numerals.{add-one}
use native.Mathlib.Omega.{arith}
use lib.Bits.{bit_or, or_mod, or_shr}
use lib.Dec.{eqb}
use lib.ListN.{length, set, length-set}
use lib.Seq.{get_or-set_other}
use Rattle.records.proofs.BitLaws.{or-none}
use Rattle.records.proofs.Cases.{each, nth}
use Rattle.records.proofs.Halves.{Entries, one_entry}
use Rattle.records.specs.Leaf.{leaf_at}
use Rattle.records.specs.declared.setup.Setup.{Setup}
use Rattle.rights.proofs.WordNumbers.{number-law, known-number}
use Rattle.rights.specs.Mirror.Parts.{leaf_word, leaf_number, known_number}
use Rattle.attributes.proofs.KnownLaws.{known-law}
use Rattle.attributes.specs.Mirror.Known.{IsRefused, known_with}
use Rattle.attributes.specs.declared.known.Refused.{Refused}
use Rattle.judge.specs.Mirror.Words.{marks_in, total, known_of, rights_in, cause_in, word_at, mark_at, clear, put_at, Found}

fewer : (f : ℕ → ℕ) (t : List ℕ) (m n : ℕ) → n ≤ m → Entries f t m → Entries f t n
fewer f t m n h e j g = e j (omega arith)

-- six causes more, and two bytes that are written over
six-entries : (f : ℕ → ℕ) (v : List ℕ) (k w : ℕ) → k + 8 ≤ length v → Entries f v k → ((j : ℕ) → j < 6 → cause_in w j ≡ f (k + j)) → Entries f (put_at v k w) (k + 6)
unfolding put_at
six-entries f v k w h e g =
    let a = set v k (cause_in w 0) in
    let b = set a (k + 1) (cause_in w 1) in
    let c = set b (k + 2) (cause_in w 2) in
    let d = set c (k + 3) (cause_in w 3) in
    let p = set d (k + 4) (cause_in w 4) in
    let q = set p (k + 5) (cause_in w 5) in
    let z : k + 0 ≡ k = omega arith in
    let E0 = one_entry f v k (omega arith) e (cause_in w 0) (g 0 (omega arith) ∙ ap f z) in
    let E1 = one_entry f a (k + 1) (simp length-set (omega arith)) E0 (cause_in w 1) (g 1 (omega arith)) in
    let E2 = one_entry f b (k + 2) (simp length-set (omega arith)) (fewer f b (k + 1 + 1) (k + 2) (omega arith) E1) (cause_in w 2) (g 2 (omega arith)) in
    let E3 = one_entry f c (k + 3) (simp length-set (omega arith)) (fewer f c (k + 2 + 1) (k + 3) (omega arith) E2) (cause_in w 3) (g 3 (omega arith)) in
    let E4 = one_entry f d (k + 4) (simp length-set (omega arith)) (fewer f d (k + 3 + 1) (k + 4) (omega arith) E3) (cause_in w 4) (g 4 (omega arith)) in
    let E5 = one_entry f p (k + 5) (simp length-set (omega arith)) (fewer f p (k + 4 + 1) (k + 5) (omega arith) E4) (cause_in w 5) (g 5 (omega arith)) in
    let E6 = later f q (k + 5 + 1) (k + 6) (cause_in w 6) (omega arith) E5 in
    fewer f (set (set q (k + 6) (cause_in w 6)) (k + 7) (cause_in w 7)) (k + 5 + 1) (k + 6) (omega arith) (later f (set q (k + 6) (cause_in w 6)) (k + 5 + 1) (k + 7) (cause_in w 7) (omega arith) E6)
  where
    later : (f : ℕ → ℕ) (v : List ℕ) (n i y : ℕ) → n ≤ i → Entries f v n → Entries f (set v i y) n
    later f v n i y h e j g = get_or-set_other v i j y 0 (λ z. omega arith) ∙ e j g

pub put-length : (v : List ℕ) (k w : ℕ) → length (put_at v k w) ≡ length v
unfolding put_at
put-length v k w = simp length-set

module _ (s : Setup) (ls : List ℕ) where
  pub put_six : (v : List ℕ) (i w : ℕ) → 6 * i + 8 ≤ length v → w ≡ word_at s ls i
      → Entries (λ (k : ℕ). cause_in (word_at s ls (k / 6)) (k % 6)) v (6 * i) → Entries (λ (k : ℕ). cause_in (word_at s ls (k / 6)) (k % 6)) (put_at v (6 * i) w) (6 * (i + 1))
  put_six v i w h e E =
      fewer (λ (k : ℕ). cause_in (word_at s ls (k / 6)) (k % 6)) (put_at v (6 * i) w) (6 * i + 6) (6 * (i + 1)) (omega arith)
      (six-entries (λ (k : ℕ). cause_in (word_at s ls (k / 6)) (k % 6)) v (6 * i) w h E (λ j g. at_place j g))
    where
      at_place : (j : ℕ) → j < 6 → cause_in w j ≡ cause_in (word_at s ls ((6 * i + j) / 6)) ((6 * i + j) % 6)
      at_place j g = let x : (6 * i + j) / 6 ≡ i = omega arith in let y : (6 * i + j) % 6 ≡ j = omega arith in rw (x, y, e)

  -- what single fields give of leaf i
  pub word_is : (t : Refused) → IsRefused s.control s.mair s.mair2 t → (i : ℕ) → let f = leaf_at ls i in
      known_number (known_with t f.stage1 f.stage2) (leaf_number s f) ≡ word_at s ls i
  unfolding word_at
  word_is t made i =
      let f = leaf_at ls i in
      ap₂ known_number (known-law s f.stage1 f.stage2 t made) (number-law s f) ∙ known-number (known_of s f) (leaf_word s f)

  -- marks are gathered
  pub marks-are : (i m l f w x y : ℕ) → x ≡ (leaf_at ls i).limits → y ≡ (leaf_at ls i).forbidden → w ≡ word_at s ls i → eqb (total m l f) 0 ≡ clear s ls i
      → eqb (total (bit_or m (marks_in w)) (bit_or l x) (bit_or f y)) 0 ≡ clear s ls (i + 1)
  unfolding mark_at
  marks-are i m l f w x y e g h c = totals m (marks_in w) l x f y ∙ rw (add-one i, c, h, e, g)
    where
      parts : (a b x y : ℕ) → eqb (bit_or (bit_or a b) (bit_or x y)) 0 ≡ ((eqb a 0 && eqb b 0) && (eqb x 0 && eqb y 0))
      parts a b x y = or-none (bit_or a b) (bit_or x y) ∙ ap₂ ◌&&◌ (or-none a b) (or-none x y)

      -- two totals at once
      totals : (m n l a f b : ℕ) → eqb (total (bit_or m n) (bit_or l a) (bit_or f b)) 0 ≡ (eqb (total m l f) 0 && eqb (total n a b) 0)
      totals m n l a f b =
          rw (or_mod m n 8, or_shr m n 14, or_shr l a 4, or_shr f b 6)
          (parts (bit_or (m % 2 ^ 8) (n % 2 ^ 8)) (bit_or (m / 2 ^ 14) (n / 2 ^ 14)) (bit_or (l / 2 ^ 4) (a / 2 ^ 4)) (bit_or (f / 2 ^ 6) (b / 2 ^ 6))
          ∙ ap₂ ◌&&◌ (ap₂ ◌&&◌ (or-none (m % 2 ^ 8) (n % 2 ^ 8)) (or-none (m / 2 ^ 14) (n / 2 ^ 14))) (ap₂ ◌&&◌ (or-none (l / 2 ^ 4) (a / 2 ^ 4)) (or-none (f / 2 ^ 6) (b / 2 ^ 6)))
          ∙ sort (eqb (m % 2 ^ 8) 0) (eqb (n % 2 ^ 8) 0) (eqb (m / 2 ^ 14) 0) (eqb (n / 2 ^ 14) 0) (eqb (l / 2 ^ 4) 0) (eqb (a / 2 ^ 4) 0) (eqb (f / 2 ^ 6) 0) (eqb (b / 2 ^ 6) 0)
          ∙ ap₂ ◌&&◌ (sym (parts (m % 2 ^ 8) (m / 2 ^ 14) (l / 2 ^ 4) (f / 2 ^ 6))) (sym (parts (n % 2 ^ 8) (n / 2 ^ 14) (a / 2 ^ 4) (b / 2 ^ 6))))
        where
          sort : (p q r s t u v w : Bool) → (((p && q) && (r && s)) && ((t && u) && (v && w))) ≡ (((p && r) && (t && v)) && ((q && s) && (u && w)))
          sort p q r s t u v w =
              each (p ∷ q ∷ r ∷ s ∷ t ∷ u ∷ v ∷ w ∷ []) (λ (x : List Bool). ((nth x 0 && nth x 1) && (nth x 2 && nth x 3)) && ((nth x 4 && nth x 5) && (nth x 6 && nth x 7)))
              (λ (x : List Bool). ((nth x 0 && nth x 2) && (nth x 4 && nth x 6)) && ((nth x 1 && nth x 3) && (nth x 5 && nth x 7))) refl

-- what a loop over the leaves keeps, before leaf i of n: the rights v and the causes x of the leaves so far, in buffers as long as v₀ and x₀ that were lent,
-- and what was gathered tells whether one of them is refused
pub record Gathered (s : Setup) (ls : List ℕ) (n : ℕ) (v₀ x₀ : List ℕ) (m l f : ℕ) (v x : List ℕ) (i : ℕ) : Type 0 where
  pub within : i ≤ n
  pub rights_kept : length v ≡ length v₀
  pub causes_kept : length x ≡ length x₀
  pub marked : eqb (total m l f) 0 ≡ clear s ls i
  pub rights_made : Entries (λ (j : ℕ). rights_in (word_at s ls j)) v i
  pub causes_made : Entries (λ (k : ℕ). cause_in (word_at s ls (k / 6)) (k % 6)) x (6 * i)

module _ (s : Setup) (ls : List ℕ) (n : ℕ) (v₀ x₀ : List ℕ) where
  -- before the first leaf
  pub none : Gathered s ls n v₀ x₀ 0 0 0 v₀ x₀ 0
  none = record {
    within = omega arith;
    rights_kept = refl;
    causes_kept = refl;
    marked = refl;
    rights_made = λ j h. absurd (omega arith);
    causes_made = λ k h. absurd (omega arith);
  }

  -- one leaf more, of the word w, the limits a and the forbidden byte b
  pub one_leaf : (m l f : ℕ) (v x : List ℕ) (i : ℕ) → Gathered s ls n v₀ x₀ m l f v x i → i < n → n ≤ length v₀ → 6 * n + 2 ≤ length x₀
      → (w a b p : ℕ) (y : List ℕ) → w ≡ word_at s ls i → a ≡ (leaf_at ls i).limits → b ≡ (leaf_at ls i).forbidden → p ≡ marks_in w → y ≡ put_at x (6 * i) w
      → Gathered s ls n v₀ x₀ (bit_or m p) (bit_or l a) (bit_or f b) (set v i (rights_in w)) y (i + 1)
  one_leaf m l f v x i G h hv hx w a b p y e d g q z = record {
    within = omega arith;
    rights_kept = simp length-set G.rights_kept;
    causes_kept = ap length z ∙ put-length x (6 * i) w ∙ G.causes_kept;
    marked = rw q (marks-are s ls i m l f w a b d g e G.marked);
    rights_made = one_entry _ v i (omega (arith, G.rights_kept)) G.rights_made _ (ap rights_in e);
    causes_made = rw z (put_six s ls x i w (omega (arith, G.causes_kept)) e G.causes_made);
  }

  -- after the last
  pub every_leaf : (m l f : ℕ) (v x : List ℕ) (i r : ℕ) → Gathered s ls n v₀ x₀ m l f v x i → n ≤ i → r ≡ total m l f → (eqb r 0 ≡ clear s ls n) × Found s ls n v x
  every_leaf m l f v x i r G h e = let j : i ≡ n = omega (arith, G.within) in rw (← j, e) (G.marked, (G.rights_made, G.causes_made))
