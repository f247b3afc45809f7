-- The list's answer, case by case. Assumes nothing.
use mathlib.Core.Path.{◌≡◌, refl, sym, ap, ap₂, ◌∙◌}
use mathlib.Core.Bool.{Bool, true, false, ◌&&◌}
use mathlib.Core.List.{List}
use Prim.Native.Nat.{ℕ, zero, suc, ◌+◌, ◌*◌, ◌/◌, ◌%◌, ◌≤◌, ◌<◌}
use native.Mathlib.Nat.{zero-add, not-suc-le-zero}
use native.Mathlib.Omega.{arith}
use lib.Dec.{eqb}
use lib.ListN.{length, get_or, take, drop}
use lib.Seq.{drop-cons, length-take-le, get_or-take, ext_get_or}
use borrow.Author.Tests.{eqb-true, eqb-false}
use Rattle.records.proofs.Cases.{clash, both_hold}
use Rattle.records.specs.Bytes.{over}
use Rattle.records.specs.Leaf.{leaf_at, leaf_count}
use Rattle.records.specs.Setup.{read_setup}
use Rattle.records.specs.declared.setup.Setup.{Setup}
use Rattle.rights.specs.Checks.{setup_check}
use Rattle.judge.specs.Demands.{ListDemands}
use Rattle.judge.specs.LeafRights.{leaf_rights}
use Rattle.judge.specs.List.{Walk, bytes, refused, walk, cause_at, causes_of, finish, leaves_of, list_read, list_of}
use Rattle.judge.specs.Mirror.Walked.{listed_of}
use Rattle.judge.specs.Mirror.Words.{rights_in, cause_in, word_at, mark_at, clear, Found}
use Rattle.judge.proofs.Bits.{walked}
use Rattle.judge.proofs.CauseBytes.{length-causes, at_byte}
use Rattle.judge.proofs.LeafWords.{word-clear, word-refused}
use Rattle.judge.proofs.ListMet.{list-met}
use Rattle.std.specs.Prelude.{Result, Ok, Err}
use Rattle.records.specs.declared.refusal.Refusal.{Refusal}
use Rattle.judge.specs.Answers.{LeafRights}
use Rattle.judge.specs.Answers.{Listed}

-- the list's answer by what was read of the setup
pub reads_as : (b ls o c : List ℕ) (x : (Result Setup Refusal)) → read_setup b ≡ x → list_of b ls o c ≡ list_read x ls o c
unfolding list_of
reads_as b ls o c x e = rw e

-- an answer and buffers that are the list's meet its contract
pub met : (b ls o c : List ℕ) (r : Listed) (p q : List ℕ) → r ≡ (list_of b ls o c).answer → p ≡ (list_of b ls o c).out → q ≡ (list_of b ls o c).causes
    → (r ≡ (list_of b ls o c).answer) × ((p ≡ (list_of b ls o c).out) × ((q ≡ (list_of b ls o c).causes) × ListDemands b ls o c r p q))
met b ls o c r p q e f g = (e, (f, (g, list-met b ls o c r p q (e, f, g))))

-- rights that are in place are those of a walk
walk-part : (f : ℕ → LeafRights) (v : List ℕ) (m i : ℕ) → i + m ≤ length v → ((j : ℕ) → j < i + m → f j ≡ Ok (get_or v j 0)) → walk f i m ≡ bytes (take m (drop i v))
walk-part f v zero i h e = refl
walk-part f v (suc m) i h e =
    let more = walk-part f v m (suc i) (omega arith) (λ j g. e j (omega arith)) in
    rw (e i (omega arith), more, drop-cons v i 0 (omega arith))

-- a leaf that is refused refuses the walk
walk_refused : (f : ℕ → LeafRights) (n j : ℕ) (k : Refusal) → j < n → f j ≡ Err k → (x : Refusal) × (i : ℕ) × (walk f 0 n ≡ refused x i)
walk_refused f n j k h e = go (walk f 0 n) refl
  where
    go : (w : Walk) → walk f 0 n ≡ w → (x : Refusal) × (i : ℕ) × (walk f 0 n ≡ refused x i)
    go (refused x i) q = (x, i, q)
    go (bytes b) q = let z = sym (rw zero-add at ((walked f n 0 b q).1 j h)) ∙ e in clash (cc)

-- all leaves are clear, or one is marked
all-clear : (s : Setup) (ls : List ℕ) (n : ℕ) → clear s ls n ≡ true → (j : ℕ) → j < n → eqb (mark_at s ls j) 0 ≡ true
all-clear s ls zero h j g = absurd (not-suc-le-zero g)
all-clear s ls (suc n) h j g = let e = both_hold (clear s ls n) (eqb (mark_at s ls n) 0) h in go (eqb j n) refl e (all-clear s ls n e.0 j)
  where
    go : (x : Bool) → eqb j n ≡ x → (clear s ls n ≡ true) × (eqb (mark_at s ls n) 0 ≡ true) → (j < n → eqb (mark_at s ls j) 0 ≡ true) → eqb (mark_at s ls j) 0 ≡ true
    go true p e next = rw (eqb-true j n p) e.1
    go false p e next = let d = eqb-false j n p in next (omega arith)

one-marked : (s : Setup) (ls : List ℕ) (n : ℕ) → clear s ls n ≡ false → (j : ℕ) × (j < n) × (eqb (mark_at s ls j) 0 ≡ false)
one-marked s ls zero h = clash (cc)
one-marked s ls (suc n) h = go (clear s ls n) (eqb (mark_at s ls n) 0) refl refl h (λ e. one-marked s ls n e)
  where
    go : (x y : Bool) → clear s ls n ≡ x → eqb (mark_at s ls n) 0 ≡ y → (x && y) ≡ false → (clear s ls n ≡ false → (j : ℕ) × (j < n) × (eqb (mark_at s ls j) 0 ≡ false))
        → (j : ℕ) × (j < suc n) × (eqb (mark_at s ls j) 0 ≡ false)
    go false y p q e next = let z = next p in (z.0, (let g = z.1 in omega arith), z.2)
    go true y p q e next = (n, omega arith, q ∙ e)

leaf-clear : (s : Setup) (ls : List ℕ) → setup_check s.control ≡ (Ok tt) → (j : ℕ) → eqb (mark_at s ls j) 0 ≡ true
    → (leaf_rights s (leaf_at ls j) ≡ Ok (rights_in (word_at s ls j))) × ((a : ℕ) → a < 6 → cause_in (word_at s ls j) a ≡ cause_at s (leaf_at ls j) a)
unfolding mark_at word_at
leaf-clear s ls ok j e = word-clear s (leaf_at ls j) ok e

leaf-refused : (s : Setup) (ls : List ℕ) → setup_check s.control ≡ (Ok tt) → (j : ℕ) → eqb (mark_at s ls j) 0 ≡ false → (k : Refusal) × (leaf_rights s (leaf_at ls j) ≡ Err k)
unfolding mark_at word_at
leaf-refused s ls ok j e = word-refused s (leaf_at ls j) ok e

module _ (s : Setup) (ls o c : List ℕ) (ok : setup_check s.control ≡ (Ok tt)) where
  abbrev n : ℕ
  n = leaf_count ls

  -- THE LEAVES IN ORDER: no leaf is marked
  pub clear-list : (v x : List ℕ) → n ≤ length v → 6 * n ≤ length x → clear s ls n ≡ true → Found s ls n v x
      → leaves_of s ls o c ≡ record { answer = Ok n; out = over (take n v) o; causes = over (take (6 * n) x) c }
  unfolding leaves_of
  clear-list v x h g e f =
      ap₂ (λ (y : Walk) (z : List ℕ). finish y z n o c) (walk-part (λ (i : ℕ). leaf_rights s (leaf_at ls i)) v n 0 (omega arith) (λ j k. rights-at j (omega arith))) causes-are
    where
      at_leaf : (j : ℕ) → j < n → (leaf_rights s (leaf_at ls j) ≡ Ok (rights_in (word_at s ls j))) × ((a : ℕ) → a < 6 → cause_in (word_at s ls j) a ≡ cause_at s (leaf_at ls j) a)
      at_leaf j k = leaf-clear s ls ok j (all-clear s ls n e j k)

      byte_at : (j : ℕ) → j < 6 * n → get_or (causes_of s ls) j 0 ≡ get_or (take (6 * n) x) j 0
      byte_at j i =
          at_byte s ls (6 * n) 0 j i ∙ rw (zero-add j) (sym ((at_leaf (j / 6) (omega arith)).1 (j % 6) (omega arith)) ∙ sym (f.1 j i) ∙ sym (get_or-take (6 * n) x j 0 i))

      rights-at : (j : ℕ) → j < n → leaf_rights s (leaf_at ls j) ≡ Ok (get_or v j 0)
      rights-at j k = (at_leaf j k).0 ∙ ap Ok (sym (f.0 j k))

      causes-are : causes_of s ls ≡ take (6 * n) x
      causes-are =
          let k = length-causes s ls (6 * n) 0 in
          ext_get_or 0 (causes_of s ls) (take (6 * n) x) (k ∙ sym (length-take-le (6 * n) x g))
          (λ j q. let i : j < 6 * n = rw k at q in byte_at j i)

  -- some leaf is
  pub marked-list : clear s ls n ≡ false → (r : Listed) → r ≡ listed_of (walk (λ (i : ℕ). leaf_rights s (leaf_at ls i)) 0 n) n
      → (r ≡ (leaves_of s ls o c).answer) × ((o ≡ (leaves_of s ls o c).out) × (c ≡ (leaves_of s ls o c).causes))
  unfolding leaves_of
  marked-list e r q =
      let m = one-marked s ls n e in
      let k = leaf-refused s ls ok m.0 m.2 in
      let w = walk_refused (λ (i : ℕ). leaf_rights s (leaf_at ls i)) n m.0 k.0 m.1 k.1 in
      rw (q, w.2) (refl, (refl, refl))
