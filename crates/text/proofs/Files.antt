-- The text of a file by what was read of it, and of a map by what its list answered. Assumes nothing.
use Rattle.records.proofs.Cases.{clash}
use mathlib.Core.Path.{◌≡◌, refl, sym, ap}
use mathlib.Core.Bool.{Bool, true, false}
use mathlib.Core.List.{List}
use Prim.Native.Nat.{ℕ, ◌*◌, ◌≤◌, ◌<◌}
use native.Mathlib.Omega.{arith}
use lib.ListN.{length, take, drop, replicate, length-append, length-replicate}
use lib.Seq.{take_at, length-take-le}
use borrow.Author.Tests.{le-leb, lt-ltb, le-ltb}
use Rattle.records.proofs.LeafFields.{whole, counted}
use Rattle.records.specs.MapFile.{begins_with, rest, Leaves, leaves, ill_formed, file_of, setup_in, result_of, read_file}
use Rattle.records.specs.Bytes.{over}
use Rattle.io.specs.Counts.{IsPrefixLen}
use Rattle.text.specs.Lines.{refusal_line}
use Rattle.text.specs.Listing.{map_lines, listed, map_text, text_of, written}
use Rattle.std.specs.Prelude.{Result, Ok, Err}
use Rattle.records.specs.declared.refusal.Refusal.{Refusal}
use Rattle.records.specs.Values.{refusal_number}
use Rattle.records.specs.declared.refusal.LeafRefusal.{LeafRefusal}
use Rattle.judge.specs.Answers.{Listed}

-- the list's answer x, with the rights rs written
module _ (b ls : List ℕ) (n : ℕ) (x : Listed) where
  pub done : (m : ℕ) (rs : List ℕ) → x ≡ (listed b ls).answer → rs ≡ (listed b ls).out → x ≡ Ok m
      → map_text b ls n ≡ map_lines b ls n rs
  unfolding map_text
  done m rs e f g = rw (← f, ← e, g)

  pub refused : (r : LeafRefusal) → x ≡ (listed b ls).answer → x ≡ Err r → map_text b ls n ≡ refusal_line (refusal_number r.refusal) r.leaf
  unfolding map_text
  refused r e g = rw (← e, g)

-- a file that is read as a map has a first field of 52 bytes and at most 2,048 leaf fields, of 18 bytes each
file-counted : (s : List ℕ) (n : ℕ) (ls : List ℕ) → file_of s ≡ leaves n ls → (55 ≤ length s) × ((n ≤ 2048) × (length ls ≡ n * 18))
unfolding file_of
file-counted s n ls e = go (begins_with 1 52 s) refl
  where
    go : (t : Bool) → begins_with 1 52 s ≡ t → (55 ≤ length s) × ((n ≤ 2048) × (length ls ≡ n * 18))
    go true q = (whole 1 52 s q, counted 2048 (rest 52 s) n ls (rw q at e))
    go false q = let f : ill_formed ≡ leaves n ls = rw q at e in clash (cc)

-- a file that is read as a map of n leaves, which ls begins with
pub record Read (s : List ℕ) (n : ℕ) (ls : List ℕ) : Type 0 where
  pub few : n ≤ 2048
  pub long : n * 18 ≤ length ls
  pub text : text_of s ≡ map_text (setup_in s) (take (n * 18) ls) n

-- what the answer of `read_file`, which leaves ls in its buffer, tells of the text
abbrev Told : List ℕ → (Result ℕ Refusal) → List ℕ → Type 0
Told s (Ok n) ls = Read s n ls
Told s (Err k) ls = text_of s ≡ refusal_line (refusal_number k) 0

-- the buffer z that is lent is long enough
holds : (s z : List ℕ) → 36864 ≤ length z → (x : Leaves) → file_of s ≡ x → Told s (result_of x z).answer (result_of x z).leaves
unfolding text_of setup_in
holds s z h ill_formed e = rw e
holds s z h (leaves n ls) e =
    let c = file-counted s n ls e in
    rw (le-leb (length ls) (length z) (omega (arith, c.1.0, c.1.1)))
    (record {
      few = c.1.0;
      long = omega (arith, c.1.1, length-append ls (drop (length ls) z));
      text = rw (e, le-leb 55 (length s) c.0, take_at ls _ (n * 18) c.1.1);
    })

-- the answer x of `read_file`
module _ (s ls : List ℕ) (x : (Result ℕ Refusal)) where
  abbrev Answered : Type 0
  Answered = (x ≡ (read_file s (replicate 36864 0)).answer) × (ls ≡ (read_file s (replicate 36864 0)).leaves)

  told : Answered → Told s x ls
  unfolding read_file
  told e = rw (e.0, e.1) (holds s (replicate 36864 0) (omega (arith, length-replicate {A = ℕ} 36864 0)) (file_of s) refl)

  pub of_map : (n : ℕ) → Answered → x ≡ Ok n → Read s n ls
  of_map n e f = rw f at (told e)

  pub of-refused : (k : Refusal) → Answered → x ≡ Err k → text_of s ≡ refusal_line (refusal_number k) 0
  of-refused k e f = rw f at (told e)

-- the text lies within the buffer
counts : (r : ℕ) (t p o : List ℕ) → r ≡ length t → p ≡ over t o → IsPrefixLen r p
counts r t p o e f =
    let h : r ≤ length p = omega (arith, length-append t (drop (length t) o), ap (λ (l : List ℕ). length l) f) in
    (h, sym (length-take-le r p h))

-- the answer, where the buffer is long enough and where it is not
pub answer : (s o p : List ℕ) (r : ℕ) → 36864 ≤ length o → (r ≡ length (text_of s)) × (p ≡ over (text_of s) o)
    → (r ≡ (written s o).count) × ((p ≡ (written s o).out) × IsPrefixLen r p)
unfolding written
answer s o p r h e = rw (le-ltb (length o) 36864 h) (e.0, (e.1, counts r (text_of s) p o e.0 e.1))

pub short : (s o : List ℕ) → length o < 36864 → (◌≡◌ {A = ℕ} 0 (written s o).count) × ((o ≡ (written s o).out) × IsPrefixLen 0 o)
unfolding written
short s o h = rw (lt-ltb (length o) 36864 h) (refl, (refl, (omega arith, refl)))
