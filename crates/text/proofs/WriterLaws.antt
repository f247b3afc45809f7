-- What a writer holds: one text after another, what of a word fits, and the whole text where all of it fits. Assumes nothing.
use Rattle.std.proofs.Common.{ℕ, zero, suc, ◌+◌, ◌-◌, ◌≤◌, ◌<◌, ◌≡◌, ◌⊎◌, refl, sym, ap, ◌∙◌, List, [], ◌∷◌, ◌++◌, length, take, drop, min, arith, append_assoc, length-append, length-take, length-drop, drop-drop, inl, inr, append-nil}
use Rattle.std.proofs.lemmas.List.{take_at, drop_all, take_min, take_all}
use Rattle.std.proofs.Math.Seq.{drop_at}
use Rattle.std.proofs.lemmas.Bool.{cases_lt}
use Rattle.records.specs.Bytes.{over}
use Rattle.text.specs.Mirror.Writer.{Adds, Holds, kept}
use Rattle.text.specs.declared.writer.Writer.{Writer}

-- the front of two texts
front : (n : ℕ) (t w : List ℕ) → take n (t ++ w) ≡ take n t ++ take (n - length t) w
front zero t w = let z : 0 - length t ≡ 0 = omega arith in rw z
front (suc n) [] w = let z : suc n - 0 ≡ suc n = omega arith in rw z
front (suc n) (x ∷ t) w = let z : suc n - suc (length t) ≡ n - length t = omega arith in rw z (ap (λ (l : List ℕ). x ∷ l) (front n t w))

-- the word w after the text t: m is the buffer that was o, k of it is written, and n bytes of w fit
module _ (o t w m : List ℕ) (k n : ℕ) (e : m ≡ kept t o) (f : k ≡ min (length t) (length o)) (g : n ≡ min (length w) (length m - k)) where
  as_long : length m ≡ length o
  as_long = ap (λ (l : List ℕ). length l) e ∙ simp (length-append, length-take, length-drop) (omega arith)

  before : take k m ≡ take (length o) t
  before = ap (take k) e ∙ take_at (take (length o) t) (drop (length t) o) k (simp length-take (omega (arith, f)))

  after : drop k m ≡ drop (length t) o
  after = ap (drop k) e ∙ drop_at (take (length o) t) (drop (length t) o) k (simp length-take (omega (arith, f)))

  fits : take n w ≡ take (length o - length t) w
  fits = let h : n ≡ min (length o - length t) (length w) = omega (arith, as_long, f, g) in rw h (take_min (length o - length t) w)

  behind : drop n (drop (length t) o) ≡ drop (length (t ++ w)) o
  behind = go (cases_lt (length o - length t) (length w))
    where
      go : (length o - length t < length w) ⊎ (length w ≤ length o - length t) → drop n (drop (length t) o) ≡ drop (length (t ++ w)) o
      go (inl h) =
          drop_all n (drop (length t) o) (simp length-drop (omega (arith, as_long, f, g, h)))
          ∙ sym (drop_all (length (t ++ w)) o (rw (length-append t w) (omega (arith, h))))
      go (inr h) =
          let i : n ≡ length w = omega (arith, as_long, f, g, h) in
          rw (i, length-append t w) (drop-drop (length w) (length t) o)

  pub word-kept : take k m ++ (take n w ++ drop n (drop k m)) ≡ kept (t ++ w) o
  word-kept = rw (before, after, fits, behind, front (length o) t w) (sym (append_assoc (take (length o) t) (take (length o - length t) w) (drop (length (t ++ w)) o)))

  pub word-len : k + n ≡ min (length (t ++ w)) (length o)
  word-len = rw (length-append t w) (omega (arith, as_long, f, g))

-- nothing written
pub none : (p : Writer) → Adds p [] p
none p = record { same = refl; text = λ o t h. rw (append-nil t) h }

-- one text after another
pub then : (p q r : Writer) (v w : List ℕ) → Adds p v q → Adds q w r → Adds p (v ++ w) r
then p q r v w a b =
    record {
      same = b.same ∙ a.same;
      text = λ o t h. rw (← append_assoc t v w) (b.text o (t ++ v) (a.text o t h));
    }

-- a text that fits is held whole
pub whole : (o t : List ℕ) (p : Writer) → length t ≤ length o → Holds o t p → (p.len ≡ length t) × (p.out.now ≡ over t o)
whole o t p f h = (h.len ∙ omega (arith, f), h.out ∙ rw (take_all (length o) t f))
