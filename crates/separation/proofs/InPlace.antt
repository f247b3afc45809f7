-- A setup's bytes with a register in place of a level's POR are read as the setup with that register in place. Assumes nothing.
use mathlib.Core.Path.{◌≡◌, refl, ap, ◌∙◌}
use mathlib.Core.List.{List, [], ◌∷◌}
use Prim.Native.Nat.{ℕ, ◌^◌, ◌<◌}
use native.Mathlib.Omega.{arith}
use lib.ListN.{length, get_or}
use borrow.Author.Tests.{eq-eqb}
use Rattle.records.proofs.Cases.{upto}
use Rattle.records.specs.Bytes.{le64}
use Rattle.records.specs.Setup.{words_of, setup_from, setup_of, read_setup}
use Rattle.records.specs.declared.access.Level.{Level}
use Rattle.records.specs.declared.access.Level.TheVariants.{Privileged, Unprivileged}
use Rattle.records.specs.declared.setup.PerLevel.{PerLevel}
use Rattle.records.specs.declared.setup.Setup.{Setup}
use Rattle.rights.specs.Promise.{put}
use Rattle.judge.specs.Cases.{bytes_of}
use Rattle.separation.specs.Separation.{with_por}
use Rattle.std.specs.Prelude.{Ok}

-- a list is its bytes, one by one
spelled : (b : List ℕ) → b ≡ upto (length b) (λ (i : ℕ). get_or b i 0)
spelled [] = refl
spelled (x ∷ b) = ap (λ (c : List ℕ). x ∷ c) (spelled b)

-- a register is read back from its bytes
read_back : (r : ℕ) → r < 2 ^ 64 → le64 (bytes_of 8 r) 0 ≡ r
unfolding le64
read_back r h = omega arith

-- the setup of bytes whose PORs are these
abbrev with-pors : (ℕ → ℕ) → PerLevel ℕ → Setup
with-pors f p = let s = setup_of (upto 52 f) in record { control = s.control; mair = s.mair; mair2 = s.mair2; pir = s.pir; por = p }

in_place : (f : ℕ → ℕ) (l : Level) (r : ℕ) → r < 2 ^ 64 → setup_of (with_por (upto 52 f) l r) ≡ put (setup_of (upto 52 f)) l r
unfolding setup_of setup_from words_of le64
in_place f Privileged r h =
    ap (λ (q : ℕ). with-pors f (record { privileged = q; unprivileged = (setup_of (upto 52 f)).por.unprivileged })) (read_back r h)
in_place f Unprivileged r h =
    ap (λ (q : ℕ). with-pors f (record { privileged = (setup_of (upto 52 f)).por.privileged; unprivileged = q })) (read_back r h)

-- a setup stays 52 bytes long
same_length : (f : ℕ → ℕ) (l : Level) (r : ℕ) → length (with_por (upto 52 f) l r) ≡ 52
same_length f Privileged r = refl
same_length f Unprivileged r = refl

pub put-read : (b : List ℕ) (l : Level) (r : ℕ) → length b ≡ 52 → r < 2 ^ 64 → read_setup (with_por b l r) ≡ Ok (put (setup_of b) l r)
unfolding read_setup
put-read b l r e h =
    let z : b ≡ upto 52 (λ (i : ℕ). get_or b i 0) = spelled b ∙ ap (λ (n : ℕ). upto n (λ (i : ℕ). get_or b i 0)) e in
    go (λ (i : ℕ). get_or b i 0) z
  where
    go : (f : ℕ → ℕ) → b ≡ upto 52 f → read_setup (with_por b l r) ≡ Ok (put (setup_of b) l r)
    go f z = rw (z, eq-eqb _ _ (same_length f l r), in_place f l r h)
