-- One pass over a leaf by words: what each field of a leaf keeps of the six accesses, what it takes away and for which cause. A word has in byte a the
-- cause of access a; in bits 48 to 53 the accesses that are open, which have a right or meet a refusal; in bits 56 to 61 the accesses that are good, open and not
-- refused; in bits 54, 55 and 62 what refuses a pair of base codes. So an access is refused where it is open and not good. Nothing here needs to be believed:
-- `word-law` of proofs/WordLaws says that a leaf's word gives the answers of its accesses. Assumes nothing.
use Rattle.std.specs.Prelude.{ℕ, zero, suc, Bool, true, false, cond, not, ◌&&◌, ◌||◌, List, [], ◌∷◌}
use Rattle.records.specs.Access.{accesses}
use Rattle.records.specs.Bits.{bit}
use Rattle.records.specs.Mirror.BitLists.{bits}
use Rattle.records.specs.declared.access.Access.{Access}
use Rattle.rights.specs.declared.words.pair.Pair.{Pair}

-- of each access its right, whether it meets a refusal, and what took the right away; whether the privileged base code is refused, the unprivileged one,
-- and both for px with uw; and whether the memory is known
pub record Word : Type 0 where
  pub right : Access → Bool
  pub meets : Access → Bool
  pub cause : Access → ℕ
  pub codes : ℕ → Bool
  pub known : Bool

-- what a field does: the accesses that it keeps, those that meet a refusal at it, and the causes of the others
pub record Part : Type 0 where
  pub keeps : Access → Bool
  pub meets : Access → Bool
  pub cause : Access → ℕ
  pub codes : ℕ → Bool
  pub known : Bool

-- nothing is taken away
abbrev pub whole : Word
whole = record { right = λ (a : Access). true; meets = λ (a : Access). false; cause = λ (a : Access). 0; codes = λ (j : ℕ). true; known = true }

-- a field before what follows it
abbrev pub joined : Part → Word → Word
joined p w = record {
  right = λ (a : Access). p.keeps a && w.right a;
  meets = λ (a : Access). p.meets a || (p.keeps a && w.meets a);
  cause = λ (a : Access). cond (p.keeps a) (w.cause a) (p.cause a);
  codes = λ (j : ℕ). p.codes j && w.codes j;
  known = p.known && w.known;
}

-- a byte for each access, and a bit for each
abbrev pub over : List Access → (Access → List Bool → List Bool) → List Bool → List Bool
over [] f l = l
over (a ∷ more) f l = f a (over more f l)

abbrev pub lanes : (Access → List Bool → List Bool) → List Bool → List Bool
lanes = over accesses

abbrev pub six_bits : (Access → Bool) → List Bool → List Bool
six_bits f = lanes (λ (a : Access) (l : List Bool). f a ∷ l)

-- a number below 16 as a byte; and a byte whose bits are alike
abbrev pub byte : ℕ → List Bool → List Bool
byte n l = bit n 0 ∷ bit n 1 ∷ bit n 2 ∷ bit n 3 ∷ false ∷ false ∷ false ∷ false ∷ l

abbrev pub alike : Bool → List Bool → List Bool
alike b l = b ∷ b ∷ b ∷ b ∷ b ∷ b ∷ b ∷ b ∷ l

-- an access is open, and good
abbrev pub opens : Word → Access → Bool
opens w a = w.right a || w.meets a

abbrev pub is_good : Word → Access → Bool
is_good w a = (w.right a && not (w.meets a)) && w.known

-- a field keeps an access good
abbrev pub keeps_good : Part → Access → Bool
keeps_good p a = (p.keeps a && not (p.meets a)) && p.known

abbrev pub word_bits : Word → List Bool
word_bits w = lanes (λ (a : Access). byte (w.cause a)) (six_bits (opens w) (w.codes 0 ∷ w.codes 1 ∷ six_bits (is_good w) (w.codes 2 ∷ [])))

abbrev pub keep_bits : Part → List Bool
keep_bits p = lanes (λ (a : Access). alike (p.keeps a)) (six_bits p.keeps (p.codes 0 ∷ p.codes 1 ∷ six_bits (keeps_good p) (p.codes 2 ∷ [])))

abbrev pub take_bits : Part → List Bool
take_bits p = lanes (λ (a : Access). byte (cond (p.keeps a) 0 (p.cause a))) (six_bits p.meets [])

-- as numbers
unfoldable pub number_of : Word → ℕ
number_of w = bits (word_bits w)

unfoldable pub keep_of : Part → ℕ
keep_of p = bits (keep_bits p)

unfoldable pub take_of : Part → ℕ
take_of p = bits (take_bits p)

-- what a field keeps and takes away as a pair of numbers, and a table of n fields
abbrev pub pair_of : Part → Pair
pair_of p = record { keeps = keep_of p; takes = take_of p }

abbrev pub pairs : ℕ → (ℕ → Part) → List Pair
pairs zero f = []
pairs (suc n) f = pair_of (f 0) ∷ pairs n (λ (k : ℕ). f (suc k))
