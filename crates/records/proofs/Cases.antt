-- Laws that turn one computation over a finite domain into the equation at each of its values: all numbers below k, both truth
-- values, and all lists of n truth values or binary digits. A table's rule and a rule over truth values
-- are proved by them, with `refl`. And what a test of two parts tells, and that different constructors are never equal. Assumes nothing.
use mathlib.Core.Path.{◌≡◌, refl}
use mathlib.Core.Bool.{Bool, true, false, ◌&&◌}
use mathlib.Core.List.{List, [], ◌∷◌}
use Prim.Native.Nat.{ℕ, zero, suc, ◌%◌, ◌<◌}
use native.Mathlib.Omega.{arith}
use native.Mathlib.Nat.{le_of_suc-le-suc, not-suc-le-zero, mod-lt, zero-lt-suc}
use lib.ListN.{length, get_or}

-- where an equation has different constructors on its sides, `clash (cc)` proves anything
pub clash : {A : Type 0} → ◌≡◌ {A = ℕ} 0 1 → A
clash z = absurd (omega arith)

-- f at 0, 1, .. up to k - 1
abbrev pub upto : {A : Type 0} → ℕ → (ℕ → A) → List A
upto zero f = []
upto (suc k) f = f 0 ∷ upto k (λ (n : ℕ). f (suc n))

head : {A : Type 0} {x y : A} {xs ys : List A} → x ∷ xs ≡ y ∷ ys → x ≡ y
head e = cc

tail : {A : Type 0} {x y : A} {xs ys : List A} → x ∷ xs ≡ y ∷ ys → xs ≡ ys
tail e = cc

-- two functions that agree below k agree at each number below k
pub at : {A : Type 0} (k : ℕ) (f g : ℕ → A) → upto k f ≡ upto k g → (n : ℕ) → n < k → f n ≡ g n
at zero f g e n h = absurd (not-suc-le-zero h)
at (suc k) f g e zero h = head e
at (suc k) f g e (suc n) h = at k (λ (m : ℕ). f (suc m)) (λ (m : ℕ). g (suc m)) (tail e) n (le_of_suc-le-suc h)

-- f at false and at true
abbrev pub both : {A : Type 0} → (Bool → A) → List A
both f = f false ∷ f true ∷ []

-- two functions that agree at false and at true agree at each truth value
pub at_both : {A : Type 0} (f g : Bool → A) → both f ≡ both g → (t : Bool) → f t ≡ g t
at_both f g e false = head e
at_both f g e true = head (tail e)

-- two tests that hold together hold each
pub both_hold : (a b : Bool) → (a && b) ≡ true → (a ≡ true) × (b ≡ true)
both_hold true true e = (refl, refl)
both_hold true false e = (refl, e)
both_hold false b e = (e, cc)

-- the values of a function at all lists of n truth values
pub data Tree (A : Type 0) : Type 0 where
  value : A → Tree A
  fork : Tree A → Tree A → Tree A

abbrev pub tree : {A : Type 0} → ℕ → (List Bool → A) → Tree A
tree zero f = value (f [])
tree (suc n) f = fork (tree n (λ (l : List Bool). f (true ∷ l))) (tree n (λ (l : List Bool). f (false ∷ l)))

same-value : {A : Type 0} {x y : A} → value x ≡ value y → x ≡ y
same-value e = cc

same_left : {A : Type 0} {a b c d : Tree A} → fork a b ≡ fork c d → a ≡ c
same_left e = cc

same-right : {A : Type 0} {a b c d : Tree A} → fork a b ≡ fork c d → b ≡ d
same-right e = cc

-- two functions that agree at all lists of as many truth values as l has agree at l
pub each : {A : Type 0} (l : List Bool) (f g : List Bool → A) → tree (length l) f ≡ tree (length l) g → f l ≡ g l
each [] f g e = same-value e
each (true ∷ l) f g e = each l (λ (m : List Bool). f (true ∷ m)) (λ (m : List Bool). g (true ∷ m)) (same_left e)
each (false ∷ l) f g e = each l (λ (m : List Bool). f (false ∷ m)) (λ (m : List Bool). g (false ∷ m)) (same-right e)

-- entry j of a list of truth values
abbrev pub nth : List Bool → ℕ → Bool
nth v j = get_or v j false

-- binary digits of numbers, one for each
abbrev pub digits : List ℕ → List ℕ
digits [] = []
digits (n ∷ l) = n % 2 ∷ digits l

-- the values of a function at all lists of n binary digits
abbrev pub digit_tree : {A : Type 0} → ℕ → (List ℕ → A) → Tree A
digit_tree zero f = value (f [])
digit_tree (suc n) f = fork (digit_tree n (λ (l : List ℕ). f (0 ∷ l))) (digit_tree n (λ (l : List ℕ). f (1 ∷ l)))

digit : {A : Type 0} (f g : ℕ → A) → f 0 ≡ g 0 → f 1 ≡ g 1 → (n : ℕ) → n < 2 → f n ≡ g n
digit f g p q zero h = p
digit f g p q (suc zero) h = q
digit f g p q (suc (suc n)) h = absurd (not-suc-le-zero (le_of_suc-le-suc (le_of_suc-le-suc h)))

-- two functions that agree at all lists of as many binary digits as l has agree at the digits of l
pub each-digit : {A : Type 0} (l : List ℕ) (f g : List ℕ → A) → digit_tree (length l) f ≡ digit_tree (length l) g → f (digits l) ≡ g (digits l)
each-digit [] f g e = same-value e
each-digit (n ∷ l) f g e =
    digit (λ (m : ℕ). f (m ∷ digits l)) (λ (m : ℕ). g (m ∷ digits l))
    (each-digit l (λ (k : List ℕ). f (0 ∷ k)) (λ (k : List ℕ). g (0 ∷ k)) (same_left e))
    (each-digit l (λ (k : List ℕ). f (1 ∷ k)) (λ (k : List ℕ). g (1 ∷ k)) (same-right e))
    (n % 2) (mod-lt n (zero-lt-suc 1))
