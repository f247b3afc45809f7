-- Document 01, 'File, program, host': what the lines of the program's text are made of, words and numbers as ASCII text. Assumes nothing.
use Prim.Native.Char.{code}
use Rattle.std.specs.Prelude.{ℕ, zero, suc, ◌/◌, ◌%◌, cond, ◌&&◌, List, [], ◌∷◌, ◌++◌, leb, ltb}
use Prim.Native.String.{String}
use Prim.Native.String as string
use Rattle.std.specs.Int.Bits.{bit_and}
use Rattle.io.specs.Digits.{hex_digit_ascii, last_digits}

-- the bytes of a quoted text
abbrev pub ascii : String → List ℕ
ascii string.[] = []
ascii (string.◌∷◌ c s) = code c ∷ ascii s

-- the decimal digits of n, without leading zeros, where `most` digits are enough
abbrev pub decimal_of : ℕ → ℕ → List ℕ
decimal_of zero n = []
decimal_of (suc most) n = cond (ltb n 10) (hex_digit_ascii n ∷ []) (decimal_of most (n / 10) ++ (hex_digit_ascii (n % 10) ∷ []))

-- a 64-bit number in decimal: 20 digits are enough
unfoldable pub decimal : ℕ → List ℕ
decimal n = decimal_of 20 n

-- a register as 16 hex digits
unfoldable pub hex16 : ℕ → List ℕ
hex16 r = last_digits 16 16 r

-- a number and what follows it
abbrev pub number_then : ℕ → List ℕ → List ℕ
number_then n w = decimal n ++ w

-- a word, then a number that ends the line
abbrev pub last_number : List ℕ → ℕ → List ℕ
last_number w n = w ++ number_then n (ascii "\n")

-- `refused 13` or `refused 6 leaf 1`: refusals 5 to 10 show the leaf
unfoldable pub refusal_line : ℕ → ℕ → List ℕ
refusal_line k i =
    ascii "refused "
    ++ cond (leb 5 k && leb k 10) (number_then k (ascii " ") ++ last_number (ascii "leaf ") i) (number_then k (ascii "\n"))

-- per leaf index, rights, forbidden and their common bits in decimal
unfoldable pub leaf_line : ℕ → ℕ → ℕ → List ℕ
leaf_line i r f =
    number_then i (ascii " ")
    ++ (number_then r (ascii " ") ++ (number_then f (ascii " ") ++ number_then (bit_and r f) (ascii "\n")))

-- a register as 16 hex digits
abbrev pub register_line : ℕ → List ℕ
register_line r = hex16 r ++ ascii "\n"
