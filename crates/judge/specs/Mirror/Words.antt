-- What the list reads from the words of its leaves, and the words by groups. Nothing here needs to be believed: `word-clear` and `word-refused` of
-- proofs/LeafWords tie the words to `leaf_rights` and `cause_at`, `direct-gives`, `indirect-gives` and `off-gives` of proofs/GroupWords the groups to the words. Assumes nothing.
use Rattle.std.specs.Prelude.{ℕ, zero, suc, ◌+◌, ◌*◌, ◌/◌, ◌%◌, ◌^◌, ◌<◌, ◌≡◌, Bool, true, ◌&&◌, List, eqb, get_or, set}
use Rattle.std.specs.Int.Bits.{bit_or, bit_xor}
use Rattle.records.specs.Descriptor.{stage1_of, stage2_of}
use Rattle.records.specs.Leaf.{leaf_at}
use Rattle.records.specs.Mirror.Places.{leaf_places}
use Rattle.records.specs.declared.descriptor.places.LeafPlaces.{LeafPlaces}
use Rattle.records.specs.declared.descriptor.places.Places.{Places}
use Rattle.records.specs.declared.leaf.Leaf.{Leaf}
use Rattle.records.specs.declared.setup.Setup.{Setup}
use Rattle.rights.specs.Mirror.Parts.{known_part, leaf_word}
use Rattle.rights.specs.Mirror.Words.{Word, joined, number_of}
use Rattle.attributes.specs.Mirror.Known.{passes}
use Rattle.attributes.specs.Order.{check_of}
use Rattle.judge.specs.declared.fill.LeafWord.{LeafWord}

-- the marks of a word's number: not 0 in bits 0 to 7 or from 14 on exactly where an access is open and not good, or base codes are refused
unfoldable pub marks_in : ℕ → ℕ
marks_in w = bit_xor (w / 2 ^ 48) (w / 2 ^ 56)

-- not 0 exactly where m has a mark (in bits 0 to 7 or from 14 on), or limits l or forbidden bits f are too high
abbrev pub total : ℕ → ℕ → ℕ → ℕ
total m l f = bit_or (bit_or (m % 2 ^ 8) (m / 2 ^ 14)) (bit_or (l / 2 ^ 4) (f / 2 ^ 6))

-- the mark of a leaf whose word has number w: not 0 exactly where it is refused
abbrev pub mark_of : ℕ → Leaf → ℕ
mark_of w f = total (marks_in w) f.limits f.forbidden

-- the attribute steps refuse no access of a leaf
abbrev pub known_of : Setup → Leaf → Bool
known_of s f = passes (check_of s (stage1_of f.stage1) (stage2_of f.stage2))

-- the word of a leaf, with what is known of its memory
abbrev pub word_of : Setup → Leaf → Word
word_of s f = joined (known_part (known_of s f)) (leaf_word s f)

-- the rights in the number of a word that has no mark, and the cause of access a
abbrev pub rights_in : ℕ → ℕ
rights_in w = w / 2 ^ 48 % 2 ^ 8

abbrev pub cause_in : ℕ → ℕ → ℕ
cause_in w a = w / 2 ^ (8 * a) % 256

-- of leaf i: the number of its word, and its mark
unfoldable pub word_at : Setup → List ℕ → ℕ → ℕ
word_at s ls i = number_of (word_of s (leaf_at ls i))

unfoldable pub mark_at : Setup → List ℕ → ℕ → ℕ
mark_at s ls i = mark_of (word_at s ls i) (leaf_at ls i)

-- no leaf before leaf n is marked
abbrev pub clear : Setup → List ℕ → ℕ → Bool
clear s ls zero = true
clear s ls (suc n) = clear s ls n && eqb (mark_at s ls n) 0

-- n leaves' rights, and their causes
abbrev pub Found : Setup → List ℕ → ℕ → List ℕ → List ℕ → Type 0
Found s ls n rights causes =
    ((i : ℕ) → i < n → get_or rights i 0 ≡ rights_in (word_at s ls i)) × ((k : ℕ) → k < 6 * n → get_or causes k 0 ≡ cause_in (word_at s ls (k / 6)) (k % 6))

-- the eight bytes of a word's number put into a buffer from index k on: its six causes, and two bytes that the next leaf writes over
unfoldable pub put_at : List ℕ → ℕ → ℕ → List ℕ
put_at v k w =
    set (set (set (set (set (set (set (set v k (cause_in w 0)) (k + 1) (cause_in w 1)) (k + 2) (cause_in w 2)) (k + 3) (cause_in w 3)) (k + 4) (cause_in w 4)) (k + 5) (cause_in w 5)) (k + 6) (cause_in w 6))
    (k + 7) (cause_in w 7)

-- what is read of leaf i
abbrev pub found_at : Setup → List ℕ → ℕ → LeafWord
found_at s ls i = record { word = word_at s ls i; limits = (leaf_at ls i).limits; forbidden = (leaf_at ls i).forbidden }

-- by groups: the word of a leaf at its places, where `first` and `second` are what the stages make of their descriptors
abbrev pub groups_at : (Places → ℕ → ℕ → ℕ) → (Places → ℕ) → LeafPlaces → ℕ
groups_at first second f = first f.stage1 f.limits (second f.stage2)

-- the numbers that g gives at the places of leaves are those of their words
abbrev pub Gives : Setup → (LeafPlaces → ℕ) → Type 0
Gives s g = (f : Leaf) → g (leaf_places f) ≡ number_of (word_of s f)
