-- Interface. The words of a line (docs/FORMAT.md, "Asking line by line"), and the bytes or the number that a word stands for.
use Rattle.std.specs.Prelude.{ℕ, zero, suc, ◌+◌, ◌-◌, ◌*◌, ◌%◌, ◌≤◌, min, ◌≡◌, Bool, true, cond, ◌&&◌, List, [], ◌∷◌, length, take, drop, ltb, eqb}
use Rattle.prelude.specs.Bytes.{index_of}

-- Words are separated by single blanks: two blanks in a row have an empty word between them.
abbrev pub blank : ℕ
blank = 32

-- what stands in front of the first blank, and what stands after it
abbrev pub first_word : List ℕ → List ℕ
first_word line = take (index_of blank line) line

abbrev pub later_words : List ℕ → List ℕ
later_words line = drop (suc (index_of blank line)) line

-- word k of a line, the first being word 0; empty where the line has fewer
abbrev pub word_at : List ℕ → ℕ → List ℕ
word_at line zero = first_word line
word_at line (suc k) = word_at (later_words line) k

-- how many words a line has: one more than blanks
abbrev pub many : List ℕ → ℕ
many [] = 1
many (c ∷ line) = cond (eqb c blank) (suc (many line)) (many line)

-- the value of a digit: `0` to `9`, then `A` to `F` or `a` to `f`; 16 where the character is no digit
unfoldable pub digit_of : ℕ → ℕ
digit_of c =
    cond (ltb c 48) 16
    (cond (ltb c 58) (c - 48)
    (cond (ltb c 65) 16
    (cond (ltb c 71) (c - 55)
    (cond (ltb c 97) 16
    (cond (ltb c 103) (c - 87) 16)))))

-- one digit or more, all below the base
abbrev pub all_digits : ℕ → List ℕ → Bool
all_digits base [] = true
all_digits base (c ∷ word) = ltb (digit_of c) base && all_digits base word

unfoldable pub is_numeral : ℕ → List ℕ → Bool
is_numeral base word = ltb 0 (length word) && all_digits base word

-- the bytes of a word of hexadecimal digits, two digits a byte; `-` has none
abbrev pub bytes_of : List ℕ → List ℕ
bytes_of [] = []
bytes_of (a ∷ []) = []
bytes_of (a ∷ (b ∷ word)) = (digit_of a % 16 * 16 + digit_of b % 16) ∷ bytes_of word

-- the number of a word of decimal digits; one that is too large for the machine counts as the largest
abbrev pub largest : ℕ
largest = 18446744073709551615

abbrev pub number_from : ℕ → List ℕ → ℕ
number_from value [] = value
number_from value (c ∷ word) = number_from (min (value * 10 + digit_of c) largest) word

abbrev pub number_of : List ℕ → ℕ
number_of word = number_from 0 word

-- the bytes of a word stand in front of the buffer d, and there are r of them
pub record Decoded (word d : List ℕ) (r : ℕ) : Type 0 where
  pub many : r ≡ length (bytes_of word)
  pub within : r ≤ length d
  pub front : take r d ≡ bytes_of word
