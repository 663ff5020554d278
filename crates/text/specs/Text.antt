-- Interface. The lines that the programs print (docs/FORMAT.md, "The find program" and "Asking line by line"), as bytes.
use Rattle.std.specs.Prelude.{ℕ, zero, suc, ◌+◌, ◌/◌, ◌%◌, true, false, cond, List, [], ◌∷◌, ◌++◌, ltb}
use Rattle.text.specs.Ascii.{ascii}

-- the decimal digits of a number, at most k of them
abbrev pub digits : ℕ → ℕ → List ℕ
digits zero n = []
digits (suc k) n = elim (ltb n 10) [ true ↦ (48 + n) ∷ [] | false ↦ digits k (n / 10) ++ ((48 + n % 10) ∷ []) ]

-- the decimal digits of a number
unfoldable pub decimal : ℕ → List ℕ
decimal n = digits (suc n) n

abbrev pub space : ℕ
space = 32

abbrev pub line_feed : List ℕ
line_feed = 10 ∷ []

-- each number after a space
abbrev pub spaced : List ℕ → List ℕ
spaced [] = []
spaced (n ∷ ns) = (space ∷ decimal n) ++ spaced ns

-- `found`, `refused`, `field`, `name`
abbrev pub found_word : List ℕ
found_word = 102 ∷ 111 ∷ 117 ∷ 110 ∷ 100 ∷ []

abbrev pub refused_word : List ℕ
refused_word = 114 ∷ 101 ∷ 102 ∷ 117 ∷ 115 ∷ 101 ∷ 100 ∷ []

abbrev pub field_word : List ℕ
field_word = 102 ∷ 105 ∷ 101 ∷ 108 ∷ 100 ∷ []

abbrev pub name_word : List ℕ
name_word = 110 ∷ 97 ∷ 109 ∷ 101 ∷ []

-- a line: a word, and numbers after it
abbrev pub line : List ℕ → List ℕ → List ℕ
line word ns = word ++ (spaced ns ++ line_feed)

-- the line of a bundle's answer: the sums, and what is left of the limit
abbrev pub sums_line : List ℕ → ℕ → List ℕ
sums_line sums left = ascii "sums" ++ (spaced sums ++ line (ascii " left") (left ∷ []))

-- a digit below 16 as a character: `0` to `9`, then `a` to `f`
abbrev pub hex_digit : ℕ → ℕ
hex_digit d = cond (ltb d 10) (48 + d) (87 + d)

-- bytes in hexadecimal, two digits each
abbrev pub hex : List ℕ → List ℕ
hex [] = []
hex (b ∷ bs) = hex_digit (b / 16) ∷ (hex_digit (b % 16) ∷ hex bs)

-- bytes as a word: `-` where there are none
abbrev pub shown : List ℕ → List ℕ
shown [] = 45 ∷ []
shown (b ∷ bs) = hex (b ∷ bs)

-- a line of a word, a number, and bytes
abbrev pub bytes_line : List ℕ → ℕ → List ℕ → List ℕ
bytes_line word n bytes = word ++ (spaced (n ∷ []) ++ ((space ∷ shown bytes) ++ line_feed))

-- the line of an answer whole: the sum of the sizes, the codes, the tables
abbrev pub answer_line : ℕ → List ℕ → List ℕ → List ℕ
answer_line sum codes tables =
    found_word ++ (spaced (sum ∷ []) ++ ((space ∷ shown codes) ++ ((space ∷ shown tables) ++ line_feed)))
