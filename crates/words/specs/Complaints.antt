-- Interface. What is wrong with the words of a question (docs/FORMAT.md, "Asking line by line").
use Rattle.std.specs.Prelude.{ℕ, suc, ◌%◌, Bool, true, false, cond, List, [], ◌∷◌, length, ltb, eqb, Result, Ok, Err, ⊤}
use Rattle.prelude.specs.Tests.{same_list}
use Rattle.words.specs.Words.{word_at, many, is_numeral, number_of}
use Rattle.words.specs.declared.Complaint.{Complaint}
use Rattle.words.specs.declared.Complaint.TheVariants.{TooFew, TooMany, NotHexadecimal, OddDigits, NotNumber, AboveByte}

-- a complaint, or none
abbrev pub Complaining : Type 0
Complaining = Result ⊤ Complaint

abbrev pub fine : Complaining
fine = Ok tt

abbrev pub is_wrong : Complaining → Bool
is_wrong (Ok x) = false
is_wrong (Err c) = true

-- the first of two that is a complaint
abbrev pub or_else : Complaining → Complaining → Complaining
or_else c d = cond (is_wrong c) c d

-- `-`
abbrev pub dash : List ℕ
dash = 45 ∷ []

-- what is wrong with word k where bytes are asked, where a number is, and where a limit is: a number that a byte holds
unfoldable pub wrong_bytes : ℕ → List ℕ → Complaining
wrong_bytes k word =
    cond (same_list word dash) fine
    (cond (is_numeral 16 word) (cond (eqb (length word % 2) 1) (Err (OddDigits k)) fine) (Err (NotHexadecimal k)))

unfoldable pub wrong_number : ℕ → List ℕ → Complaining
wrong_number k word = cond (is_numeral 10 word) fine (Err (NotNumber k))

abbrev pub greatest_limit : ℕ
greatest_limit = 255

unfoldable pub wrong_limit : ℕ → List ℕ → Complaining
wrong_limit k word =
    cond (is_numeral 10 word) (cond (ltb greatest_limit (number_of word)) (Err (AboveByte k)) fine) (Err (NotNumber k))

-- a kind is `b` for bytes, `l` for a limit, and any other for a number
unfoldable pub wrong_word : ℕ → ℕ → List ℕ → Complaining
wrong_word kind k word =
    cond (eqb kind 98) (wrong_bytes k word) (cond (eqb kind 108) (wrong_limit k word) (wrong_number k word))

-- the first complaint on the words from the one with index k on, word 1 being that with index 0
abbrev pub wrong_words : List ℕ → ℕ → List ℕ → Complaining
wrong_words [] k line = fine
wrong_words (kind ∷ kinds) k line = or_else (wrong_word kind (suc k) (word_at line k)) (wrong_words kinds (suc k) line)

-- THE COMPLAINT on a line whose words behind the verb are to be of these kinds: their number first, then each in its order
unfoldable pub complaint_of : List ℕ → List ℕ → Complaining
complaint_of kinds line =
    cond (ltb (length kinds) (many line))
    (cond (ltb (suc (length kinds)) (many line)) (Err TooMany) (wrong_words kinds 1 line))
    (Err TooFew)
