-- Interface. The answer lines (docs/FORMAT.md, "Asking line by line") of what is wrong with a line, and of read, judge, forced, group and table of a name. The
-- others stand with their questions: of walk in trails, of sizes in sizings, of find and findat in findings, of fitted in filings, of bundle in bundlings.
use Rattle.std.specs.Prelude.{ℕ, Bool, true, false, cond, List, [], ◌∷◌, eqb, Result, Ok, Err}
use Rattle.prelude.specs.Causes.{number_of}
use Rattle.prelude.specs.declared.refusal.Refusal.{Refusal}
use Rattle.text.specs.Ascii.{ascii}
use Rattle.text.specs.Text.{line, refused_word}
use Rattle.words.specs.declared.Complaint.{Complaint}
use Rattle.words.specs.declared.Complaint.TheVariants.{TooFew, TooMany, NotHexadecimal, OddDigits, NotNumber, AboveByte}
use Rattle.tables.specs.declared.Judgement.{Judgement}
use Rattle.tables.specs.declared.Judgement.TheVariants.{Fits, OutOfBounds, Broken}

-- a line without a number
abbrev pub plain_line : List ℕ → List ℕ
plain_line text = line text []

-- `refused`, the number, the place
abbrev pub refusal_line : ℕ → ℕ → List ℕ
refusal_line number place = line refused_word (number ∷ (place ∷ []))

-- what is wrong with a line: `? ` and what; the word's number last
abbrev pub empty_line : List ℕ
empty_line = plain_line (ascii "? empty line")

abbrev pub long_line : List ℕ
long_line = plain_line (ascii "? the line is too long")

abbrev pub unknown_line : List ℕ
unknown_line = plain_line (ascii "? unknown verb")

abbrev pub complaint_line : Complaint → List ℕ
complaint_line TooFew = plain_line (ascii "? too few words")
complaint_line TooMany = plain_line (ascii "? too many words")
complaint_line (NotHexadecimal k) = line (ascii "? not hexadecimal: word") (k ∷ [])
complaint_line (OddDigits k) = line (ascii "? an odd number of hexadecimal digits: word") (k ∷ [])
complaint_line (NotNumber k) = line (ascii "? not a number: word") (k ∷ [])
complaint_line (AboveByte k) = line (ascii "? above 255: word") (k ∷ [])

-- read
abbrev pub verdict_line : Result (Unit {0}) Refusal → List ℕ
verdict_line (Ok u) = plain_line (ascii "accepted")
verdict_line (Err r) = refusal_line (number_of r.cause) r.place

-- judge
abbrev pub judgement_line : Result Judgement Refusal → List ℕ
judgement_line (Ok Fits) = plain_line (ascii "fits")
judgement_line (Ok OutOfBounds) = plain_line (ascii "out of bounds")
judgement_line (Ok (Broken k)) = line (ascii "broken") (k ∷ [])
judgement_line (Err r) = refusal_line (number_of r.cause) r.place

-- forced
abbrev pub forcing_line : Result Bool Refusal → List ℕ
forcing_line (Ok true) = plain_line (ascii "yes")
forcing_line (Ok false) = plain_line (ascii "no")
forcing_line (Err r) = refusal_line (number_of r.cause) r.place

-- group
abbrev pub grouping_line : Result ℕ Refusal → List ℕ
grouping_line (Ok k) = line (ascii "group") (k ∷ [])
grouping_line (Err r) = refusal_line (number_of r.cause) r.place

-- table of a name
abbrev pub stretch_line : ℕ → ℕ → List ℕ
stretch_line start many = cond (eqb many 0) (plain_line (ascii "empty")) (line (ascii "stretch") (start ∷ (many ∷ [])))
