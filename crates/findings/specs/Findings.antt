-- Interface. What ask prints for a line that asks find or findat (docs/FORMAT.md, "Asking line by line").
use Rattle.std.specs.Prelude.{ℕ, List}
use Rattle.text.specs.Ascii.{ascii}
use Rattle.text.specs.Text.{answer_line}
use Rattle.tables.specs.Layout.{encoded}
use Rattle.answer.specs.Answer.{sum, structure_of}
use Rattle.find_at.specs.Found.{Outcome, turned_down, answered}
use Rattle.find_at.specs.FindAt.{outcome_at}
use Rattle.finder.specs.Find.{outcome}
use Rattle.lines.specs.Lines.{refusal_line}
use Rattle.questions.specs.Questions.{bytes_at, number_at, unless_wrong}

-- the answer line of find, and of findat
abbrev pub find_line : Outcome → List ℕ
find_line (turned_down number place) = refusal_line number place
find_line (answered sh e) = answer_line (sum e.sizes) e.codes (encoded (structure_of sh e) sh)

-- find SHEET CODELEN TABLELEN
unfoldable pub find_reply : List ℕ → List ℕ
find_reply line = unless_wrong (ascii "bnn") line (find_line (outcome (bytes_at line 1) (number_at line 2) (number_at line 3)))

-- findat SHEET SIZES CODELEN TABLELEN
unfoldable pub findat_reply : List ℕ → List ℕ
findat_reply line =
    unless_wrong (ascii "bbnn") line (find_line (outcome_at (bytes_at line 1) (bytes_at line 2) (number_at line 3) (number_at line 4)))
