-- Interface. What ask prints for a line that asks fitted (docs/FORMAT.md, "Asking line by line").
use Rattle.std.specs.Prelude.{ℕ, List, length}
use Rattle.text.specs.Ascii.{ascii}
use Rattle.text.specs.Text.{bytes_line}
use Rattle.layout.specs.Encode.{encode}
use Rattle.fitted.specs.Filing.{Filing, turned_down, filed, outcome}
use Rattle.lines.specs.Lines.{refusal_line}
use Rattle.questions.specs.Questions.{bytes_at, number_at, unless_wrong}

-- the answer line of fitted
abbrev pub fitted_line : Filing → List ℕ
fitted_line (turned_down number place) = refusal_line number place
fitted_line (filed new) = bytes_line (ascii "sheet") (length (encode new)) (encode new)

-- fitted SHEET BUFLEN
unfoldable pub fitted_reply : List ℕ → List ℕ
fitted_reply line = unless_wrong (ascii "bn") line (fitted_line (outcome (bytes_at line 1) (number_at line 2)))
