-- Interface. What ask prints for a line that asks sizes (docs/FORMAT.md, "Asking line by line").
use Rattle.std.specs.Prelude.{ℕ, List}
use Rattle.text.specs.Ascii.{ascii}
use Rattle.text.specs.Text.{bytes_line}
use Rattle.answer.specs.Answer.{sum}
use Rattle.sizes.specs.Sizing.{Outcome, turned_down, sized, outcome}
use Rattle.lines.specs.Lines.{refusal_line}
use Rattle.questions.specs.Questions.{bytes_at, number_at, unless_wrong}

-- the answer line of sizes
abbrev pub sizes_line : Outcome → List ℕ
sizes_line (turned_down number place) = refusal_line number place
sizes_line (sized sizes) = bytes_line (ascii "sizes") (sum sizes) sizes

-- sizes SHEET BUFLEN
unfoldable pub sizes_reply : List ℕ → List ℕ
sizes_reply line = unless_wrong (ascii "bn") line (sizes_line (outcome (bytes_at line 1) (number_at line 2)))
