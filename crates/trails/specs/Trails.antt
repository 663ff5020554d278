-- Interface. What ask prints for a line that asks walk (docs/FORMAT.md, "Asking line by line").
use Rattle.std.specs.Prelude.{ℕ, List, length}
use Rattle.text.specs.Ascii.{ascii}
use Rattle.text.specs.Text.{bytes_line}
use Rattle.walk.specs.Walk.{Outcome, turned_down, walked, outcome}
use Rattle.lines.specs.Lines.{refusal_line}
use Rattle.questions.specs.Questions.{bytes_at, number_at, unless_wrong}

-- the answer line of walk
abbrev pub walk_line : Outcome → List ℕ
walk_line (turned_down number place) = refusal_line number place
walk_line (walked codes) = bytes_line (ascii "trail") (length codes) codes

-- walk SHEET TABLES FIELD CODE EVENTS TRAILLEN START
unfoldable pub walk_reply : List ℕ → List ℕ
walk_reply line =
    unless_wrong (ascii "bbnnbnn") line
    (walk_line (outcome (bytes_at line 1) (bytes_at line 2) (number_at line 3) (number_at line 4) (bytes_at line 5) (number_at line 6) (number_at line 7)))
