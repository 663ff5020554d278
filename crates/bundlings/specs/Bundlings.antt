-- Interface. What ask prints for a line that asks bundle (docs/FORMAT.md, "Asking line by line").
use Rattle.std.specs.Prelude.{ℕ, List, Result, Ok, Err}
use Rattle.prelude.specs.Causes.{number_of}
use Rattle.prelude.specs.declared.refusal.Refusal.{Refusal}
use Rattle.text.specs.Ascii.{ascii}
use Rattle.text.specs.Text.{sums_line}
use Rattle.bundle.specs.Bundle.{bundling, answered}
use Rattle.bundle.specs.declared.Shares.{Shares}
use Rattle.lines.specs.Lines.{refusal_line}
use Rattle.questions.specs.Questions.{bytes_at, number_at, unless_wrong}

-- the answer line of bundle
abbrev pub bundling_line : Result Shares Refusal → List ℕ
bundling_line (Ok shares) = sums_line shares.sums shares.left
bundling_line (Err r) = refusal_line (number_of r.cause) r.place

-- bundle BUNDLE LIMIT
unfoldable pub bundle_reply : List ℕ → List ℕ
bundle_reply line = unless_wrong (ascii "bl") line (bundling_line (answered (bundling (bytes_at line 1) (number_at line 2))))
