-- For the proofs only.
use Rattle.std.specs.Prelude.{ℕ, ◌≡◌, List}
use Rattle.questions.specs.Questions.{number_at}
use Rattle.trails.specs.declared.Numbers.{Numbers}

-- the numbers of a line that asks walk
pub record WalkNumbers (line : List ℕ) (w : Numbers) : Type 0 where
  pub sort : w.sort ≡ number_at line 3
  pub code : w.code ≡ number_at line 4
  pub room : w.room ≡ number_at line 6
  pub start : w.start ≡ number_at line 7
