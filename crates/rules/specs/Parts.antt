-- For the proofs alone: what R5 of one group rests on, said of one assignment c of codes to terms.
use Rattle.std.specs.Prelude.{ℕ, ◌≡◌, List}
use Rattle.knowledge.specs.Knows.{Marks}

-- the code of g is v, and the marks: what strikes v out
pub record CodeMarks (m : List ℕ) (g v : ℕ) (c : ℕ → ℕ) : Type 0 where
  pub code : c g ≡ v
  pub marks : Marks m c
