-- For the proofs alone: what R1 strikes out.
use Rattle.std.specs.Prelude.{ℕ, ◌<◌}
use Rattle.prelude.specs.Limits.{most_codes}
use Rattle.knowledge.specs.Knows.{Bit}

-- no code below the size is in the mask w
pub record Beyond (size w : ℕ) : Type 0 where
  pub beyond : (v : ℕ) → v < most_codes → v < size → Bit w v → ⊥
