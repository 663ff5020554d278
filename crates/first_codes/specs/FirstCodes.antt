-- The interface: what the first codes at given sizes are.
use Rattle.std.specs.Prelude.{ℕ, List, Option, Some, None}
use Rattle.prelude.specs.Lists.{at}
use Rattle.logic.specs.Order.{NotAfter}
use Rattle.logic.specs.Problem.{Problem, Consistent}

-- consistent codes that come first
pub record First (P : Problem) (size c : ℕ → ℕ) : Type 0 where
  pub consistent : Consistent P size c
  pub first : (c' : ℕ → ℕ) → Consistent P size c' → NotAfter P.terms c c'

-- the answer: the codes that come first, or that there are none at these sizes
abbrev pub FirstCodes : Problem → (ℕ → ℕ) → Option (List ℕ) → Type 0
FirstCodes P size (Some codes) = First P size (at codes)
FirstCodes P size None = (c : ℕ → ℕ) → Consistent P size c → ⊥
