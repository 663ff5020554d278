-- The interface: what the least sizes are: smallest sum, then the sizes that come first place by place.
use Rattle.std.specs.Prelude.{ℕ, ◌≤◌, ◌≡◌, List, Option, Some, None}
use Rattle.prelude.specs.Lists.{at, sum_to}
use Rattle.logic.specs.Order.{NotAfter}
use Rattle.logic.specs.Problem.{Problem, Allowed, Consistent, Unsatisfiable}

-- sizes with consistent codes
abbrev pub Satisfiable : Problem → (ℕ → ℕ) → Type 0
Satisfiable P size = (c : ℕ → ℕ) × Consistent P size c

-- f comes no later than g: a smaller sum, or an equal sum and not after place by place
pub record SizesNoLater (n : ℕ) (f g : ℕ → ℕ) : Type 0 where
  pub sum : sum_to n f ≤ sum_to n g
  pub places : sum_to n g ≡ sum_to n f → NotAfter n f g

-- allowed sizes with consistent codes and nothing earlier
pub record Least (P : Problem) (size : ℕ → ℕ) : Type 0 where
  pub allowed : Allowed P size
  pub satisfiable : Satisfiable P size
  pub first : (size' : ℕ → ℕ) → Allowed P size' → Satisfiable P size' → SizesNoLater P.sorts size size'

-- the answer: the least sizes, or that there are none
abbrev pub LeastSizes : Problem → Option (List ℕ) → Type 0
LeastSizes P (Some sizes) = Least P (at sizes)
LeastSizes P None = Unsatisfiable P
