-- For the proofs alone: what one step of the way to the first codes promises.
use Rattle.std.specs.Prelude.{ℕ, ◌≤◌}
use Rattle.logic.specs.Problem.{Problem, Consistent, Extends}

-- of the consistent codes that keep to what q decides, these have the least code at a term
pub record LeastAt (P : Problem) (size q c : ℕ → ℕ) (term : ℕ) : Type 0 where
  pub consistent : Consistent P size c
  pub extends : Extends P q c
  pub least : (c' : ℕ → ℕ) → Consistent P size c' → Extends P q c' → c term ≤ c' term
