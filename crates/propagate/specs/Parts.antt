-- For the proofs alone: what propagation rests on, said of one assignment c of codes to terms.
use Rattle.std.specs.Prelude.{ℕ, ◌<◌, ◌≡◌, List}
use Rattle.prelude.specs.Limits.{undecided}
use Rattle.prelude.specs.Lists.{at}
use Rattle.knowledge.specs.declared.terms.Terms.{Terms}
use Rattle.rules.specs.Reasons.{Lawful}

-- small congruent codes, below the size of the sort, and as decided
pub record Allowed (t : Terms) (sizes decided : List ℕ) (c : ℕ → ℕ) : Type 0 where
  pub lawful : Lawful t c
  pub range : (i : ℕ) → i < t.n → c i < at sizes (at t.sort.now i)
  pub fixed : (i : ℕ) → i < t.n → (at decided i ≡ undecided → ⊥) → c i ≡ at decided i
