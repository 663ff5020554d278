-- The interface: the grouping of terms: which terms have equal codes wherever the same statements hold, and the labels that name the
-- groups. Over functions of numbers; `Forced` says the same over structures.
use Rattle.std.specs.Prelude.{ℕ, ◌≤◌, ◌<◌, ◌≡◌}
use Rattle.prelude.specs.Limits.{most_terms, most_literals}
use Rattle.logic.specs.Problem.{Problem, Congruent}

-- codes that are congruent and meet the same statements; differ statements, bounds and total play no part
pub record Models (P : Problem) (c : ℕ → ℕ) : Type 0 where
  pub congruent : Congruent P.terms P.symbol P.arg0 P.arg1 c
  pub same : (k : ℕ) → k < P.literals → P.equal k ≡ 1 → c (P.left k) ≡ c (P.right k)

-- the terms i and j have equal codes wherever the same statements hold
abbrev pub Entails : Problem → ℕ → ℕ → Type 0
Entails P i j = (c : ℕ → ℕ) → Models P c → c i ≡ c j

-- each label is the lowest number that has it
pub record Lowest (l : ℕ → ℕ) : Type 0 where
  pub below : (i : ℕ) → i < most_terms → l i ≤ i
  pub self : (i : ℕ) → i < most_terms → l (l i) ≡ l i

-- the labels l name the groups of terms that the same statements force together: equal labels exactly where that is entailed, and each
-- label is the group's lowest-numbered term
pub record Groups (P : Problem) (l : ℕ → ℕ) : Type 0 where
  pub sound : (i j : ℕ) → i < P.terms → j < P.terms → l i ≡ l j → Entails P i j
  pub complete : (i j : ℕ) → i < P.terms → j < P.terms → Entails P i j → l i ≡ l j
  pub lowest : Lowest l
  pub least : (i j : ℕ) → i < P.terms → j < P.terms → Entails P i j → l i ≤ j

-- what the closure asks of a sheet: it fits the arrays, and both sides of each statement are there
pub record Closable (P : Problem) : Type 0 where
  pub terms : P.terms ≤ most_terms
  pub literals : P.literals ≤ most_literals
  pub left : (k : ℕ) → k < P.literals → P.left k < P.terms
  pub right : (k : ℕ) → k < P.literals → P.right k < P.terms
