-- The interface: what the search at given sizes answers, and which codes of a term it tries.
use Rattle.std.specs.Prelude.{ℕ, ◌≤◌, ◌<◌, ◌≡◌, Bool, true, false, ◌⊎◌, List, get_or, Option, Some, None}
use Rattle.prelude.specs.Limits.{most_codes, undecided}
use Rattle.prelude.specs.Lists.{at}
use Rattle.logic.specs.Problem.{Problem, Consistent, Extends, Dead}
use Rattle.knowledge.specs.Knows.{Bit}
use Rattle.solve.specs.declared.Choices.{Choices}

-- consistent codes that keep to what q decides
pub record Model (P : Problem) (size q c : ℕ → ℕ) : Type 0 where
  pub consistent : Consistent P size c
  pub extends : Extends P q c

-- the answer of the search: consistent codes that keep to what q decides, or that there are none
abbrev pub Solved : Problem → (ℕ → ℕ) → (ℕ → ℕ) → Option (List ℕ) → Type 0
Solved P size q (Some codes) = Model P size q (at codes)
Solved P size q None = Dead P size q

-- whether a code is flagged
abbrev pub flag : List Bool → ℕ → Bool
flag used v = get_or used v false

-- a code worth trying: below the size, not struck out, and in use or the first that is not
pub record Worth (plan : Choices) (v : ℕ) : Type 0 where
  pub below : v < plan.size
  pub kept : Bit plan.mask v → ⊥
  pub used : (v ≤ plan.fresh) ⊎ (flag plan.used v ≡ true)

-- Some consistent codes keep to q exactly when some do whose code at the term is worth trying, and that code is no greater.
pub record Covers (P : Problem) (sizes q : ℕ → ℕ) (plan : Choices) (c d : ℕ → ℕ) : Type 0 where
  pub consistent : Consistent P sizes d
  pub extends : Extends P q d
  pub worth : Worth plan (d plan.term)
  pub most : d plan.term ≤ c plan.term

pub record Branches (P : Problem) (sizes q : ℕ → ℕ) (plan : Choices) : Type 0 where
  pub there : plan.term < P.terms
  pub pending : q plan.term ≡ undecided
  pub small : plan.size ≤ most_codes
  pub covers : (c : ℕ → ℕ) → Consistent P sizes c → Extends P q c → (d : ℕ → ℕ) × Covers P sizes q plan c d

-- the codes of a term to try: the decisions are dead, or these codes cover all
abbrev pub Planned : Problem → (ℕ → ℕ) → (ℕ → ℕ) → ℕ → Option Choices → Type 0
Planned P sizes q term None = Dead P sizes q
Planned P sizes q term (Some plan) = (plan.term ≡ term) × Branches P sizes q plan
