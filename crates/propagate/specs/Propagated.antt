-- The interface: what propagation may say of the codes that are still possible. It need say nothing: leaving an inference out is always
-- sound.
use Rattle.std.specs.Prelude.{ℕ, Result, MatchResult}
use Rattle.logic.specs.Problem.{Problem, Consistent, Extends, Dead}
use Rattle.knowledge.specs.declared.Known.{Known}
use Rattle.knowledge.specs.Knows.{Knows, SmallCodes}
use Rattle.propagate.specs.declared.Propagation.{Propagation}
use Rattle.propagate.specs.declared.Conflict.{Conflict}

-- known of the consistent codes of any sizes
abbrev pub Begun : Problem → Known → Type 0
Begun P k = (size c : ℕ → ℕ) → Consistent P size c → Knows k c

-- every consistent code of these sizes is below 16, so that a mask of 16 bits has a bit for it
abbrev pub FitMask : Problem → (ℕ → ℕ) → Type 0
FitMask P size = (c : ℕ → ℕ) → Consistent P size c → SmallCodes c

-- known of the consistent codes that keep to what q decides
abbrev pub Knowing : Problem → (ℕ → ℕ) → (ℕ → ℕ) → Known → Type 0
Knowing P size q k = (c : ℕ → ℕ) → Consistent P size c → Extends P q c → Knows k c

-- of the consistent codes that keep to what q decides: all that is known is true of them, or, at a conflict, there are none
abbrev pub Propagated : Problem → (ℕ → ℕ) → (ℕ → ℕ) → Result Propagation Conflict → Type 0
Propagated P size q r = MatchResult r (λ o. Knowing P size q o.known) (λ _. Dead P size q)
