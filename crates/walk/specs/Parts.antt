-- For the proofs only.
use Rattle.std.specs.Prelude.{ℕ, cond, List, Result, Ok, Err}
use Rattle.prelude.specs.Causes.{refusal}
use Rattle.prelude.specs.declared.refusal.Refusal.{Refusal}
use Rattle.logic.specs.Sheet.{Sheet}
use Rattle.tables.specs.Tests.{well_laid}
use Rattle.walk.specs.Walk.{walkable}

-- neither of the causes 12 and 15 applies, or the first that does is the refusal
abbrev pub admitted : Sheet → List ℕ → ℕ → ℕ → List ℕ → Result (Unit {0}) Refusal
admitted sh t s c fs = cond (well_laid sh t) (cond (walkable sh t s c fs) (Ok tt) (Err (refusal 15 0))) (Err (refusal 12 0))
