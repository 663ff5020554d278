-- `first_codes::extends` meets its contract: the terms passed keep to the decisions.
use Prim.Native.Nat.{ℕ, ◌<◌}
use mathlib.Core.Path.{◌≡◌}
use Rattle.prelude.specs.Limits.{undecided}
use Rattle.prelude.specs.Lists.{at}
use Rattle.first_codes.proofs.extends.Given as goal

abbrev pub invariant-loop-i : goal.invariant-loop-i
invariant-loop-i l = ((k : ℕ) → k < l.i → (at l.decided k ≡ undecided → ⊥) → at l.codes k ≡ at l.decided k)
