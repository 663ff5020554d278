-- `consistency::in_range` meets its contract: the terms passed are in range, and a term that is not ends the loop.
use Prim.Native.Nat.{ℕ, ◌≤◌, ◌<◌}
use Rattle.prelude.specs.Lists.{at}
use Rattle.consistency.proofs.in_range.Given as goal

abbrev pub invariant-loop-i : goal.invariant-loop-i
invariant-loop-i l = (l.i ≤ l.p.terms) × ((k : ℕ) → k < l.i → at l.codes k < at l.sizes (at l.p.sort k))
