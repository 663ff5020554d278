-- `consistency::hold` meets its contract: the statements passed hold, and one that does not ends the loop.
use Prim.Native.Nat.{ℕ, ◌≤◌, ◌<◌}
use mathlib.Core.Path.{◌≡◌}
use mathlib.Core.Bool.{true}
use lib.Dec.{eqb}
use Rattle.prelude.specs.Lists.{at}
use Rattle.tables.specs.Tests.{agree}
use Rattle.consistency.proofs.hold.Given as goal

abbrev pub invariant-loop-k : goal.invariant-loop-k
invariant-loop-k l = (l.k ≤ l.p.literals) × ((n : ℕ) → n < l.k → agree (eqb (at l.p.equal n) 1) (eqb (at l.codes (at l.p.left n)) (at l.codes (at l.p.right n))) ≡ true)
