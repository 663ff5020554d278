-- `tables::first_broken` meets its contract. The first k statements hold; the first that does not is the reply.
use Prim.Native.Nat.{◌≤◌}
use mathlib.Core.Path.{◌≡◌}
use Rattle.prelude.specs.Lists.{at}
use Rattle.tables.proofs.Statements.{HoldTo}
use Rattle.tables.proofs.first_broken.Given as goal

abbrev pub invariant-loop-k : goal.invariant-loop-k
invariant-loop-k l = (l.k ≤ l.n) × (l.n ≡ l.p.literals) × HoldTo l.p (at l.codes) l.k
