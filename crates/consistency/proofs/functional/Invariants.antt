-- `consistency::functional` meets its contract: the table holds the code of every term of the symbol passed, and nothing else.
use Prim.Native.Nat.{◌≤◌}
use Rattle.layout.specs.Packed.{view}
use Rattle.prelude.specs.Lists.{at}
use Rattle.consistency.proofs.WholeTest.{Entered}
use Rattle.consistency.proofs.functional.Given as goal

abbrev pub invariant-loop-i : goal.invariant-loop-i
invariant-loop-i l = (l.i ≤ l.p.terms) × Entered (view l.p) (at l.codes) l.symbol l.i l.t
