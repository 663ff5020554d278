-- `solve::choose` meets its contract: the best term so far has not been decided.
use Rattle.std.specs.Prelude.{IfSome}
use Rattle.layout.specs.Packed.{view}
use Rattle.prelude.specs.Lists.{at}
use Rattle.solve.specs.Parts.{Pending}
use Rattle.solve.proofs.choose.Given as goal

abbrev pub invariant-loop-i : goal.invariant-loop-i
invariant-loop-i l = IfSome l.best (Pending (view l.p) (at l.decided))
