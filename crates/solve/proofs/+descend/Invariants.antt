-- The measure of `solve::descend` is the number of undecided codes; the loop's invariant says that every code passed that is worth trying is
-- dead.
use Rattle.layout.specs.Packed.{view}
use Rattle.prelude.specs.Lists.{at}
use Rattle.logic.proofs.Decided.{openings}
use Rattle.solve.proofs.Branching.{Tried}
use Rattle.solve.proofs.+descend.Given as goal

abbrev pub decreases-descend : goal.decreases-descend
decreases-descend l = openings l.decided

abbrev pub invariant-loop-v : goal.invariant-loop-v
invariant-loop-v l = Tried (view l.p) (at l.sizes) l.decided l.plan l.v
