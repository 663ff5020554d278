-- `first_codes::lower` meets its contract: every smaller code passed that is worth trying is dead.
use Rattle.layout.specs.Packed.{view}
use Rattle.prelude.specs.Lists.{at}
use Rattle.solve.proofs.Branching.{Tried}
use Rattle.first_codes.proofs.lower.Given as goal

abbrev pub invariant-loop-v : goal.invariant-loop-v
invariant-loop-v l = Tried (view l.p) (at l.sizes) l.decided l.plan l.v
