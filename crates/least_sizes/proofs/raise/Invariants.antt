-- `least_sizes::raise` meets its contract: every floor passed is raised.
use Rattle.layout.specs.Packed.{view}
use Rattle.prelude.specs.Lists.{at}
use Rattle.least_sizes.proofs.Regions.{Raising}
use Rattle.least_sizes.proofs.raise.Given as goal

abbrev pub invariant-loop-s : goal.invariant-loop-s
invariant-loop-s l = Raising (view l.p) l.low (at l.high)
