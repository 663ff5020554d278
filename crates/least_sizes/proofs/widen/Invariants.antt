-- `least_sizes::widen` meets its contract: the box stays barren, and above the sizes that it began with.
use Rattle.layout.specs.Packed.{view}
use Rattle.prelude.specs.Lists.{at}
use Rattle.least_sizes.proofs.Regions.{Widening}
use Rattle.least_sizes.proofs.widen.Given as goal

abbrev pub invariant-loop-s : goal.invariant-loop-s
invariant-loop-s l = Widening (view l.p) (at l.initial.corner) l.corner (at l.high)
