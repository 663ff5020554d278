-- `starting::spread` meets its contract.
use Rattle.knowledge.specs.Knows.{Means, Masks}
use Rattle.starting.specs.Given.{Grouped}
use Rattle.starting.proofs.spread.Given as goal

abbrev pub invariant-loop-i : goal.invariant-loop-i
invariant-loop-i l = Means (Grouped l.known) (Masks l.out)
