-- `starting::mark_differ` meets its contract.
use Rattle.knowledge.specs.Knows.{Marked}
use Rattle.starting.specs.Given.{DifferHold}
use Rattle.starting.proofs.mark_differ.Given as goal

abbrev pub invariant-loop-k : goal.invariant-loop-k
invariant-loop-k l = Marked (DifferHold l.literals l.initial.known.labels) l.initial.known l.known
