-- `starting::join_same` meets its contract.
use Rattle.knowledge.specs.Knows.{Kept, Knows}
use Rattle.starting.specs.Given.{SameHold}
use Rattle.starting.proofs.join_same.Given as goal

abbrev pub invariant-loop-k : goal.invariant-loop-k
invariant-loop-k l = Kept (SameHold l.literals) (Knows l.initial.known) (Knows l.known)
