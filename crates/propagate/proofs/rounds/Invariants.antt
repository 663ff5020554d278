-- `propagate::rounds` meets its contract.
use Rattle.knowledge.specs.Knows.{Kept, Knows}
use Rattle.rules.specs.Reasons.{Lawful}
use Rattle.propagate.proofs.rounds.Given as goal

abbrev pub invariant-loop-done : goal.invariant-loop-done
invariant-loop-done l = Kept (Lawful l.terms) (Knows l.initial.known) (Knows l.known)
