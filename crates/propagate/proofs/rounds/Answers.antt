-- `propagate::rounds` meets its contract.
use Rattle.knowledge.proofs.Keeping.{chain}
use Rattle.propagate.proofs.rounds.Goals as goal

pub loop-done-preserved : goal.loop-done-preserved
loop-done-preserved c = chain c.loop-done.invariant c.round.ensures

pub returns-in-Nothing : goal.returns-in-Nothing
returns-in-Nothing c = chain c.loop-done.invariant c.round.ensures
