-- `starting::join_same` meets its contract.
use Rattle.knowledge.proofs.Keeping.{chain}
use Rattle.starting.proofs.join_same.Goals as goal

pub loop-k-preserved : goal.loop-k-preserved
loop-k-preserved c = chain c.loop-k.invariant c.join_sides.ensures
