-- `starting::mark_differ` meets its contract.
use Rattle.knowledge.proofs.Keeping.{marked_chain}
use Rattle.starting.proofs.mark_differ.Goals as goal

pub loop-k-preserved : goal.loop-k-preserved
loop-k-preserved c = let i = c.loop-k.invariant in marked_chain i (rw (← i.labels) c.mark_sides.ensures)
