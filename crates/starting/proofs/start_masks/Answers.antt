-- `starting::start_masks` meets its contract.
use Rattle.knowledge.proofs.Keeping.{struck_chain}
use Rattle.starting.proofs.start_masks.Goals as goal

pub loop-i-preserved : goal.loop-i-preserved
loop-i-preserved c = let i = c.loop-i.invariant in struck_chain i (rw (← i.labels) c.start_mask.ensures)
