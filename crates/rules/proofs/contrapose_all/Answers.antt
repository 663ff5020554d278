-- `rules::contrapose_all` meets its contract.
use Rattle.knowledge.proofs.Keeping.{marked_chain}
use Rattle.rules.proofs.contrapose_all.Goals as goal

pub loop-i-preserved : goal.loop-i-preserved
loop-i-preserved c = let i = c.loop-i.invariant in marked_chain i (rw (← i.labels, ← i.masks) c.contrapose_row-news.ensures)
