-- `rules::strike_marked` meets its contract.
use Rattle.knowledge.proofs.Keeping.{struck_chain}
use Rattle.rules.proofs.strike_marked.Goals as goal

pub loop-i-preserved : goal.loop-i-preserved
loop-i-preserved c = let i = c.loop-i.invariant in struck_chain i (rw (← i.marks) c.strike_row-news.ensures)
