-- `rules::mark_arguments` meets its contract.
use Rattle.knowledge.proofs.Keeping.{marked_chain}
use Rattle.rules.proofs.mark_arguments.Goals as goal

pub returns : goal.returns
returns c = let first = c.contrapose_all-news.ensures in marked_chain first (rw (← first.labels, ← first.masks) c.contrapose_all.ensures)
