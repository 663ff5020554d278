-- `rules::join_singles` meets its contract.
use Rattle.knowledge.proofs.Keeping.{chain}
use Rattle.rules.proofs.join_singles.Goals as goal

pub loop-i-preserved : goal.loop-i-preserved
loop-i-preserved c = chain c.loop-i.invariant c.meet_single-news.ensures
