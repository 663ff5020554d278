-- `rules::join_congruent` meets its contract; the table of keys only chooses which pairs to try.
use Rattle.knowledge.proofs.Keeping.{chain}
use Rattle.rules.proofs.join_congruent.Goals as goal

pub loop-i-preserved : goal.loop-i-preserved
loop-i-preserved c = chain c.loop-i.invariant c.meet_key-news.ensures
