-- `Known::unite_rows` meets its contract; the row only chooses which k to try.
use Rattle.knowledge.proofs.Keeping.{marked_chain}
use Rattle.knowledge.proofs.Known.unite_rows.Goals as goal

pub loop-k-preserved : goal.loop-k-preserved
loop-k-preserved c = marked_chain c.loop-k.invariant c.unite_one.ensures
