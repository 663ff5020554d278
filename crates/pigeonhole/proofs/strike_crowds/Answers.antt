-- `pigeonhole::strike_crowds` meets its contract.
use Rattle.knowledge.proofs.Keeping.{struck_step, struck_chain}
use Rattle.pigeonhole.proofs.strike_crowds.Goals as goal

pub loop-i-preserved : goal.loop-i-preserved
loop-i-preserved c =
    let i = c.loop-i.invariant in
    struck_chain i
    (struck_step (λ x k v. record { lawful = k.lawful; knows = record { labels = rw i.labels k.knows.labels; masks = v; marks = rw i.marks k.knows.marks } }) c.meet_symbol-news.ensures)
