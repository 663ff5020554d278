-- `pigeonhole::common` meets its contract.
use Rattle.knowledge.proofs.Keeping.{same_number}
use Rattle.pigeonhole.proofs.Counting.{common_more}
use Rattle.pigeonhole.proofs.common.Goals as goal

pub loop-a-preserved : goal.loop-a-preserved
loop-a-preserved c =
    let p = c.args in
    let wide = c.wide in
    common_more p.known.now.labels p.known.now.masks p.list.now _ _ _ _ c.loop-a.invariant (same_number p.known.now.labels wide.result c.label.result _ wide.ensures.0 c.label.ensures) c.mask-w.ensures
