-- `pigeonhole::differ` meets its contract.
use Rattle.knowledge.proofs.Keeping.{label_code, same_number}
use Rattle.pigeonhole.proofs.Counting.{unlike_one}
use Rattle.pigeonhole.proofs.differ.Goals as goal

pub returns : goal.returns
returns c =
    let p = c.args in
    λ e. unlike_one p.known.now p.i c.wide-2.result c.wide.result p.a (label_code p.known.now.labels p.i c.wide-2.result c.requires c.wide-2.ensures.0)
    (same_number p.known.now.labels c.wide.result c.label.result p.a c.wide.ensures.0 c.label.ensures) (c.apart.ensures e)
