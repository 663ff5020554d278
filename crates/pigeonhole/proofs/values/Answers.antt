-- `pigeonhole::values` meets its contract.
use Rattle.pigeonhole.proofs.Counting.{mask_counted, one_code_counted}
use native.Mathlib.Omega.{arith}
use Rattle.pigeonhole.proofs.values.Goals as goal

pub returns-then-one_label : goal.returns-then-one_label
returns-then-one_label c =
    let p = c.args in
    (one_code_counted p.known.now.labels p.known.now.masks p.list.now (c.one_label.ensures c.if-one_label.true), omega arith)

pub returns : goal.returns
returns c =
    let p = c.args in
    (mask_counted p.known.now.labels p.known.now.masks p.list.now _ _ c.left.ensures.0 c.common.ensures, c.left.ensures.1)
