-- `pigeonhole::pairs` and `pigeonhole::reach` meet their contracts.
use Rattle.pigeonhole.proofs.Counting.{pairs_counted}
use Rattle.prelude.proofs.Rows.{table_most}
use Rattle.pigeonhole.proofs.+pairs_reach.Goals as goal

pub pairs-returns : goal.pairs-returns
pairs-returns t c =
    let p = c.args in
    let x = c.reach-x.ensures in
    let y = c.reach-y.ensures in (
      pairs_counted _ p.known.now.labels p.known.now.masks p.list.now _ _ _ _ c.requires.one_symbol (rw c.as_slice.ensures c.arguments-firsts.ensures) (rw c.as_slice-2.ensures c.arguments-seconds.ensures) x.0 y.0,
      table_most _ _ x.1 y.1,
    )
