-- `writing::unforced_row` meets its contract: the cells passed hold what `unforced` gives.
use mathlib.Core.Path.{refl}
use lib.ListN.{length-set}
use native.Mathlib.Omega.{arith}
use Rattle.prelude.proofs.Lists.{filled_more}
use Rattle.writing.specs.Written.{unforced_at}
use Rattle.writing.proofs.unforced_row.Goals as goal

pub loop-col-init : goal.loop-col-init
loop-col-init c = (omega arith, refl, λ sh size d k h e j l. absurd (omega arith))

pub loop-col-preserved : goal.loop-col-preserved
loop-col-preserved c =
    let l = c.loop-col in (
      omega arith,
      simp length-set l.invariant.1,
      λ sh size d k h e.
          filled_more (unforced_at sh size d c.args.symbol c.args.row) l.cells l.col c.unforced.result (omega arith)
          (c.unforced.ensures sh size d k h e) (l.invariant.2 sh size d k h e),
    )

pub returns : goal.returns
returns c sh size d k h e col b = c.loop-col.invariant.2 sh size d k h e col (omega arith)
