-- `writing::unforced_table` meets its contract: the rows passed hold what `unforced` gives, as far as the table goes.
use mathlib.Core.Path.{refl}
use lib.ListN.{length-set}
use native.Mathlib.Omega.{arith}
use Rattle.writing.specs.Written.{unforced_at}
use Rattle.writing.proofs.Filling.{rows_more}
use Rattle.writing.proofs.unforced_table.Goals as goal

pub loop-row-init : goal.loop-row-init
loop-row-init c = (omega arith, refl, λ sh size d k h e i j l. absurd (omega arith))

pub loop-row-preserved : goal.loop-row-preserved
loop-row-preserved c =
    let l = c.loop-row in (
      omega arith,
      simp length-set l.invariant.1,
      λ sh size d k h e.
          rows_more (unforced_at sh size d c.args.symbol) l.t l.row c.args.columns c.unforced_row-cells.result (omega arith)
          (c.unforced_row-cells.ensures sh size d k h e) (l.invariant.2 sh size d k h e),
    )

pub returns : goal.returns
returns c sh size d k h e row col b = c.loop-row.invariant.2 sh size d k h e row col (omega arith)
