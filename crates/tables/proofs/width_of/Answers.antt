-- `tables::width_of` meets its contract. The test is that of `width`.
use native.Mathlib.Omega.{arith}
use mathlib.Core.Path.{sym, ◌∙◌}
use borrow.Author.Tests.{le-ltb}
use Rattle.prelude.specs.Lists.{at}
use Rattle.tables.proofs.Widths.{width_there}
use Rattle.tables.proofs.width_of.Goals as goal

pub returns-then-s-lt-MOST_SORTS : goal.returns-then-s-lt-MOST_SORTS
returns-then-s-lt-MOST_SORTS c =
    (c.wide.ensures.0 ∙ sym (width_there (at c.args.sizes) c.args.s c.if-s-lt-MOST_SORTS.true), c.wide.ensures.1)

pub returns : goal.returns
returns c = rw (le-ltb c.args.s 8 c.if-s-lt-MOST_SORTS.false) (omega arith)
