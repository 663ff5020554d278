-- Each return is a case of `later`.
use mathlib.Core.Path.{ap}
use Rattle.prelude.specs.Causes.{tested}
use Rattle.layout.proofs.Causes.{total_low, total_high, total_fine}
use Rattle.layout.proofs.faults.total_fault.Goals as goal

pub returns-then-b0-lt1 : goal.returns-then-b0-lt1
returns-then-b0-lt1 c sh e =
    ap tested (
    total_low sh c.args.b0 e c.if-b0-lt1.true)

pub returns-then-b0-gt-GREATEST_TOTAL : goal.returns-then-b0-gt-GREATEST_TOTAL
returns-then-b0-gt-GREATEST_TOTAL c sh e =
    ap tested (
    total_high sh c.args.b0 e c.if-b0-gt-GREATEST_TOTAL.true)

pub returns : goal.returns
returns c sh e =
    ap tested (
    total_fine sh c.args.b0 e c.if-b0-lt1.false c.if-b0-gt-GREATEST_TOTAL.false)
