-- `bundle::bundle` meets its contract.
use mathlib.Core.Path.{ap, ◌∙◌}
use Rattle.std.specs.Prelude.{Err}
use Rattle.bundle.proofs.Located.{parts_inside}
use Rattle.bundle.proofs.Promised.{answered_none, answered_some}
use Rattle.bundle.proofs.bundle.Goals as goal

pub returns-in_default : goal.returns-in_default
returns-in_default c = ap Err c.at.ensures ∙ answered_none c.args.bytes.now c.args.limit c.in_default.ensures

pub sums_of-requires : goal.sums_of-requires
sums_of-requires c = parts_inside c.args.bytes.now c.in-Some.found c.in-Some.ensures.1

pub returns : goal.returns
unfolding parts_inside
returns c =
    c.sums_of.ensures (parts_inside c.args.bytes.now c.in-Some.found c.in-Some.ensures.1)
    ∙ answered_some c.args.bytes.now c.args.limit c.in-Some.ensures.0
