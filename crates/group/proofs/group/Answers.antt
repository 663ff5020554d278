-- `group::group` meets its contract: one law for each way out.
use native.Mathlib.Omega.{arith}
use mathlib.Core.Path.{ap, ◌∙◌}
use Rattle.std.specs.Prelude.{Err}
use Rattle.prelude.specs.Lists.{at}
use Rattle.group.proofs.Parsed.{parsed_closable}
use Rattle.group.proofs.Replies.{refused_reply, parsed_absent, parsed_named}
use Rattle.group.proofs.group.Goals as goal

pub returns-in-Err : goal.returns-in-Err
returns-in-Err c = refused_reply c.args.sheet.now c.args.e c.in-Err.r c.in-Err.ensures

pub returns-then-p-e : goal.returns-then-p-e
returns-then-p-e c = ap Err c.at.ensures ∙ parsed_absent _ _ c.in-Ok.ensures _ (omega arith)

pub groups-labels-requires : goal.groups-labels-requires
groups-labels-requires c = parsed_closable _ _ c.in-Ok.ensures

pub bounds-labels-e : goal.bounds-labels-e
bounds-labels-e c = omega (arith, (parsed_closable _ _ c.in-Ok.ensures).terms)

pub returns : goal.returns
returns c =
    parsed_named _ _ c.in-Ok.ensures _ (omega arith) (at c.groups-labels.result) c.groups-labels.ensures _
    c.wide-number.ensures.0
