-- `forced::forced` meets its contract: one law for each way out.
use native.Mathlib.Omega.{arith}
use mathlib.Core.Path.{ap, ◌∙◌}
use Rattle.std.specs.Prelude.{Err}
use Rattle.prelude.specs.Lists.{at}
use Rattle.group.proofs.Parsed.{parsed_closable}
use Rattle.forced.proofs.Replies.{refused_reply, parsed_absent_first, parsed_absent_second, parsed_other_sorts, parsed_together}
use Rattle.forced.proofs.forced.Goals as goal

pub returns-in-Err : goal.returns-in-Err
returns-in-Err c = refused_reply c.args.sheet.now c.args.a c.args.b c.in-Err.r c.in-Err.ensures

pub returns-then-terms-a : goal.returns-then-terms-a
returns-then-terms-a c = ap Err c.at.ensures ∙ parsed_absent_first _ _ c.in-Ok.ensures _ _ (omega arith)

pub returns-then-terms-b : goal.returns-then-terms-b
returns-then-terms-b c = ap Err c.at-then-terms-b.ensures ∙ parsed_absent_second _ _ c.in-Ok.ensures _ _ (omega arith) (omega arith)

pub bounds-p-a : goal.bounds-p-a
bounds-p-a c = omega (arith, (parsed_closable _ _ c.in-Ok.ensures).terms)

pub bounds-p-b : goal.bounds-p-b
bounds-p-b c = omega (arith, (parsed_closable _ _ c.in-Ok.ensures).terms)

pub returns-then-p-a : goal.returns-then-p-a
returns-then-p-a c = ap Err c.at-then-p-a.ensures ∙ parsed_other_sorts _ _ c.in-Ok.ensures _ _ (omega arith) (omega arith) c.if-p-a.true

pub groups-labels-requires : goal.groups-labels-requires
groups-labels-requires c = parsed_closable _ _ c.in-Ok.ensures

pub bounds-labels-a : goal.bounds-labels-a
bounds-labels-a c = omega (arith, (parsed_closable _ _ c.in-Ok.ensures).terms)

pub bounds-labels-b : goal.bounds-labels-b
bounds-labels-b c = omega (arith, (parsed_closable _ _ c.in-Ok.ensures).terms)

pub returns : goal.returns
returns c = parsed_together _ _ c.in-Ok.ensures _ _ (omega arith) (omega arith) c.if-p-a.false (at c.groups-labels.result) c.groups-labels.ensures
