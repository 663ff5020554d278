-- What is parsed is accepted, and what is refused is refused so.
use Rattle.sheet.proofs.Verdicts.{verdict_accepted, verdict_refused}
use Rattle.sheet.proofs.read.Goals as goal

pub returns-in-Ok : goal.returns-in-Ok
returns-in-Ok c = verdict_accepted c.args.s.now c.in-Ok.field-0 c.in-Ok.ensures

pub returns-in-Err : goal.returns-in-Err
returns-in-Err c = verdict_refused c.args.s.now c.in-Err.r c.in-Err.ensures
