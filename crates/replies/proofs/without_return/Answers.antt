-- `replies::without_return` meets its contract.
use Rattle.replies.proofs.LineEnds.{return_none, return_cut, return_kept}
use Rattle.replies.proofs.without_return.Goals as goal

pub returns-then-n-eq0 : goal.returns-then-n-eq0
returns-then-n-eq0 c = return_none c.args.line.now c.if-n-eq0.true

pub returns-then-line-n-eq13 : goal.returns-then-line-n-eq13
returns-then-line-n-eq13 c = return_cut c.args.line.now c.if-line-n-eq13.true

pub returns : goal.returns
returns c = return_kept c.args.line.now c.if-line-n-eq13.false
