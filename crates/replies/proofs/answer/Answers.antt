-- `replies::answer` meets its contract.
use Rattle.text.proofs.Lines.{renamed}
use Rattle.replies.specs.Reply.{reply, without_return}
use Rattle.replies.proofs.LineEnds.{sized_empty, sized_long, sized_asked}
use Rattle.replies.proofs.answer.Goals as goal

pub returns-then-s-eq0 : goal.returns-then-s-eq0
unfolding reply
returns-then-s-eq0 c = renamed (sized_empty c.without_return-s.result.now (without_return c.args.line.now) c.without_return-s.ensures c.if-s-eq0.true) c.put.ensures

pub returns-then-s-gt-MOST_CHARACTERS : goal.returns-then-s-gt-MOST_CHARACTERS
unfolding reply
returns-then-s-gt-MOST_CHARACTERS c = renamed (sized_long c.without_return-s.result.now (without_return c.args.line.now) c.without_return-s.ensures c.if-s-eq0.false c.if-s-gt-MOST_CHARACTERS.true) c.put-then-s-gt-MOST_CHARACTERS.ensures

pub returns : goal.returns
unfolding reply
returns c = renamed (sized_asked c.without_return-s.result.now (without_return c.args.line.now) c.without_return-s.ensures c.if-s-eq0.false c.if-s-gt-MOST_CHARACTERS.false) c.answer_asked.ensures
