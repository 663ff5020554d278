-- The test is that of `within`.
use borrow.Author.Tests.{le-leb, lt-leb}
use Rattle.layout.proofs.faults.is_size.Goals as goal

pub returns-then-b-lt1 : goal.returns-then-b-lt1
returns-then-b-lt1 c = rw (lt-leb 1 c.args.b c.if-b-lt1.true)

pub returns : goal.returns
returns c = rw (le-leb 1 c.args.b c.if-b-lt1.false)
