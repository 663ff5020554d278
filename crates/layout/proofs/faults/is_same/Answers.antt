-- Compared one by one.
use borrow.Author.Tests.{eq-eqb, ne_eqb}
use Rattle.layout.proofs.faults.is_same.Goals as goal

pub returns-then-symbol-q : goal.returns-then-symbol-q
returns-then-symbol-q c = let a = c.args in rw (ne_eqb a.symbol a.q.b0 c.if-symbol-q.true)

pub returns-then-arg0-q : goal.returns-then-arg0-q
returns-then-arg0-q c =
    let a = c.args in
    rw (eq-eqb a.symbol a.q.b0 c.if-symbol-q.false, ne_eqb a.arg0 a.q.b1 c.if-arg0-q.true)

pub returns : goal.returns
returns c =
    let a = c.args in
    rw
    (eq-eqb a.symbol a.q.b0 c.if-symbol-q.false, eq-eqb a.arg0 a.q.b1 c.if-arg0-q.false)
