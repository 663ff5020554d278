-- `encoder::statement_kind` meets its contract.
use borrow.Author.Tests.{eq-eqb, ne_eqb}
use Rattle.encoder.proofs.statement_kind.Goals as goal

pub returns-then-equal-eq1 : goal.returns-then-equal-eq1
returns-then-equal-eq1 c = rw (eq-eqb _ _ c.if-equal-eq1.true)

pub returns : goal.returns
returns c = rw (ne_eqb _ _ c.if-equal-eq1.false)
