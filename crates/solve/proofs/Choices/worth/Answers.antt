-- `solve::Choices::worth` meets its contract.
use native.Mathlib.Omega.{arith}
use Rattle.prelude.proofs.Tests.{answer_no}
use Rattle.solve.proofs.Branching.{worth_yes, worth_used}
use Rattle.solve.proofs.Choices.worth.Goals as goal

pub returns-then-self-v : goal.returns-then-self-v
returns-then-self-v c = answer_no λ w. let b = w.below in let l = c.if-self-v.true in omega arith

pub returns-then-struck : goal.returns-then-struck
returns-then-struck c = answer_no λ w. w.kept (c.struck.ensures.yes c.if-struck.true)

pub returns-then-v-self : goal.returns-then-v-self
returns-then-v-self c = worth_yes _ _ c.if-self-v.false (c.struck.ensures.no c.if-struck.false) (omega arith)

pub returns : goal.returns
returns c = worth_used _ _ c.if-self-v.false (c.struck.ensures.no c.if-struck.false) (omega arith)
