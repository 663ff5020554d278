-- `solve::codes_in_use` meets its contract: the codes of the terms passed are flagged.
use Rattle.prelude.specs.Lists.{at}
use Rattle.solve.proofs.Branching.{Flagged}
use Rattle.solve.proofs.codes_in_use.Given as goal

abbrev pub invariant-loop-j : goal.invariant-loop-j
invariant-loop-j l = Flagged (at l.p.sort) (at l.decided) l.sort l.used l.j
