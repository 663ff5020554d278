-- `rules::contrapose_all` meets its contract.
use Rattle.knowledge.specs.Knows.{Marked}
use Rattle.rules.specs.Reasons.{LawfulGrouped}
use Rattle.rules.proofs.contrapose_all.Given as goal

abbrev pub invariant-loop-i : goal.invariant-loop-i
invariant-loop-i l = Marked (LawfulGrouped l.terms l.initial.known.labels l.initial.known.masks) l.initial.known l.known
