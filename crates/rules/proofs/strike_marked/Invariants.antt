-- `rules::strike_marked` meets its contract.
use Rattle.knowledge.specs.Knows.{Struck}
use Rattle.rules.specs.Reasons.{SmallMarks}
use Rattle.rules.proofs.strike_marked.Given as goal

abbrev pub invariant-loop-i : goal.invariant-loop-i
invariant-loop-i l = Struck (SmallMarks l.initial.known.marks) l.initial.known l.known
