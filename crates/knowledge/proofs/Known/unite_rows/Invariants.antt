-- `Known::unite_rows` meets its contract; the row only chooses which k to try.
use Rattle.knowledge.specs.Knows.{Marked, Same}
use Rattle.knowledge.proofs.Known.unite_rows.Given as goal

abbrev pub invariant-loop-k : goal.invariant-loop-k
invariant-loop-k l = Marked (Same l.a l.b) l.initial.self l.self
