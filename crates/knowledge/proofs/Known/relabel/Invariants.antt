-- `Known::relabel` meets its contract: a turn stores a label of the same code.
use Rattle.knowledge.specs.Knows.{Kept, Knows, Same}
use Rattle.knowledge.proofs.Known.relabel.Given as goal

abbrev pub invariant-loop-k : goal.invariant-loop-k
invariant-loop-k l = Kept (Same l.a l.b) (Knows l.initial.self) (Knows l.self)
