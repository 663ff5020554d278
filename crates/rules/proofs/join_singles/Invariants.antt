-- `rules::join_singles` meets its contract.
use Rattle.knowledge.specs.Knows.{Kept, Knows, SmallCodes}
use Rattle.rules.proofs.join_singles.Given as goal

abbrev pub invariant-loop-i : goal.invariant-loop-i
invariant-loop-i l = Kept SmallCodes (Knows l.initial.known) (Knows l.known)
