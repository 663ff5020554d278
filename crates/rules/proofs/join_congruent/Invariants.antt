-- `rules::join_congruent` meets its contract; the table of keys only chooses which pairs to try.
use Rattle.knowledge.specs.Knows.{Kept, Knows}
use Rattle.rules.specs.Reasons.{CongruentTerms}
use Rattle.rules.proofs.join_congruent.Given as goal

abbrev pub invariant-loop-i : goal.invariant-loop-i
invariant-loop-i l = Kept (CongruentTerms l.terms) (Knows l.initial.known) (Knows l.known)
