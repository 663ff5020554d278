-- `rules::contrapose_row` meets its contract; the earlier terms only choose which j to try.
use Prim.Native.Nat.{◌<◌}
use Rattle.knowledge.specs.Knows.{Marked}
use Rattle.rules.specs.Reasons.{LawfulGrouped}
use Rattle.rules.proofs.contrapose_row.Given as goal

abbrev pub invariant-loop-tried : goal.invariant-loop-tried
invariant-loop-tried l = (l.i < l.terms.n) × Marked (LawfulGrouped l.terms l.initial.known.labels l.initial.known.masks) l.initial.known l.known
