-- `rules::strike_row` meets its contract: the group's code is the one that is left to it, and each k that is handed out is marked against it.
use Prim.Native.Nat.{◌<◌}
use Rattle.knowledge.specs.Knows.{Struck}
use Rattle.knowledge.proofs.Handing.{Left}
use Rattle.rules.specs.Parts.{CodeMarks}
use Rattle.rules.proofs.strike_row.Given as goal

abbrev pub invariant-loop-k : goal.invariant-loop-k
invariant-loop-k l =
    (l.v < 16) × Struck (CodeMarks l.initial.known.marks l.g l.v) l.initial.known l.known × Left l.initial.known.marks l.g l.k-iterator
