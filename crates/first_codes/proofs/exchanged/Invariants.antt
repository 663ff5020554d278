-- `first_codes::exchanged` leaves the codes past the terms at 0.
use mathlib.Core.Path.{◌≡◌}
use lib.ListN.{length}
use Rattle.prelude.specs.Lists.{at}
use Rattle.layout.specs.Packed.{view}
use Rattle.consistency.specs.Searchable.{Padded}
use Rattle.first_codes.proofs.exchanged.Given as goal

abbrev pub invariant-loop-i : goal.invariant-loop-i
invariant-loop-i l = (length l.next ≡ 256) × Padded (view l.p) (at l.next)
