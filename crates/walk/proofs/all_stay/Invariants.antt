-- `walk::all_stay` meets its contract. Every event so far stays in the sort; the first that does not makes the test false.
use mathlib.Core.Path.{◌≡◌}
use mathlib.Core.Bool.{true}
use Rattle.prelude.specs.Lists.{at}
use Rattle.prelude.specs.Tests.{every}
use Rattle.logic.specs.Sheet.{Sheet}
use Rattle.tables.specs.Parts.{Packs}
use Rattle.walk.specs.Walk.{stays_in}
use Rattle.walk.proofs.all_stay.Given as goal

abbrev pub invariant-loop-event : goal.invariant-loop-event
invariant-loop-event l = (sh : Sheet) → Packs sh l.fn.p → every l.event-index (λ j. stays_in sh l.fn.sort (at l.fn.events j)) ≡ true
