-- `assembling::sized_fields` meets its contract: the fields passed have been added, each at its size.
use mathlib.Core.Path.{◌≡◌}
use Rattle.prelude.specs.Lists.{at}
use Rattle.layout.specs.Packed.{packed}
use Rattle.assembling.specs.Parts.{sized}
use Rattle.assembling.proofs.sized_fields.Given as goal

abbrev pub invariant-loop-size : goal.invariant-loop-size
invariant-loop-size l = l.q ≡ packed (sized l.size-index (at l.fn.sizes))
