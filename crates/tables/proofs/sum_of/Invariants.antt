-- `tables::sum_of` meets its contract: the sum so far is that of the sizes passed, and each is a byte.
use Prim.Native.Nat.{◌*◌, ◌≤◌}
use mathlib.Core.Path.{◌≡◌}
use Rattle.prelude.specs.Lists.{at, sum_to}
use Rattle.tables.proofs.sum_of.Given as goal

abbrev pub invariant-loop-size : goal.invariant-loop-size
invariant-loop-size l = (l.sum ≡ sum_to l.size-index (at l.fn.sizes)) × (l.sum ≤ 255 * l.size-index)
