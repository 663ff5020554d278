-- `assembling::limits::all_pairs` meets its contract: the pairs of the fields passed have been counted.
use Prim.Native.Nat.{◌*◌, ◌≤◌}
use mathlib.Core.Path.{◌≡◌}
use Rattle.prelude.specs.Lists.{at, sum_to}
use Rattle.assembling.specs.Parts.{pairs}
use Rattle.assembling.proofs.limits.all_pairs.Given as goal

abbrev pub invariant-loop-size : goal.invariant-loop-size
invariant-loop-size l = (l.sum ≡ sum_to l.size-index (λ i. pairs (at l.fn.sizes i))) × (l.sum ≤ 65536 * l.size-index)
