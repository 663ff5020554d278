-- `congruence::weight` meets its contract. The sum so far is that of the labels passed, and each is a byte.
use Prim.Native.Nat.{◌≤◌, ◌*◌}
use mathlib.Core.Path.{◌≡◌}
use Rattle.prelude.specs.Lists.{at, sum_to}
use Rattle.congruence.proofs.weight.Given as goal

abbrev pub invariant-loop-label : goal.invariant-loop-label
invariant-loop-label l = (l.sum ≤ 255 * l.label-index) × (l.sum ≡ sum_to l.label-index (at l.fn.labels))
