-- `assembling::limits::pairs_of` meets its contract: the pairs of the codes passed have been counted.
use Prim.Native.Nat.{suc, ◌-◌, ◌*◌, ◌≤◌, ◌<◌}
use mathlib.Core.Path.{◌≡◌}
use Rattle.prelude.specs.Lists.{sum_to}
use Rattle.assembling.proofs.limits.pairs_of.Given as goal

abbrev pub invariant-loop-c : goal.invariant-loop-c
invariant-loop-c l = (l.c ≤ l.n) × (l.n < 256) × (l.sum ≡ sum_to l.c (λ i. l.n - suc i)) × (l.sum ≤ 256 * l.c)
