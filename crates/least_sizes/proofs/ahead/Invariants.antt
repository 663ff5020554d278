-- `least_sizes::ahead` meets its contract: equal sums, and equal places so far.
use Prim.Native.Nat.{ℕ, ◌<◌}
use mathlib.Core.Path.{◌≡◌}
use Rattle.prelude.specs.Lists.{at, sum_to}
use Rattle.least_sizes.proofs.ahead.Given as goal

abbrev pub invariant-loop-s : goal.invariant-loop-s
invariant-loop-s l = (sum_to l.n (at l.a) ≡ sum_to l.n (at l.b)) × ((k : ℕ) → k < l.s → at l.a k ≡ at l.b k)
