-- `least_sizes::greatest_sizes` meets its contract: the ceilings passed are clipped.
use Prim.Native.Nat.{◌+◌}
use mathlib.Core.Path.{◌≡◌}
use Rattle.layout.specs.Packed.{view}
use Rattle.prelude.specs.Lists.{at, sum_to}
use Rattle.least_sizes.proofs.Regions.{Clipped}
use Rattle.least_sizes.proofs.greatest_sizes.Given as goal

abbrev pub invariant-loop-s : goal.invariant-loop-s
invariant-loop-s l = ((l.slack + sum_to l.p.sorts (at l.p.floor) ≡ l.p.total) × Clipped (view l.p) l.slack l.high l.s)
