-- The measure of `least_sizes::hunt` is how far the sizes of the region lie apart; the loop's invariant says that what has not been taken into
-- account still lies below `up`.
use Prim.Native.Nat.{◌-◌}
use Rattle.layout.specs.Packed.{view}
use Rattle.prelude.specs.Lists.{at, sum_to}
use Rattle.least_sizes.proofs.Regions.{Hunting}
use Rattle.least_sizes.proofs.+hunt.Given as goal

abbrev pub decreases-hunt : goal.decreases-hunt
decreases-hunt l = sum_to l.p.now.sorts (at l.high) - sum_to l.p.now.sorts (at l.low)

abbrev pub invariant-loop-s : goal.invariant-loop-s
invariant-loop-s l = Hunting (view l.p) (at l.low) (at l.fn.high) l.bound (at l.corner) l.initial.after l.after l.up l.s
