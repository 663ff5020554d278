-- `tables::in_bounds` meets its contract. The first s sorts are in bounds, and the sum of their sizes is kept.
use Prim.Native.Nat.{◌*◌, ◌≤◌}
use mathlib.Core.Path.{◌≡◌}
use Rattle.prelude.specs.Lists.{at}
use Rattle.tables.proofs.Bounds.{BoundsTo}
use Rattle.tables.proofs.in_bounds.Given as goal

abbrev pub invariant-loop-s : goal.invariant-loop-s
invariant-loop-s l = (l.s ≤ l.n) × (l.n ≡ l.p.sorts) × (l.sum ≤ 255 * l.s) × BoundsTo l.p (at l.sizes) l.s l.sum
