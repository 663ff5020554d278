-- `least_sizes::edge` meets its contract: what lies below a is barren.
use Prim.Native.Nat.{◌≤◌, ◌-◌}
use Rattle.layout.specs.Packed.{view}
use Rattle.least_sizes.specs.Parts.{Edge}
use Rattle.least_sizes.proofs.edge.Given as goal

abbrev pub invariant-loop-a : goal.invariant-loop-a
invariant-loop-a l = Edge (view l.p) l.base l.sort l.lo l.b l.a × (l.b ≤ l.hi)

abbrev pub decreases-loop-a : goal.decreases-loop-a
decreases-loop-a l = l.b - l.a
