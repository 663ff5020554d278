-- `least_sizes::edge` meets its contract: what lies below a is barren.
use native.Mathlib.Omega.{arith}
use Rattle.least_sizes.proofs.Regions.{edge_lower, edge_higher}
use Rattle.least_sizes.proofs.edge.Goals as goal
use Rattle.least_sizes.proofs.edge.Goals.{then-probe, else-probe}

pub loop-a-preserved : goal.loop-a-preserved
loop-a-preserved c =
    let e = c.loop-a.invariant.0 in
    let n = c.moved_inside-m.ensures.least in
    let m = c.moved_inside-m.ensures.most in
    elim c.if-probe.branch [
      | then-probe w ↦ rw (w.a-is, w.b-is) (edge_lower _ _ _ _ _ _ _ e n m, omega arith)
      | else-probe w ↦ rw (w.a-is, w.b-is) (edge_higher _ _ _ _ _ _ _ e n m _ c.requires.searchable.sorted c.with_size-sizes.ensures (c.probe.ensures.no w.if-probe.false), c.loop-a.invariant.1)
    ]
