-- `least_sizes::widen` meets its contract: the box stays barren, and above the sizes that it began with.
use Prim.Native.Nat.{ℕ, ◌+◌, ◌<◌, ◌-◌}
use mathlib.Core.Path.{◌≡◌, refl, ap}
use native.Mathlib.Omega.{arith}
use Rattle.least_sizes.proofs.Regions.{widening_more}
use Rattle.least_sizes.proofs.widen.Goals as goal
use Rattle.least_sizes.proofs.widen.Goals.{then-lo-hi+then-lo-v, then-lo-hi+else-lo-v, else-lo-hi}

less_more : (x y : ℕ) → x < y → y - 1 + 1 ≡ y
less_more x y h = omega arith

pub loop-s-preserved : goal.loop-s-preserved
loop-s-preserved c =
    let k = c.loop-s.invariant in
    elim c.if-lo-hi.branch [
      | then-lo-hi+then-lo-v w ↦
          rw w.corner-is
          (widening_more _ _ _ _ _ c.loop-s.s _ _ _ _ c.requires.searchable.sorts c.loop-s-test.true k (ap (λ (n : ℕ). n + 1) c.wide-lo.ensures.0) (ap (λ (n : ℕ). n + 1) c.wide-hi.ensures.0) w.edge-v.ensures w.if-lo-v.true (less_more _ _ w.if-lo-v.true) refl)
      | then-lo-hi+else-lo-v w ↦ rw w.corner-is k
      | else-lo-hi w ↦ rw w.corner-is k
    ]
