-- `least_sizes::greatest_sizes` meets its contract: the ceilings passed are clipped.
use native.Mathlib.Omega.{arith}
use Rattle.least_sizes.proofs.Regions.{clipped_all, floors_exceed}
use Rattle.least_sizes.proofs.greatest_sizes.Goals as goal

pub returns-then-p-least : goal.returns-then-p-least
returns-then-p-least c =
    let h = c.if-p-least.true in
    let e = c.sum_of-least.ensures in
    λ size. floors_exceed _ size (omega arith)

pub returns : goal.returns
returns c = clipped_all _ _ _ _ c.loop-s-test.false c.loop-s.invariant.0 c.loop-s.invariant.1
