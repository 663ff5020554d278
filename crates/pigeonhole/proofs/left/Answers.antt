-- `pigeonhole::left` meets its contract.
use mathlib.Core.Path.{◌≡◌, refl, ap, ◌∙◌}
use Rattle.pigeonhole.specs.Parts.{left_below}
use Rattle.pigeonhole.proofs.Counting.{left_step}
use native.Mathlib.Omega.{arith}
use Rattle.pigeonhole.proofs.left.Goals as goal

pub loop-v-init : goal.loop-v-init
unfolding left_below
loop-v-init c = (omega arith, omega arith, refl)

pub loop-v-preserved : goal.loop-v-preserved
loop-v-preserved c = (omega arith, omega arith, left_step _ _ _ c.loop-v.invariant.2)

pub returns : goal.returns
returns c =
    let l = c.loop-v-test.false in
    let i = c.loop-v.invariant in
    let e : c.loop-v.v ≡ 16 = omega arith in
    (i.2 ∙ ap (left_below _) e, omega arith)
