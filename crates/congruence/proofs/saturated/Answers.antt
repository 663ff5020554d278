-- `congruence::saturated` meets its contract. Each turn but the last lowers the sum of the labels.
use native.Mathlib.Omega.{arith}
use Prim.Native.Nat.{ℕ, ◌≤◌, ◌<◌}
use mathlib.Core.Path.{◌≡◌, sym, ◌∙◌}
use Rattle.prelude.proofs.Lists.{sum_to_monotone, sum_to_equal}
use Rattle.congruence.proofs.Labels.{step_none, step_more}
use Rattle.congruence.proofs.saturated.Goals as goal

falls : (x y a b : ℕ) → x ≡ a → y ≡ b → a ≤ b → (x ≡ y → ⊥) → a < b
falls x y a b ex ey no_more differ = omega arith

pub loop-p-init : goal.loop-p-init
loop-p-init c = step_none _ _

pub returns-then-weight : goal.returns-then-weight
returns-then-weight c =
    let m = c in
    let swept = c.sweep-next.ensures in
    let equal = sym c.weight.ensures ∙ c.if-weight.true ∙ c.weight-in-loop-p.ensures in
    (step_more _ _ _ _ m.loop-p.invariant swept.step, swept.closed (sum_to_equal 128 _ _ swept.step.lower equal))

-- a weight that is no larger, and not the same, is smaller

pub loop-p-smaller : goal.loop-p-smaller
loop-p-smaller c =
    let m = c in
    let swept = c.sweep-next.ensures in
    falls _ _ _ _ c.weight.ensures c.weight-in-loop-p.ensures (sum_to_monotone 128 _ _ swept.step.lower) c.if-weight.false

pub loop-p-preserved : goal.loop-p-preserved
loop-p-preserved c =
    let m = c in
    step_more _ _ _ _ m.loop-p.invariant c.sweep-next.ensures.step
