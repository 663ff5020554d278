-- `test_trial::bundles::replaced` is safe and ends.
use Prim.Native.Nat.{◌≤◌, ◌-◌}
use Rattle.test_trial.proofs.bundles.replaced.Given as goal

abbrev pub invariant-loop-place : goal.invariant-loop-place
invariant-loop-place l = l.place ≤ l.n

abbrev pub decreases-loop-place : goal.decreases-loop-place
decreases-loop-place l = l.n - l.place
