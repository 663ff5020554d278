-- `test_trial::bundles::of_one` is safe and ends.
use Prim.Native.Nat.{◌≤◌, ◌-◌}
use Rattle.test_trial.proofs.bundles.of_one.Given as goal

abbrev pub invariant-loop : goal.invariant-loop
invariant-loop l = l.counter ≤ 36

abbrev pub decreases-loop : goal.decreases-loop
decreases-loop l = 36 - l.counter
