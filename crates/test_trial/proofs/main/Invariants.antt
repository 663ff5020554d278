-- `test_trial::main` is safe and ends.
use Prim.Native.Nat.{◌≤◌, ◌-◌}
use Rattle.test_trial.proofs.main.Given as goal

abbrev pub invariant-loop-k : goal.invariant-loop-k
invariant-loop-k l = l.k ≤ 4200
