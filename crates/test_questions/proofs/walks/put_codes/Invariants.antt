-- `test_questions::walks::put_codes` is safe and ends.
use Rattle.std.proofs.Common.{◌-◌, ◌≤◌}
use Rattle.test_questions.proofs.walks.put_codes.Given as goal

abbrev pub invariant-loop-k : goal.invariant-loop-k
invariant-loop-k l = (l.k ≤ l.most) × (l.most ≤ 12)

abbrev pub decreases-loop-k : goal.decreases-loop-k
decreases-loop-k l = l.most - l.k
