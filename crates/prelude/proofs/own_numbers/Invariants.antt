-- The places below k hold their own numbers.
use Rattle.std.proofs.Common.{◌≡◌, ℕ, ◌<◌, ◌≤◌, length}
use Rattle.prelude.specs.Lists.{at}
use Rattle.prelude.proofs.own_numbers.Given as goal

abbrev pub invariant-loop-k : goal.invariant-loop-k
invariant-loop-k l = (length l.numbers ≡ 128) × (l.k ≤ 128) × ((j : ℕ) → j < l.k → at l.numbers j ≡ j)
