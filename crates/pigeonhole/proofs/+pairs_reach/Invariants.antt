-- The measure of `pigeonhole::pairs` and `pigeonhole::reach` is how many calls deep they can still go: two for each level.
use Prim.Native.Nat.{◌+◌, ◌*◌}
use Rattle.pigeonhole.proofs.+pairs_reach.Given as goal

abbrev pub decreases-pairs : goal.decreases-pairs
decreases-pairs l = 2 * l.levels + 1

abbrev pub decreases-reach : goal.decreases-reach
decreases-reach l = 2 * l.levels
