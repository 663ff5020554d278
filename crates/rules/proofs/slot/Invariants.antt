-- `rules::slot` meets its contract: every place is below 256.
use Prim.Native.Nat.{◌<◌, ◌≤◌}
use Rattle.rules.proofs.slot.Given as goal

abbrev pub invariant-loop-tried : goal.invariant-loop-tried
invariant-loop-tried l = (l.h < 256) × (l.tried ≤ 256)
