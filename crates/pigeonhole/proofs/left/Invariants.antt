-- `pigeonhole::left` meets its contract.
use Prim.Native.Nat.{◌≤◌}
use mathlib.Core.Path.{◌≡◌}
use Rattle.pigeonhole.specs.Parts.{left_below}
use Rattle.pigeonhole.proofs.left.Given as goal

abbrev pub invariant-loop-v : goal.invariant-loop-v
invariant-loop-v l = (l.v ≤ 16) × (l.n ≤ l.v) × (l.n ≡ left_below l.w l.v)
