-- `pigeonhole::arguments` meets its contract.
use Prim.Native.Nat.{ℕ, ◌<◌}
use mathlib.Core.Path.{◌≡◌}
use lib.ListN.{length}
use Rattle.prelude.specs.Lists.{at}
use Rattle.pigeonhole.proofs.arguments.Given as goal

abbrev pub invariant-loop-a : goal.invariant-loop-a
invariant-loop-a l = (length l.r ≡ l.a-index) × ((b : ℕ) → b < l.a-index → at l.list b < 128 → at l.r b ≡ at l.args (at l.list b))
