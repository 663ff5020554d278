-- `assembling::starts_of` meets its contract: the sums before the fields passed stand in their places.
use Prim.Native.Nat.{ℕ, ◌≤◌, ◌<◌}
use mathlib.Core.Path.{◌≡◌}
use lib.ListN.{length}
use Rattle.prelude.specs.Lists.{at, sum_to}
use Rattle.assembling.proofs.starts_of.Given as goal

abbrev pub invariant-loop-s : goal.invariant-loop-s
invariant-loop-s l = (l.s ≤ l.n) × (length l.starts ≡ 8) × (l.sum ≡ sum_to l.s (at l.sizes)) × (l.sum < 256) × ((i : ℕ) → i < l.s → at l.starts i ≡ sum_to i (at l.sizes))
