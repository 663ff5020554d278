-- `tables::extents` meets its contract. The offsets up to table f are right, and each adds the cells of the table before it.
use Prim.Native.Nat.{◌≤◌}
use mathlib.Core.Path.{◌≡◌}
use lib.ListN.{length}
use Rattle.prelude.specs.Lists.{at}
use Rattle.tables.proofs.Offsets.{OffsetsTo}
use Rattle.tables.proofs.extents.Given as goal

abbrev pub invariant-loop-f : goal.invariant-loop-f
invariant-loop-f l = (l.f ≤ l.n) × (l.n ≡ l.p.symbols) × (length l.offsets ≡ 65) × OffsetsTo l.p (at l.sizes) l.f l.offsets
