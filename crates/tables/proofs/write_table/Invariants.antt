-- `tables::write_table` meets its contract. The first rows are the grid so far.
use Prim.Native.Nat.{◌*◌}
use mathlib.Core.Path.{◌≡◌}
use lib.ListN.{length, take}
use Rattle.tables.specs.Grid.{grid}
use Rattle.tables.proofs.write_table.Given as goal

abbrev pub invariant-loop-row : goal.invariant-loop-row
invariant-loop-row l =
    (l.start ≡ l.row-index * l.columns) × (length l.out ≡ length l.initial.out) × (take l.start l.out ≡ grid l.fn.cells l.row-index l.columns)
