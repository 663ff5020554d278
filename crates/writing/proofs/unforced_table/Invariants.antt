-- `writing::unforced_table` meets its contract: the rows passed hold what `unforced` gives, as far as the table goes.
use Prim.Native.Nat.{ℕ, ◌≤◌, ◌<◌}
use mathlib.Core.Path.{◌≡◌}
use lib.ListN.{length}
use Rattle.logic.specs.Sheet.{Sheet}
use Rattle.tables.specs.Grid.{cell}
use Rattle.tables.specs.Parts.{Packs}
use Rattle.writing.specs.Written.{filled_with, unforced_at}
use Rattle.writing.proofs.unforced_table.Given as goal

abbrev pub invariant-loop-row : goal.invariant-loop-row
invariant-loop-row l =
    (l.row ≤ l.rows)
    × (length l.t ≡ 16)
    × ((sh : Sheet) (size c : ℕ → ℕ) → Packs sh l.p → l.symbol < length sh.symbols → l.fill ≡ filled_with sh c l.symbol → (i j : ℕ) → i < l.row → j < l.columns → cell l.t i j ≡ unforced_at sh size c l.symbol i j)
