-- `writing::unforced_row` meets its contract: the cells passed hold what `unforced` gives.
use Prim.Native.Nat.{ℕ, ◌≤◌, ◌<◌}
use mathlib.Core.Path.{◌≡◌}
use lib.ListN.{length}
use Rattle.logic.specs.Sheet.{Sheet}
use Rattle.prelude.specs.Lists.{at}
use Rattle.tables.specs.Parts.{Packs}
use Rattle.writing.specs.Written.{filled_with, unforced_at}
use Rattle.writing.proofs.unforced_row.Given as goal

abbrev pub invariant-loop-col : goal.invariant-loop-col
invariant-loop-col l =
    (l.col ≤ l.columns)
    × (length l.cells ≡ 16)
    × ((sh : Sheet) (size c : ℕ → ℕ) → Packs sh l.p → l.symbol < length sh.symbols → l.fill ≡ filled_with sh c l.symbol → (j : ℕ) → j < l.col → at l.cells j ≡ unforced_at sh size c l.symbol l.row j)
