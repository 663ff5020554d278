-- `text::put_cells` meets its contract.
use Rattle.text.specs.Text.{spaced}
use Rattle.text.proofs.Entries.{EntriesWritten}
use Rattle.text.proofs.put_cells.Given as goal

abbrev pub invariant-loop-i : goal.invariant-loop-i
invariant-loop-i l = EntriesWritten spaced 4 l.initial.out l.from l.cells l.out l.at l.i
