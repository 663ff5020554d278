-- `text::put_hex` meets its contract.
use Rattle.text.specs.Text.{hex}
use Rattle.text.proofs.Entries.{EntriesWritten}
use Rattle.text.proofs.put_hex.Given as goal

abbrev pub invariant-loop-b : goal.invariant-loop-b
invariant-loop-b l = EntriesWritten hex 2 l.initial.out l.from l.s l.out l.at l.b-index
