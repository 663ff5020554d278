-- `writing::symbol_table` meets its contract: the terms passed have been put into the table of unforced codes that the loop begins with.
use Rattle.prelude.specs.Lists.{at}
use Rattle.layout.specs.Packed.{view}
use Rattle.tables.specs.Grid.{cell}
use Rattle.writing.proofs.Filling.{FilledFrom}
use Rattle.writing.proofs.symbol_table.Given as goal

abbrev pub invariant-loop-i : goal.invariant-loop-i
invariant-loop-i l = FilledFrom (view l.p) (at l.codes) l.symbol (cell l.initial.t) 16 16 l.i l.t
