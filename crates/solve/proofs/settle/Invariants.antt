-- `solve::settle` meets its contract: the codes of the terms passed are read off.
use Rattle.layout.specs.Packed.{view}
use Rattle.prelude.specs.Lists.{at}
use Rattle.solve.proofs.Branching.{ReadingOff}
use Rattle.solve.proofs.settle.Given as goal

abbrev pub invariant-loop-i : goal.invariant-loop-i
invariant-loop-i l = ReadingOff (view l.fn.p) (at l.decided) l.masks l.codes l.i
