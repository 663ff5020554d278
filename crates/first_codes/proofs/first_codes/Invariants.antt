-- `first_codes::first_codes` meets its contract: the terms passed are as low as they can be, and decided.
use Rattle.layout.specs.Packed.{view}
use Rattle.prelude.specs.Lists.{at}
use Rattle.first_codes.proofs.Lowering.{Lowered}
use Rattle.first_codes.proofs.first_codes.Given as goal

abbrev pub invariant-loop-i : goal.invariant-loop-i
invariant-loop-i l = Lowered (view l.p) (at l.sizes) l.model l.decided l.i
