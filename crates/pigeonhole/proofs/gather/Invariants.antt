-- `pigeonhole::gather` meets its contract.
use Rattle.pigeonhole.specs.Parts.{Gathered}
use Rattle.pigeonhole.proofs.gather.Given as goal

abbrev pub invariant-loop-i : goal.invariant-loop-i
invariant-loop-i l = Gathered l.terms l.known l.f l.i l.g
