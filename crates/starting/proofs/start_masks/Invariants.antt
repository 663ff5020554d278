-- `starting::start_masks` meets its contract.
use Rattle.knowledge.specs.Knows.{Struck}
use Rattle.starting.specs.Given.{Fixed}
use Rattle.starting.proofs.start_masks.Given as goal

abbrev pub invariant-loop-i : goal.invariant-loop-i
invariant-loop-i l = Struck (Fixed l.terms l.initial.known.labels l.sizes l.decided) l.initial.known l.known
