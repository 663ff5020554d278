-- `pigeonhole::strike_crowds` meets its contract.
use Rattle.knowledge.specs.Knows.{Struck}
use Rattle.rules.specs.Reasons.{KnownLawful}
use Rattle.pigeonhole.proofs.strike_crowds.Given as goal

abbrev pub invariant-loop-i : goal.invariant-loop-i
invariant-loop-i l = Struck (KnownLawful l.terms l.initial.known) l.initial.known l.known
