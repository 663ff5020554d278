-- `congruence::saturated` meets its contract. Each turn but the last lowers the sum of the labels.
use Rattle.prelude.specs.Lists.{at, sum_to}
use Rattle.layout.specs.Packed.{view}
use Rattle.congruence.specs.Parts.{Coarsening}
use Rattle.congruence.proofs.saturated.Given as goal

abbrev pub invariant-loop-p : goal.invariant-loop-p
invariant-loop-p l = Coarsening (view l.p) (at l.initial.out) (at l.out)

abbrev pub decreases-loop-p : goal.decreases-loop-p
decreases-loop-p l = sum_to 128 (at l.out)
