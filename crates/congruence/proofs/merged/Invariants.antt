-- `congruence::merged` meets its contract. The places below k are relabelled.
use Rattle.prelude.specs.Lists.{at}
use Rattle.congruence.specs.Closure.{relabel}
use Rattle.congruence.proofs.Replacing.{Replaced}
use Rattle.congruence.proofs.merged.Given as goal

abbrev pub invariant-loop-label : goal.invariant-loop-label
invariant-loop-label l = Replaced (λ m. relabel l.lo l.hi (at l.fn.labels m)) l.fn.labels l.label-index l.label-items
