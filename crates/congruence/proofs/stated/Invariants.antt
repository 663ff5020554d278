-- `congruence::stated` meets its contract. The same statements below k hold of the labels.
use Prim.Native.Nat.{◌≤◌}
use Rattle.prelude.specs.Lists.{at}
use Rattle.layout.specs.Packed.{view}
use Rattle.congruence.proofs.Sweeps.{StatedTo}
use Rattle.congruence.proofs.stated.Given as goal

abbrev pub invariant-loop-k : goal.invariant-loop-k
invariant-loop-k l = (l.k ≤ l.literals) × StatedTo (view l.p) (at l.initial.out) l.k (at l.out)
