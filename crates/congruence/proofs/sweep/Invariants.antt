-- `congruence::sweep` meets its contract. Where no label has changed, the terms below j have the labels of their twins.
use Prim.Native.Nat.{◌≤◌}
use Rattle.prelude.specs.Lists.{at}
use Rattle.layout.specs.Packed.{view}
use Rattle.congruence.proofs.Sweeps.{SweptTo}
use Rattle.congruence.proofs.sweep.Given as goal

abbrev pub invariant-loop-j : goal.invariant-loop-j
invariant-loop-j l = (l.j ≤ l.terms) × SweptTo (view l.p) (at l.initial.out) l.j (at l.out)
