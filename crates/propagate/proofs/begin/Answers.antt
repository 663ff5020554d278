-- `propagate::begin` meets its contract: the literals hold of all consistent codes.
use native.Mathlib.Omega.{arith}
use Rattle.propagate.proofs.Knowing.{begun}
use Rattle.propagate.proofs.begin.Goals as goal

pub returns : goal.returns
returns c =
    let m = c.lesser.ensures in
    λ size a k.
    begun _ a c.own_numbers.ensures (λ j h. k.same j (omega arith)) (λ j h. k.differ j (omega arith)) c.join_same.ensures c.mark_differ.ensures
