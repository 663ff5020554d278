-- `solve::solve` meets its contract: what the literals say is known at first.
use Rattle.solve.proofs.solve.Goals as goal

pub descend-requires-clause-knowing : goal.descend-requires-clause-knowing
descend-requires-clause-knowing c = λ a k x. c.begin-k.ensures _ a k
