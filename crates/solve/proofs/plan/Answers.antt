-- `solve::plan` meets its contract.
use Rattle.solve.proofs.Branching.{fit_mask, knowing_struck}
use Rattle.solve.proofs.plan.Goals as goal

pub propagate-requires-clause-fit_mask : goal.propagate-requires-clause-fit_mask
propagate-requires-clause-fit_mask c = fit_mask _ _ c.requires.searchable.sorted c.requires.small_sizes

pub propagate-requires-clause-knowing : goal.propagate-requires-clause-knowing
propagate-requires-clause-knowing c = λ a k x. c.begin-k.ensures _ a k

pub branch-p-requires-clause-never_struck : goal.branch-p-requires-clause-never_struck
branch-p-requires-clause-never_struck c = knowing_struck _ _ _ _ c.in-Ok.ensures
