-- `solve::node` meets its contract: codes that are read off and not consistent leave none.
use Rattle.solve.proofs.Branching.{knowing_struck, read_dead}
use Rattle.solve.proofs.node.Goals as goal

pub branch-p-requires-in-Err-clause-never_struck : goal.branch-p-requires-in-Err-clause-never_struck
branch-p-requires-in-Err-clause-never_struck c = knowing_struck _ _ _ _ c.requires.knowing

pub returns-else-consistent : goal.returns-else-consistent
returns-else-consistent c =
    read_dead _ _ _ c.requires.searchable.sorted c.requires.small_sizes _ (knowing_struck _ _ _ _ c.requires.knowing) _ c.in-Ok.ensures (c.consistent.ensures.no c.if-consistent.false)
