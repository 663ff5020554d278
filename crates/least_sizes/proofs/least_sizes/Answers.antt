-- `least_sizes::least_sizes` meets its contract.
use Rattle.least_sizes.proofs.Regions.{none_satisfiable}
use Rattle.least_sizes.proofs.least_sizes.Goals as goal

pub returns-then-not-probe : goal.returns-then-not-probe
returns-then-not-probe c = none_satisfiable _ _ c.requires.sorted c.in_ok-high.ensures (c.probe.ensures.no c.if-not-probe.true)
