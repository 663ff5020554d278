-- Kinds 1 to 7 have their ranks, and no other kind has one.
use Rattle.layout.proofs.Causes.{no_rank}
use Rattle.layout.proofs.faults.rank_of.Goals as goal

pub returns-in_default : goal.returns-in_default
returns-in_default c = no_rank c.args.kind c.in_default.ensures
