-- `find_at::longest` meets its contract.
use Rattle.find_at.proofs.Searching.{ceilings_extent}
use Rattle.find_at.proofs.longest.Goals as goal

pub returns : goal.returns
returns c = ceilings_extent c.args.p c.extents-offsets.result c.extents-offsets.ensures
