-- `find_at::are_allowed` meets its contract.
use mathlib.Core.Path.{◌∙◌}
use Rattle.find_at.proofs.Sizes.{other_number, right_number}
use Rattle.find_at.proofs.are_allowed.Goals as goal

pub returns-then-sizes-n : goal.returns-then-sizes-n
returns-then-sizes-n c sh k = other_number sh c.args.p k c.args.sizes.now c.if-sizes-n.true

pub returns : goal.returns
returns c sh k =
    let m = c in
    c.in_bounds.ensures sh k ∙ right_number sh m.args.p k m.args.sizes.now c.if-sizes-n.false c.sizes_of-given.result c.sizes_of-given.ensures
