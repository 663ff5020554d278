-- `solve::branch` meets its contract.
use mathlib.Core.Path.{refl, ap, ◌∙◌}
use Rattle.prelude.specs.Lists.{at}
use Rattle.solve.proofs.Branching.{branches}
use Rattle.solve.proofs.branch.Goals as goal

pub returns-clause-branches : goal.returns-clause-branches
returns-clause-branches c =
    branches _ _ _ c.requires.searchable.sorted c.requires.small_sizes c.args.masks.now c.requires.never_struck _ c.requires.pending
    (c.wide-size.ensures.0 ∙ ap (at c.args.sizes) c.wide-s.ensures.0)
    refl c.fresh.ensures c.codes_in_use-used.ensures
