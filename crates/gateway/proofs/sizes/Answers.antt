-- `gateway::sizes` meets its contract: what sizes gives back is small.
use mathlib.Core.Path.{sym, subst}
use Rattle.gateway.specs.Number.{Small}
use Rattle.gateway.proofs.Numbers.{sizes_small}
use Rattle.gateway.proofs.sizes.Goals as goal

pub found_number-requires : goal.found_number-requires
found_number-requires c = subst Small (sym c.sizes-sized.ensures.result) (sizes_small _ _)
