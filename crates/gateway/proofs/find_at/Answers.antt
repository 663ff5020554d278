-- `gateway::find_at` meets its contract: what find_at gives back is small.
use mathlib.Core.Path.{sym, subst}
use Rattle.gateway.specs.Number.{Small}
use Rattle.gateway.proofs.Numbers.{find_at_small}
use Rattle.gateway.proofs.find_at.Goals as goal

pub found_number-requires : goal.found_number-requires
found_number-requires c = subst Small (sym c.find_at-found_at.ensures.result) (find_at_small _ _ _ _)
