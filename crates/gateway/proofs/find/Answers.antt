-- `gateway::find` meets its contract: what find gives back is small.
use mathlib.Core.Path.{sym, subst}
use Rattle.gateway.specs.Number.{Small}
use Rattle.gateway.proofs.Numbers.{find_small}
use Rattle.gateway.proofs.find.Goals as goal

pub found_number-requires : goal.found_number-requires
found_number-requires c = subst Small (sym c.find-found.ensures.result) (find_small _ _ _)
