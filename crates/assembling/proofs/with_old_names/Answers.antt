-- `assembling::with_old_names` meets its contract: the arrays of the names are those of the old sheet.
use mathlib.Core.Path.{ap₂, ◌∙◌}
use Rattle.assembling.proofs.Growing.{names_from, names_packed}
use Rattle.assembling.proofs.with_old_names.Goals as goal

pub returns : goal.returns
returns c sh n size k e = ap₂ names_from e k.same ∙ names_packed sh n size
