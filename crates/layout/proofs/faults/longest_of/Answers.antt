-- The code's table and `lengths` are the same list.
use mathlib.Core.Path.{refl}
use Rattle.layout.proofs.faults.longest_of.Goals as goal

pub returns : goal.returns
returns c = refl
