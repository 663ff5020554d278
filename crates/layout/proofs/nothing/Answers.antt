-- Every array is padding.
use Rattle.layout.specs.Packed.{packed}
use mathlib.Core.Path.{refl}
use Rattle.layout.proofs.nothing.Goals as goal

pub returns : goal.returns
unfolding packed
returns c = refl
