-- The definition computes: the answers to two of the worked sheets of docs/FORMAT.md. The differ statements play no part.
use mathlib.Core.Path.{◌≡◌, refl}
use mathlib.Core.Bool.{true, false}
use Rattle.layout.specs.Layout.{cause, read_from, reading}
use Rattle.congruence.specs.Closure.{stated, round, rounds, labels}
use Rattle.group.proofs.Worked.{twice, repeatedly}
use Rattle.std.specs.Prelude.{Ok}
use Rattle.forced.specs.Forcing.{forcing}

-- f need not give back x, but f of f does
pub answers_twice : (forcing twice 0 1 ≡ Ok false) × (forcing twice 0 2 ≡ Ok true)
unfolding twice forcing reading read_from cause labels rounds round stated
answers_twice = (refl, refl)

-- f gives back x
pub answers_repeatedly : forcing repeatedly 0 1 ≡ Ok true
unfolding repeatedly forcing reading read_from cause labels rounds round stated
answers_repeatedly = refl
