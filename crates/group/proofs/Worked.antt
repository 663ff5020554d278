-- The definition computes: the answers to two of the worked sheets of docs/FORMAT.md. The differ statements play no part.
use Prim.Native.Nat.{ℕ}
use mathlib.Core.Path.{◌≡◌, refl, ap, sym, ◌∙◌}
use mathlib.Core.List.{List, [], ◌∷◌}
use Rattle.prelude.specs.Lists.{at}
use Rattle.logic.specs.Sheet.{Sheet}
use Rattle.layout.specs.Layout.{Reading, accepted, refused, cause, read_from, reading}
use Rattle.congruence.specs.Closure.{stated, round, rounds, labels}
use Rattle.std.specs.Prelude.{Ok}
use Rattle.group.specs.Grouping.{grouping}

-- sheet 10, a record to a line: x same f(f(x)), x differs from f(x)
unfoldable pub twice : List ℕ
twice =
    2 ∷ 0 ∷ 1 ∷ 0 ∷ 1 ∷ 16
    ∷ 1 ∷ 0 ∷ 2 ∷ 0 ∷ 0
    ∷ 2 ∷ 0 ∷ 2 ∷ 0 ∷ 0 ∷ 0
    ∷ 1 ∷ 0 ∷ 3 ∷ 0 ∷ 0
    ∷ 2 ∷ 0 ∷ 3 ∷ 0 ∷ 1 ∷ 0
    ∷ 2 ∷ 0 ∷ 3 ∷ 0 ∷ 1 ∷ 1
    ∷ 2 ∷ 0 ∷ 4 ∷ 0 ∷ 0 ∷ 2
    ∷ 2 ∷ 0 ∷ 5 ∷ 0 ∷ 0 ∷ 1
    ∷ 1 ∷ 0 ∷ 6 ∷ 0 ∷ 16 ∷ []

-- sheet 11: x same f applied 3 times, and 5 times; x differs from f(x)
unfoldable pub repeatedly : List ℕ
repeatedly =
    2 ∷ 0 ∷ 1 ∷ 0 ∷ 1 ∷ 16
    ∷ 1 ∷ 0 ∷ 2 ∷ 0 ∷ 0
    ∷ 2 ∷ 0 ∷ 2 ∷ 0 ∷ 0 ∷ 0
    ∷ 1 ∷ 0 ∷ 3 ∷ 0 ∷ 0
    ∷ 2 ∷ 0 ∷ 3 ∷ 0 ∷ 1 ∷ 0
    ∷ 2 ∷ 0 ∷ 3 ∷ 0 ∷ 1 ∷ 1
    ∷ 2 ∷ 0 ∷ 3 ∷ 0 ∷ 1 ∷ 2
    ∷ 2 ∷ 0 ∷ 3 ∷ 0 ∷ 1 ∷ 3
    ∷ 2 ∷ 0 ∷ 3 ∷ 0 ∷ 1 ∷ 4
    ∷ 2 ∷ 0 ∷ 4 ∷ 0 ∷ 0 ∷ 3
    ∷ 2 ∷ 0 ∷ 4 ∷ 0 ∷ 0 ∷ 5
    ∷ 2 ∷ 0 ∷ 5 ∷ 0 ∷ 0 ∷ 1
    ∷ 1 ∷ 0 ∷ 6 ∷ 0 ∷ 16 ∷ []

-- f of f gives back x, and f need not
pub answers_twice : (grouping twice 0 ≡ Ok 0) × (grouping twice 1 ≡ Ok 1) × (grouping twice 2 ≡ Ok 0)
unfolding twice grouping reading read_from cause labels rounds round stated
answers_twice = (refl, refl, refl)

-- f gives back x
pub answers_repeatedly : grouping repeatedly 1 ≡ Ok 0
unfolding repeatedly grouping reading read_from cause labels rounds round stated
answers_repeatedly = refl

-- one round of the congruence rule is not enough to see it
abbrev after_one : Reading → ℕ
after_one (accepted sh) = at (round sh (stated sh)) 1
after_one (refused n i) = 0

computed : after_one (reading repeatedly) ≡ 1
unfolding repeatedly reading read_from cause round stated
computed = refl

pub one_round : (sh : Sheet) → reading repeatedly ≡ accepted sh → at (round sh (stated sh)) 1 ≡ 1
one_round sh q = sym (ap after_one q) ∙ computed
