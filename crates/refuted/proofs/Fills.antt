-- There are such sheets as the wrong programs about fills speak of: one with a second fill of a name, and one whose second fill has another field as well. Both are
-- read by computation.
use mathlib.Core.Path.{◌≡◌, refl}
use mathlib.Core.List.{List, ◌++◌}
use Prim.Native.Nat.{ℕ}
use Rattle.layout.specs.Layout.{refused, reading, read_from, cause}
use Rattle.worked.specs.Worked.{field, name, constant, fill, total}

-- two fields, a name and an expression of each; the first name is filled twice
abbrev pub twice : List ℕ → List ℕ
twice second = field 1 1 ++ field 1 1 ++ name 0 ++ name 1 ++ constant 0 ++ constant 1 ++ fill 0 0 ++ second ++ total 2

pub second_fill : reading (twice (fill 0 0)) ≡ refused 16 38
unfolding reading read_from cause
second_fill = refl

pub second_misfit : reading (twice (fill 0 1)) ≡ refused 7 38
unfolding reading read_from cause
second_misfit = refl
