-- The interface: all lists with one entry from each of some ranges, in order. One box serves the sizes of the sorts, the codes of the terms
-- and the cells of a table.
use Rattle.std.specs.Prelude.{ℕ, List, [], ◌∷◌, ◌++◌, map}
use Rattle.prelude.specs.Lists.{run}

-- the numbers least, least + 1, .. , as many of them as said
pub record Range : Type 0 where
  pub least : ℕ
  pub many : ℕ

-- each of the heads in front of each of the tails
abbrev pub fronts : List ℕ → List (List ℕ) → List (List ℕ)
fronts [] tails = []
fronts (x ∷ xs) tails = map (λ (l : List ℕ). x ∷ l) tails ++ fronts xs tails

-- all lists in range, the list that comes first standing first
abbrev pub box : List Range → List (List ℕ)
box [] = [] ∷ []
box (r ∷ rs) = fronts (run r.least r.many) (box rs)
