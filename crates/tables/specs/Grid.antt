-- The interface: one symbol's table as rows of cells, as the code holds it before it is written.
use Rattle.std.specs.Prelude.{ℕ, zero, suc, ◌≡◌, List, [], ◌++◌, get_or}
use Rattle.prelude.specs.Lists.{at, firsts}

-- the cell of a row and a column
abbrev pub cell : List (List ℕ) → ℕ → ℕ → ℕ
cell cells row column = at (get_or cells row []) column

-- u is the table t with one cell set
pub record Put (t u : List (List ℕ)) (row column code : ℕ) : Type 0 where
  pub here : cell u row column ≡ code
  pub elsewhere : (a b : ℕ) → (a ≡ row → b ≡ column → ⊥) → cell u a b ≡ cell t a b

-- so many rows of so many cells, row by row
abbrev pub grid : List (List ℕ) → ℕ → ℕ → List ℕ
grid cells zero columns = []
grid cells (suc rows) columns = grid cells rows columns ++ firsts columns (cell cells rows)
