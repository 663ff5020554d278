-- For the proofs only. What the tables hold on the way, over the functions that view a parsed sheet.
use Rattle.std.specs.Prelude.{ℕ, zero, suc, ◌<◌, ◌≡◌, Bool, ◌&&◌, cond, List, eqb}
use Rattle.prelude.specs.Lists.{at}
use Rattle.logic.specs.Problem.{Problem}
use Rattle.tables.specs.Grid.{cell}

-- Row and column of a cell are the codes of its first and of its second argument, 0 where it is missing.
abbrev pub row_of : List ℕ → ℕ
row_of xs = at xs 0

abbrev pub column_of : List ℕ → ℕ
column_of xs = at xs 1

-- term i reaches the cell of symbol f in this row and column
abbrev pub reaches : Problem → (ℕ → ℕ) → ℕ → ℕ → ℕ → ℕ → Bool
reaches P c f row col i = eqb (P.symbol i) f && (eqb (c (P.arg0 i)) row && eqb (c (P.arg1 i)) col)

-- the code of the first of the n terms from i on that reaches the cell; where none does, the code d
abbrev pub held : Problem → (ℕ → ℕ) → ℕ → ℕ → ℕ → ℕ → ℕ → ℕ → ℕ
held P c f row col d i zero = d
held P c f row col d i (suc n) = cond (reaches P c f row col i) (c i) (held P c f row col d (suc i) n)

-- so many rows and columns of a table hold what the n terms from i on say; where none reaches, what u says of row and column
abbrev pub Filled : Problem → (ℕ → ℕ) → ℕ → (ℕ → ℕ → ℕ) → ℕ → ℕ → ℕ → ℕ → List (List ℕ) → Type 0
Filled P c f u rows columns i n t =
    (row col : ℕ) → row < rows → col < columns → cell t row col ≡ held P c f row col (u row col) i n
