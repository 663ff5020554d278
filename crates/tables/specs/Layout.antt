-- The interface: the layout of tables (docs/FORMAT.md, "Tables"): the sizes first, one per sort, then each symbol's table in the order of
-- the symbols. A symbol without parameters has one cell; the first argument chooses the row.
use Rattle.std.specs.Prelude.{ℕ, suc, ◌+◌, ◌*◌, ◌≤◌, ◌<◌, ◌≡◌, List, [], ◌∷◌, ◌++◌, map, length}
use Rattle.logic.specs.Sheet.{Sheet, Symbol, symbol_at}
use Rattle.prelude.specs.Tests.{Within}
use Rattle.prelude.specs.Lists.{at, sum_to, firsts}
use Rattle.prelude.specs.Limits.{most_codes}
use Rattle.logic.specs.Structure.{Structure}
use Rattle.logic.specs.Box.{box}

-- how many cells the table of a symbol with these parameters has
abbrev pub cells : (ℕ → ℕ) → List ℕ → ℕ
cells size [] = 1
cells size (s ∷ ss) = size s * cells size ss

-- the place of a cell in its table, by the codes of the arguments: row by row
abbrev pub place : (ℕ → ℕ) → List ℕ → List ℕ → ℕ
place size [] cs = 0
place size (s ∷ ss) [] = 0
place size (s ∷ ss) (c ∷ cs) = c * cells size ss + place size ss cs

-- where the table of symbol f starts; where all tables end
abbrev pub offset : Sheet → (ℕ → ℕ) → ℕ → ℕ
offset sh size f = length sh.bounds + sum_to f (λ g. cells size (symbol_at sh g).params)

abbrev pub extent : Sheet → (ℕ → ℕ) → ℕ
extent sh size = offset sh size (length sh.symbols)

-- the structure that tables hold: a sort's size is the byte of its number, a cell the byte at its place
abbrev pub decoded : Sheet → List ℕ → Structure
decoded sh t =
    record {
      size = at t;
      table = λ f cs. at t (offset sh (at t) f + place (at t) (symbol_at sh f).params cs);
    }

-- the tables of a structure, as bytes: the cells of each table in the order of their argument lists
abbrev pub table_bytes : Structure → ℕ → List ℕ → List ℕ
table_bytes M f params = map (M.table f) (box (map (λ s. record { least = 0; many = M.size s }) params))

abbrev pub tables_from : Structure → ℕ → List Symbol → List ℕ
tables_from M f [] = []
tables_from M f (g ∷ gs) = table_bytes M f g.params ++ tables_from M (suc f) gs

abbrev pub encoded : Structure → Sheet → List ℕ
encoded M sh = firsts (length sh.bounds) M.size ++ tables_from M 0 sh.symbols

-- tables are well-formed for a sheet (else cause 12): no size is missing, 0 or above the most codes, the length is right, and each entry lies
-- below the size of its symbol's sort
pub record WellLaid (sh : Sheet) (t : List ℕ) : Type 0 where
  pub sizes : length sh.bounds ≤ length t
  pub size : (s : ℕ) → s < length sh.bounds → Within 1 most_codes (at t s)
  pub extent : length t ≡ extent sh (at t)
  pub entry : (f : ℕ) → f < length sh.symbols → (k : ℕ) → k < cells (at t) (symbol_at sh f).params → at t (offset sh (at t) f + k) < at t (symbol_at sh f).result
