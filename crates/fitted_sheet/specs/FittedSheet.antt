-- Interface. The fitted sheet (docs/FORMAT.md, "The fitted sheet"): the sheet that says of its old names that their tables are just those of a structure.
-- It is to be read from top to bottom beside that page's table; `encode` of the crate layout gives its bytes.
use Rattle.std.specs.Prelude.{ℕ, suc, ◌+◌, ◌-◌, Bool, true, false, ◌||◌, List, [], ◌∷◌, ◌++◌, map, length, ltb}
use Rattle.prelude.specs.Lists.{sum_to, collect}
use Rattle.prelude.specs.Limits.{most_symbols, most_terms, most_literals}
use Rattle.logic.specs.Sheet.{Sheet, Bound, Symbol, Term, Literal, symbol_at}
use Rattle.logic.specs.Structure.{Structure}
use Rattle.logic.specs.Order.{sum_of}
use Rattle.logic.specs.Box.{box}
use Rattle.tables.specs.Layout.{cells, place}

-- The fields, floor and ceiling at the size found.
abbrev pub sized_bounds : Sheet → Structure → List Bound
sized_bounds sh M = collect (length sh.bounds) (λ s. record { floor = M.size s; ceiling = M.size s } ∷ [])

-- The names behind the old ones: one without arguments for each code, by field and then code.
abbrev pub code_symbol : ℕ → Symbol
code_symbol s = record { result = s; params = [] }

abbrev pub code_symbols : Sheet → Structure → List Symbol
code_symbols sh M = collect (length sh.bounds) (λ s. collect (M.size s) (λ c. code_symbol s ∷ []))

-- The expressions for those codes, in that order.
abbrev pub code_terms : Sheet → Structure → List Term
code_terms sh M = collect (sum_of M sh) (λ k. record { symbol = length sh.symbols + k; args = [] } ∷ [])

-- So code c of field s has the expression of this number.
abbrev pub code_term : Structure → ℕ → ℕ → ℕ
code_term M s c = sum_to s M.size + c

-- the cells of a name's table in table order, each by the codes of its arguments
abbrev pub table_cells : Sheet → Structure → ℕ → List (List ℕ)
table_cells sh M f = box (map (λ s. record { least = 0; many = M.size s }) (symbol_at sh f).params)

-- the expressions of codes, one of each of these fields
abbrev pub code_args : Structure → List ℕ → List ℕ → List ℕ
code_args M [] cs = []
code_args M (s ∷ ss) [] = []
code_args M (s ∷ ss) (c ∷ cs) = code_term M s c ∷ code_args M ss cs

-- An expression for each table cell, in table order: the old name applied to the expressions of the cell's codes.
abbrev pub cell_expression : Sheet → Structure → ℕ → List ℕ → Term
cell_expression sh M f cs = record { symbol = f; args = code_args M (symbol_at sh f).params cs }

abbrev pub table_terms : Sheet → Structure → ℕ → List Term
table_terms sh M f = map (cell_expression sh M f) (table_cells sh M f)

abbrev pub cell_terms : Sheet → Structure → List Term
cell_terms sh M = collect (length sh.symbols) (table_terms sh M)

-- The expression of a cell has this number: before it stand the expressions of the codes, those of the tables before, and those of the cells before.
abbrev pub cell_term : Sheet → Structure → ℕ → List ℕ → ℕ
cell_term sh M f cs = sum_of M sh + (sum_to f (λ g. cells M.size (symbol_at sh g).params) + place M.size (symbol_at sh f).params cs)

-- Differ for each pair of codes of one field, fields in order: code c and each code above it, for one c after the other.
abbrev pub differ : ℕ → ℕ → Literal
differ a b = record { equal = false; left = a; right = b }

abbrev pub differs : Sheet → Structure → List Literal
differs sh M =
    collect (length sh.bounds) (λ s. collect (M.size s) (λ c. collect (M.size s - suc c) (λ k. differ (code_term M s c) (code_term M s (suc c + k)) ∷ [])))

-- Same for each cell and its code, cells in table order.
abbrev pub same : ℕ → ℕ → Literal
same a b = record { equal = true; left = a; right = b }

abbrev pub table_sames : Sheet → Structure → ℕ → List Literal
table_sames sh M f = map (λ cs. same (cell_term sh M f cs) (code_term M (symbol_at sh f).result (M.table f cs))) (table_cells sh M f)

abbrev pub sames : Sheet → Structure → List Literal
sames sh M = collect (length sh.symbols) (table_sames sh M)

-- THE FITTED SHEET, the sum being its total. It has no fills: every cell is said.
unfoldable pub fitted_sheet : Sheet → Structure → Sheet
fitted_sheet sh M =
    record {
      bounds = sized_bounds sh M;
      symbols = sh.symbols ++ code_symbols sh M;
      terms = code_terms sh M ++ cell_terms sh M;
      literals = differs sh M ++ sames sh M;
      fills = [];
      total = sum_of M sh;
    }

-- Cause 14: a sheet passes a limit of kinds 2 to 5, the statements of kinds 4 and 5 counted together.
abbrev pub too_many : Sheet → Bool
too_many sh = ltb most_symbols (length sh.symbols) || ltb most_terms (length sh.terms) || ltb most_literals (length sh.literals)
