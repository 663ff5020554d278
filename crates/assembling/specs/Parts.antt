-- What the functions that put the fitted sheet together work from, and what each adds to a parsed sheet.
use Rattle.std.specs.Prelude.{ℕ, suc, ◌+◌, ◌-◌, ◌≤◌, ◌<◌, ◌≡◌, List, [], ◌∷◌, ◌++◌, length, take, drop}
use Rattle.prelude.specs.Lists.{at, sum_to, collect}
use Rattle.prelude.specs.Limits.{most_codes, most_total}
use Rattle.logic.specs.Sheet.{Sheet, Symbol, Term, Literal, symbol_at}
use Rattle.logic.specs.Structure.{Structure, Interprets}
use Rattle.logic.specs.Order.{sum_of}
use Rattle.layout.specs.Packed.{packed}
use Rattle.layout.specs.Parts.{payload_bytes}
use Rattle.layout.specs.declared.Parsed.{Parsed}
use Rattle.layout.specs.declared.Payload.{Payload}
use Rattle.tables.specs.Layout.{cells, offset, extent, table_bytes}
use Rattle.tables.specs.Parts.{Packs}
use Rattle.fitted_sheet.specs.FittedSheet.{code_args, differ, same}

-- ---- what is added
abbrev pub bare_term : ℕ → Term
bare_term f = record { symbol = f; args = [] }

-- an expression and each of so many behind it differ
abbrev pub differs_above : ℕ → ℕ → List Literal
differs_above first many = collect many (λ k. differ first (first + suc k) ∷ [])

-- and so for each of the codes of a field, whose first code has the expression `start`
abbrev pub differs_of : ℕ → ℕ → List Literal
differs_of start size = collect size (λ c. differs_above (start + c) (size - suc c))

-- how many pairs n codes have: each with those above it
abbrev pub pairs : ℕ → ℕ
pairs n = sum_to n (λ c. n - suc c)

-- the expressions from a number on are the same as those of the codes l of a field, whose first code has the expression `start`
abbrev pub sames_of : ℕ → ℕ → List ℕ → List Literal
sames_of number start l = collect (length l) (λ k. same (number + k) (start + at l k) ∷ [])

-- a sheet with more names, expressions, statements behind its own
abbrev pub more_symbols : Sheet → List Symbol → Sheet
more_symbols sh l =
    record { bounds = sh.bounds; symbols = sh.symbols ++ l; terms = sh.terms; literals = sh.literals; fills = sh.fills; total = sh.total }

abbrev pub more_terms : Sheet → List Term → Sheet
more_terms sh l =
    record { bounds = sh.bounds; symbols = sh.symbols; terms = sh.terms ++ l; literals = sh.literals; fills = sh.fills; total = sh.total }

abbrev pub more_literals : Sheet → List Literal → Sheet
more_literals sh l =
    record { bounds = sh.bounds; symbols = sh.symbols; terms = sh.terms; literals = sh.literals ++ l; fills = sh.fills; total = sh.total }

-- n fields of these sizes, and nothing else; a sheet's names besides
abbrev pub sized : ℕ → (ℕ → ℕ) → Sheet
sized n size =
    record { bounds = collect n (λ s. record { floor = size s; ceiling = size s } ∷ []); symbols = []; terms = []; literals = []; fills = []; total = 0 }

abbrev pub with_names_of : Sheet → Sheet → Sheet
with_names_of sh new =
    record { bounds = new.bounds; symbols = sh.symbols; terms = new.terms; literals = new.literals; fills = new.fills; total = new.total }

-- ---- what it is built from
-- a parsed sheet, as far as it has been built, stands for a sheet
pub record Building (q : Parsed) : Type 0 where
  pub sheet : Sheet
  pub same : q ≡ packed sheet

-- the old sheet, and a structure for it with sizes of at most 16 codes and a sum of at most 128
pub record Source (p : Parsed) : Type 0 where
  pub sheet : Sheet
  pub structure : Structure
  pub packs : Packs sheet p
  pub interprets : Interprets structure sheet
  pub small : (s : ℕ) → s < length sheet.bounds → structure.size s ≤ most_codes
  pub most : sum_of structure sheet ≤ most_total

-- how many cells the tables of the first f names have
abbrev pub cells_before : {p : Parsed} → Source p → ℕ → ℕ
cells_before t f = sum_to f (λ g. cells t.structure.size (symbol_at t.sheet g).params)

-- the sizes, the expressions of the fields' first codes, the offsets of the tables and the tables are those of the structure
abbrev pub SizesOf : {p : Parsed} → Source p → (ℕ → ℕ) → Type 0
SizesOf t size = (s : ℕ) → s < length t.sheet.bounds → size s ≡ t.structure.size s

abbrev pub StartsOf : {p : Parsed} → Source p → (ℕ → ℕ) → Type 0
StartsOf t start = (s : ℕ) → s < length t.sheet.bounds → start s ≡ sum_to s t.structure.size

abbrev pub OffsetsOf : {p : Parsed} → Source p → (ℕ → ℕ) → Type 0
OffsetsOf t from = (f : ℕ) → f ≤ length t.sheet.symbols → from f ≡ offset t.sheet t.structure.size f

pub record TablesOf {p : Parsed} (t : Source p) (tables : List ℕ) : Type 0 where
  pub room : extent t.sheet t.structure.size ≤ length tables
  pub bytes :
      (f k : ℕ) → f < length t.sheet.symbols → k < cells t.structure.size (symbol_at t.sheet f).params
      → at tables (offset t.sheet t.structure.size f + k) ≡ at (table_bytes t.structure f (symbol_at t.sheet f).params) k

-- a payload says the name f at the expressions of the codes of a row and a column, as many of them as it takes
pub record CellPayload {p : Parsed} (t : Source p) (f row col : ℕ) (r : Payload) : Type 0 where
  pub symbol : r.b0 ≡ f
  pub args : drop 1 (payload_bytes r) ≡ code_args t.structure (symbol_at t.sheet f).params (take (length (symbol_at t.sheet f).params) (row ∷ col ∷ []))
