-- Interface. What find_at answers of the worked sheets at given sizes (docs/FORMAT.md, "Worked sheets") as one table. A row has the worked sheet, the sizes, and
-- what find_at is to give back and to write into buffers of just the lengths that the sheet asks for; a refused call writes nothing.
use Rattle.std.specs.Prelude.{Result, Ok, Err}
use Rattle.prelude.specs.Causes.{refusal}
use Rattle.prelude.specs.declared.refusal.Refusal.{Refusal}
use Rattle.std.specs.Prelude.{ℕ, ◌≡◌, List, [], ◌∷◌, replicate}
use Rattle.prelude.specs.Lists.{run, fronted}
use Rattle.find_at.specs.FindAt.{finding_at, codes_after_at, tables_after_at}
use Rattle.worked.specs.Worked.{Row, row5, row9, row10, row12, row15, All}

pub record AtRow : Type 0 where
  pub row : Row
  pub sizes : List ℕ
  pub result : Result ℕ Refusal
  pub codes : List ℕ
  pub tables : List ℕ

-- a call that is turned down
abbrev pub refused_at : ℕ → Row → List ℕ → AtRow
refused_at n r z = record { row = r; sizes = z; result = Err (refusal n 0); codes = []; tables = [] }

abbrev pub at_rows : List AtRow
at_rows =
    refused_at 11 row5 (1 ∷ [])
    ∷ record { row = row5; sizes = 2 ∷ []; result = Ok 2; codes = 0 ∷ 1 ∷ []; tables = 2 ∷ 0 ∷ 1 ∷ [] }
    ∷ refused_at 17 row5 (3 ∷ [])
    ∷ refused_at 17 row5 []
    ∷ refused_at 17 row5 (1 ∷ 1 ∷ [])
    ∷ record { row = row9; sizes = 3 ∷ []; result = Ok 3; codes = 0 ∷ 1 ∷ 2 ∷ 0 ∷ 1 ∷ []; tables = 3 ∷ 0 ∷ 1 ∷ 2 ∷ 0 ∷ 1 ∷ 2 ∷ [] }
    ∷ record { row = row10; sizes = 16 ∷ []; result = Ok 16; codes = 0 ∷ 1 ∷ 0 ∷ []; tables = 16 ∷ 0 ∷ 1 ∷ 0 ∷ run 2 14 }
    ∷ refused_at 17 row12 (2 ∷ 2 ∷ [])
    ∷ refused_at 11 row12 (1 ∷ 2 ∷ [])
    ∷ record { row = row15; sizes = []; result = Ok 0; codes = []; tables = [] }
    ∷ []

-- a buffer of so many bytes before the call
abbrev pub unwritten : ℕ → List ℕ
unwritten n = replicate n 170

pub record AtShown (r : AtRow) : Type 0 where
  pub result : finding_at r.row.sheet r.sizes r.row.code_bytes r.row.table_bytes ≡ r.result
  pub codes : codes_after_at r.row.sheet r.sizes (unwritten r.row.code_bytes) (unwritten r.row.table_bytes) ≡ fronted r.codes (unwritten r.row.code_bytes)
  pub tables : tables_after_at r.row.sheet r.sizes (unwritten r.row.code_bytes) (unwritten r.row.table_bytes) ≡ fronted r.tables (unwritten r.row.table_bytes)

-- the table; `worked_at_sizes` of proofs/AtSizes.antt proves it
abbrev pub WorkedAtSizes : Type 0
WorkedAtSizes = All AtShown at_rows
