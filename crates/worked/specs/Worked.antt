-- Interface. The worked sheets (docs/FORMAT.md, "Worked sheets") as one table, the printed example and one with fills. A row has the sheet's bytes, the
-- lengths of the code and table buffers that it asks for, and what "find" is to give back and to write; a refused call writes nothing.
use Rattle.std.specs.Prelude.{Result, Ok, Err}
use Rattle.prelude.specs.Causes.{refusal}
use Rattle.prelude.specs.declared.refusal.Refusal.{Refusal}
use Rattle.std.specs.Prelude.{ℕ, ◌≤◌, ◌<◌, ◌≡◌, ◌⊎◌, List, [], ◌∷◌, ◌++◌, length}
use Rattle.layout.specs.Encode.{packet}
use Rattle.finder.specs.Find.{finding, codes_after, tables_after}
use Rattle.prelude.specs.Lists.{fronted}

pub record Row : Type 0 where
  pub sheet : List ℕ
  pub code_bytes : ℕ
  pub table_bytes : ℕ
  pub result : Result ℕ Refusal
  pub codes : List ℕ
  pub tables : List ℕ

abbrev pub field : ℕ → ℕ → List ℕ
field floor ceiling = packet 1 (floor ∷ ceiling ∷ [])

-- a name without arguments, with its result field; a name from the first field to the first field
abbrev pub name : ℕ → List ℕ
name result = packet 2 (result ∷ [])

abbrev pub event : List ℕ
event = packet 2 (0 ∷ 0 ∷ [])

-- the expression of a name without arguments; a name applied to an expression
abbrev pub constant : ℕ → List ℕ
constant f = packet 3 (f ∷ [])

abbrev pub apply : ℕ → ℕ → List ℕ
apply f x = packet 3 (f ∷ x ∷ [])

abbrev pub same : ℕ → ℕ → List ℕ
same x y = packet 4 (x ∷ y ∷ [])

abbrev pub differ : ℕ → ℕ → List ℕ
differ x y = packet 5 (x ∷ y ∷ [])

-- a fill of a name by an expression
abbrev pub fill : ℕ → ℕ → List ℕ
fill f x = packet 7 (f ∷ x ∷ [])

abbrev pub total : ℕ → List ℕ
total n = packet 6 (n ∷ [])

abbrev pub refused_row : ℕ → List ℕ → ℕ → ℕ → Row
refused_row n s code_bytes table_bytes =
    record { sheet = s; code_bytes = code_bytes; table_bytes = table_bytes; result = Err (refusal n 0); codes = []; tables = [] }

-- the sheets that several rows share, without their fields and total
abbrev pub pair : List ℕ
pair = name 0 ++ name 0 ++ constant 0 ++ constant 1 ++ differ 0 1

abbrev pub triple : List ℕ
triple = name 0 ++ name 0 ++ name 0 ++ constant 0 ++ constant 1 ++ constant 2 ++ differ 0 1 ++ differ 0 2 ++ differ 1 2

abbrev pub images : List ℕ
images =
    name 0 ++ name 0 ++ name 0 ++ event
    ++ constant 0 ++ constant 1 ++ constant 2 ++ apply 3 0 ++ apply 3 1
    ++ differ 3 4 ++ differ 0 2 ++ differ 1 2

abbrev pub two_pairs : List ℕ
two_pairs = name 0 ++ name 0 ++ name 1 ++ name 1 ++ constant 0 ++ constant 1 ++ constant 2 ++ constant 3 ++ differ 0 1 ++ differ 2 3

abbrev pub repeatedly : List ℕ
repeatedly =
    name 0 ++ event
    ++ constant 0 ++ apply 1 0 ++ apply 1 1 ++ apply 1 2 ++ apply 1 3 ++ apply 1 4
    ++ same 0 3 ++ same 0 5 ++ differ 0 1

-- Tables are written as the sizes, then each name's cells. A row's table buffer has room for them with every size at its ceiling.
abbrev pub row1 : Row
row1 = record { sheet = field 1 1 ++ total 1; code_bytes = 0; table_bytes = 1; result = Ok 1; codes = []; tables = 1 ∷ [] }

abbrev pub row2 : Row
row2 = refused_row 11 (field 3 2 ++ total 16) 0 1

abbrev pub row3 : Row
row3 = refused_row 11 (field 1 16 ++ name 0 ++ constant 0 ++ differ 0 0 ++ total 16) 1 2

abbrev pub row4 : Row
row4 = refused_row 11 (field 1 1 ++ pair ++ total 16) 2 3

abbrev pub row5 : Row
row5 =
    record {
      sheet = field 1 2 ++ pair ++ total 16;
      code_bytes = 2;
      table_bytes = 3;
      result = Ok 2;
      codes = 0 ∷ 1 ∷ [];
      tables = (2 ∷ []) ++ (0 ∷ []) ++ (1 ∷ []);
    }

abbrev pub row6 : Row
row6 = refused_row 11 (field 1 2 ++ triple ++ total 16) 3 4

abbrev pub row7 : Row
row7 =
    record {
      sheet = field 1 3 ++ triple ++ total 16;
      code_bytes = 3;
      table_bytes = 4;
      result = Ok 3;
      codes = 0 ∷ 1 ∷ 2 ∷ [];
      tables = (3 ∷ []) ++ (0 ∷ []) ++ (1 ∷ []) ++ (2 ∷ []);
    }

abbrev pub row8 : Row
row8 = refused_row 11 (field 1 2 ++ images ++ total 16) 5 6

abbrev pub row9 : Row
row9 =
    record {
      sheet = field 1 3 ++ images ++ total 16;
      code_bytes = 5;
      table_bytes = 7;
      result = Ok 3;
      codes = 0 ∷ 1 ∷ 2 ∷ 0 ∷ 1 ∷ [];
      tables = (3 ∷ []) ++ (0 ∷ []) ++ (1 ∷ []) ++ (2 ∷ []) ++ (0 ∷ 1 ∷ 2 ∷ []);
    }

abbrev pub row10 : Row
row10 =
    record {
      sheet = field 1 16 ++ name 0 ++ event ++ constant 0 ++ apply 1 0 ++ apply 1 1 ++ same 0 2 ++ differ 0 1 ++ total 16;
      code_bytes = 3;
      table_bytes = 18;
      result = Ok 2;
      codes = 0 ∷ 1 ∷ 0 ∷ [];
      tables = (2 ∷ []) ++ (0 ∷ []) ++ (1 ∷ 0 ∷ []);
    }

abbrev pub row11 : Row
row11 = refused_row 11 (field 1 16 ++ repeatedly ++ total 16) 6 18

abbrev pub row12 : Row
row12 = refused_row 11 (field 1 2 ++ field 1 2 ++ two_pairs ++ total 3) 4 6

abbrev pub row13 : Row
row13 =
    record {
      sheet = field 1 2 ++ field 1 2 ++ two_pairs ++ total 4;
      code_bytes = 4;
      table_bytes = 6;
      result = Ok 4;
      codes = 0 ∷ 1 ∷ 0 ∷ 1 ∷ [];
      tables = (2 ∷ 2 ∷ []) ++ (0 ∷ []) ++ (1 ∷ []) ++ (0 ∷ []) ++ (1 ∷ []);
    }

abbrev pub row14 : Row
row14 = record { sheet = field 2 2 ++ event ++ total 16; code_bytes = 0; table_bytes = 3; result = Ok 2; codes = []; tables = (2 ∷ []) ++ (0 ∷ 1 ∷ []) }

-- a sheet of zero bytes: no field has a size, and no buffer is asked for
abbrev pub row15 : Row
row15 = record { sheet = []; code_bytes = 0; table_bytes = 0; result = Ok 0; codes = []; tables = [] }

-- fills (docs/FORMAT.md, "Which answer"): the names x, office, f, h, k, y and g, the expressions x, k(x, x) and office
abbrev pub call_office : List ℕ
call_office =
    name 0 ++ name 0 ++ event ++ packet 2 (0 ∷ 1 ∷ []) ++ packet 2 (0 ∷ 0 ∷ 0 ∷ []) ++ name 0 ++ packet 2 (0 ∷ 1 ∷ [])
    ++ constant 0 ++ packet 3 (4 ∷ 0 ∷ 0 ∷ []) ++ constant 1
    ++ differ 0 2

abbrev pub filled : Row
filled =
    record {
      sheet = field 2 2 ++ field 2 2 ++ call_office ++ fill 2 2 ++ fill 3 2 ++ fill 4 2 ++ fill 5 2 ++ total 16;
      code_bytes = 3;
      table_bytes = 15;
      result = Ok 4;
      codes = 0 ∷ 0 ∷ 1 ∷ [];
      tables = (2 ∷ 2 ∷ []) ++ (0 ∷ []) ++ (1 ∷ []) ++ (0 ∷ 1 ∷ []) ++ (1 ∷ 1 ∷ []) ++ (0 ∷ 1 ∷ 1 ∷ 1 ∷ []) ++ (1 ∷ []) ++ (0 ∷ 0 ∷ []);
    }

-- the printed example, case 9 with total 3, byte by byte
abbrev pub printed : Row
printed =
    record {
      sheet =
          0x02 ∷ 0x00 ∷ 0x01 ∷ 0x00 ∷ 0x01 ∷ 0x03
          ∷ 0x01 ∷ 0x00 ∷ 0x02 ∷ 0x00 ∷ 0x00
          ∷ 0x01 ∷ 0x00 ∷ 0x02 ∷ 0x00 ∷ 0x00
          ∷ 0x01 ∷ 0x00 ∷ 0x02 ∷ 0x00 ∷ 0x00
          ∷ 0x02 ∷ 0x00 ∷ 0x02 ∷ 0x00 ∷ 0x00 ∷ 0x00
          ∷ 0x01 ∷ 0x00 ∷ 0x03 ∷ 0x00 ∷ 0x00
          ∷ 0x01 ∷ 0x00 ∷ 0x03 ∷ 0x00 ∷ 0x01
          ∷ 0x01 ∷ 0x00 ∷ 0x03 ∷ 0x00 ∷ 0x02
          ∷ 0x02 ∷ 0x00 ∷ 0x03 ∷ 0x00 ∷ 0x03 ∷ 0x00
          ∷ 0x02 ∷ 0x00 ∷ 0x03 ∷ 0x00 ∷ 0x03 ∷ 0x01
          ∷ 0x02 ∷ 0x00 ∷ 0x05 ∷ 0x00 ∷ 0x03 ∷ 0x04
          ∷ 0x02 ∷ 0x00 ∷ 0x05 ∷ 0x00 ∷ 0x00 ∷ 0x02
          ∷ 0x02 ∷ 0x00 ∷ 0x05 ∷ 0x00 ∷ 0x01 ∷ 0x02
          ∷ 0x01 ∷ 0x00 ∷ 0x06 ∷ 0x00 ∷ 0x03
          ∷ [];
      code_bytes = 5;
      table_bytes = 7;
      result = Ok 3;
      codes = 0 ∷ 1 ∷ 2 ∷ 0 ∷ 1 ∷ [];
      tables = (3 ∷ []) ++ (0 ∷ []) ++ (1 ∷ []) ++ (2 ∷ []) ++ (0 ∷ 1 ∷ 2 ∷ []);
    }

abbrev pub rows : List Row
rows =
    row1 ∷ row2 ∷ row3 ∷ row4 ∷ row5 ∷ row6 ∷ row7 ∷ row8 ∷ row9 ∷ row10 ∷ row11 ∷ row12 ∷ row13 ∷ row14 ∷ row15 ∷ printed ∷ filled ∷ []

-- What a row says: for all buffers that are long enough for the sheet, the result, and every byte of both at exit.
pub record Shown (r : Row) (cs ts : List ℕ) : Type 0 where
  pub result : finding r.sheet (length cs) (length ts) ≡ r.result
  pub codes : codes_after r.sheet cs ts ≡ fronted r.codes cs
  pub tables : tables_after r.sheet cs ts ≡ fronted r.tables ts

pub record Shows (r : Row) : Type 0 where
  pub shown : (cs ts : List ℕ) → r.code_bytes ≤ length cs → r.table_bytes ≤ length ts → Shown r cs ts
  -- a shorter buffer is refused, so that the row asks for no more than the sheet needs
  pub short : (cs ts : List ℕ) → (length cs < r.code_bytes) ⊎ (length ts < r.table_bytes) → finding r.sheet (length cs) (length ts) ≡ Err (refusal 10 0)

abbrev pub All : {A : Type 0} → (A → Type 0) → List A → Type 0
All p [] = Unit
All p (r ∷ rs) = p r × All p rs
