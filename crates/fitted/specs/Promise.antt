-- Interface. What a call of fitted has written, where it has written anything: the fitted sheet of the answer; and that finding on it gives the old names the very same tables. Proved
-- for every such call: `files_kept` of proofs/Filed.antt.
use Rattle.std.specs.Prelude.{ℕ, ◌≤◌, ◌≡◌, false, List, length, take, drop}
use Rattle.std.proofs.Math.Option.{some}
use Rattle.prelude.specs.Limits.{most_written_bytes}
use Rattle.prelude.specs.Lists.{at}
use Rattle.logic.specs.Sheet.{Sheet}
use Rattle.layout.specs.Layout.{accepted, reading}
use Rattle.tables.specs.Layout.{extent}
use Rattle.answer.specs.Answer.{Entry, answer}
use Rattle.find_at.specs.Found.{ceilings}
use Rattle.finder.specs.Find.{finding, tables_after}
use Rattle.find_at.specs.Promise.{tables_written}
use Rattle.fitted_sheet.specs.FittedSheet.{too_many}
use Rattle.fitted_sheet.specs.Kept.{fitted_to}
use Rattle.fitted.specs.Filing.{buffer_after}

-- the new sheet's bytes, which stand in front of the buffer
abbrev pub new_bytes : List ℕ → List ℕ → ℕ → List ℕ
new_bytes s out n = take n (buffer_after s out)

-- Find on the old sheet's bytes s, with the table buffer ts, and on the new sheet's bytes b, with the table buffer ts', finds the same sum, and the new tables begin with the old
-- ones: the sizes, and the tables of the old names, byte for byte.
pub record SameFound (sh : Sheet) (s b cs ts cs' ts' : List ℕ) : Type 0 where
  pub sum : finding b (length cs') (length ts') ≡ finding s (length cs) (length ts)
  pub tables : take (extent sh (at (tables_after s cs ts))) (tables_after b cs' ts') ≡ tables_written sh (tables_after s cs ts)

pub record Filed (s out : List ℕ) (n : ℕ) : Type 0 where
  -- the sheet is accepted and has an answer
  pub sheet : Sheet
  pub reads : reading s ≡ accepted sheet
  pub entry : Entry
  pub answers : answer sheet ≡ some entry
  -- the fitted sheet passes no limit
  pub few : too_many (fitted_to sheet entry) ≡ false
  -- the new bytes are accepted, as just the sheet meant; they are at most 2,161, and no byte behind them is touched
  pub accepts : reading (new_bytes s out n) ≡ accepted (fitted_to sheet entry)
  pub short : n ≤ most_written_bytes
  pub behind : drop n (buffer_after s out) ≡ drop n out
  -- and find, with buffers that suffice, finds the same on both sheets
  pub same :
      (cs ts cs' ts' : List ℕ) → length sheet.terms ≤ length cs → extent sheet (ceilings sheet) ≤ length ts
      → length (fitted_to sheet entry).terms ≤ length cs' → extent (fitted_to sheet entry) (ceilings (fitted_to sheet entry)) ≤ length ts'
      → SameFound sheet s (new_bytes s out n) cs ts cs' ts'
