-- Interface. The fitted sheet of an answer is a sheet, and finding on it gives the old names the very same tables. Proved for every accepted sheet with an answer whose fitted
-- sheet passes no limit: `fitted_kept` of proofs/Keeping.antt.
use Rattle.std.specs.Prelude.{◌≤◌, ◌≡◌, length, take}
use Rattle.std.proofs.Math.Option.{some}
use Rattle.prelude.specs.Limits.{most_written_bytes}
use Rattle.logic.specs.Sheet.{Sheet}
use Rattle.layout.specs.Layout.{accepted, reading}
use Rattle.layout.specs.Encode.{encode}
use Rattle.tables.specs.Layout.{encoded}
use Rattle.answer.specs.Answer.{Entry, answer, structure_of}
use Rattle.fitted_sheet.specs.FittedSheet.{fitted_sheet}

-- the fitted sheet of the answer e
abbrev pub fitted_to : Sheet → Entry → Sheet
fitted_to sh e = fitted_sheet sh (structure_of sh e)

pub record Kept (sh : Sheet) (e : Entry) : Type 0 where
  -- its bytes are accepted, as just this sheet, and are no more than a buffer must have
  pub reads : reading (encode (fitted_to sh e)) ≡ accepted (fitted_to sh e)
  pub short : length (encode (fitted_to sh e)) ≤ most_written_bytes
  -- it has an answer, whose sizes, and so whose sum, are the same
  pub found : Entry
  pub answers : answer (fitted_to sh e) ≡ some found
  pub sizes : found.sizes ≡ e.sizes
  -- and the answer's tables begin with the old ones: the sizes, and the tables of the old names, byte for byte
  pub tables : take (length (encoded (structure_of sh e) sh)) (encoded (structure_of (fitted_to sh e) found) (fitted_to sh e)) ≡ encoded (structure_of sh e) sh
