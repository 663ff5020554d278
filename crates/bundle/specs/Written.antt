-- Interface. A bundle the other way round: the bytes that sheets are bundled as (docs/FORMAT.md, "The bundle"). From 1 to 8 sheets, each short enough for the
-- two bytes of a record's length, are the sheets of these bytes and of no others (`bundle_exactly`, proofs/Written.antt).
use Rattle.std.specs.Prelude.{ℕ, ◌/◌, ◌%◌, ◌≤◌, ◌<◌, List, [], ◌∷◌, ◌++◌, length}
use Rattle.prelude.specs.Lists.{at}
use Rattle.bundle.specs.Bundle.{most_sheets, sheet_kind}

-- the record of a sheet: length and kind, of two bytes each, then the sheet
abbrev pub sheet_record : List ℕ → List ℕ
sheet_record sheet = (length sheet % 256 ∷ length sheet / 256 ∷ sheet_kind ∷ 0 ∷ []) ++ sheet

-- the records one after the other
unfoldable pub bundle_of : List (List ℕ) → List ℕ
bundle_of [] = []
bundle_of (sheet ∷ sheets) = sheet_record sheet ++ bundle_of sheets

-- each sheet is short enough for a record
abbrev pub Short : List (List ℕ) → Type 0
Short [] = Unit
Short (p ∷ ps) = (length p < 65536) × Short ps

-- sheets that a bundle can have
pub record Bundled (sheets : List (List ℕ)) : Type 0 where
  pub some : 1 ≤ length sheets
  pub few : length sheets ≤ most_sheets
  pub short : Short sheets

-- every number of a list is a byte
abbrev pub Bytes : List ℕ → Type 0
Bytes s = (k : ℕ) → at s k < 256
