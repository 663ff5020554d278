-- For the proofs only: what the parts of the find program ask of what they print.
use Rattle.std.specs.Prelude.{ℕ, ◌+◌, ◌*◌, ◌≤◌, ◌<◌, List, length}
use Rattle.logic.specs.Sheet.{Sheet}
use Rattle.prelude.specs.Limits.{most_codes}
use Rattle.prelude.specs.Lists.{at}
use Rattle.layout.specs.declared.Parsed.{Parsed}
use Rattle.tables.specs.Layout.{extent}
use Rattle.tables.specs.Parts.{Packs}

-- the tables of a parsed sheet stand whole in front of the buffer t, at sizes of at most 16 codes
pub record Printable (p : Parsed) (t : List ℕ) : Type 0 where
  pub sheet : Sheet
  pub packs : Packs sheet p
  pub sizes : (s : ℕ) → s < length sheet.bounds → at t s ≤ most_codes
  pub room : extent sheet (at t) ≤ length t

-- many stretches of n bytes, each from its offset to the next: none ends before it starts, behind the last byte, or after more than 256 bytes
pub record Stretches (offsets : List ℕ) (many n : ℕ) : Type 0 where
  pub forward : (f : ℕ) → f < many → at offsets f ≤ at offsets (f + 1)
  pub within : (f : ℕ) → f < many → at offsets (f + 1) ≤ n
  pub short : (f : ℕ) → f < many → at offsets (f + 1) ≤ at offsets f + most_codes * most_codes
