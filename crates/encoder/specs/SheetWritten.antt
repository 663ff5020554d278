-- The interface: what writing a parsed sheet asks, and what it leaves in the buffer.
use Rattle.std.specs.Prelude.{ℕ, ◌≡◌, List, length}
use Rattle.prelude.specs.Lists.{fronted}
use Rattle.logic.specs.Sheet.{Sheet}
use Rattle.layout.specs.Encode.{encode}
use Rattle.layout.specs.declared.Parsed.{Parsed}
use Rattle.tables.specs.Parts.{Packs}

-- a parsed sheet that stands for a well-formed sheet
pub record Stands (p : Parsed) : Type 0 where
  pub sheet : Sheet
  pub packs : Packs sheet p

-- a sheet in front of a buffer: its length, and its bytes. A primed buffer is the buffer then.
pub record SheetWritten (sh : Sheet) (out out' : List ℕ) (r : ℕ) : Type 0 where
  pub length : r ≡ length (encode sh)
  pub bytes : out' ≡ fronted (encode sh) out
