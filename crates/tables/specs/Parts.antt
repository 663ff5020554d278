-- For the proofs of judge and find: what the functions on a parsed sheet promise. A parsed sheet stands for a sheet where it packs one;
-- sizes and offsets are lists of numbers.
use Rattle.std.specs.Prelude.{ℕ, ◌+◌, ◌*◌, ◌≤◌, ◌<◌, ◌≡◌, List, cond, length, ltb}
use Rattle.logic.specs.Sheet.{Sheet, symbol_at}
use Rattle.prelude.specs.Lists.{at}
use Rattle.prelude.specs.Limits.{most_sorts, most_symbols, most_terms, most_literals, most_fills}
use Rattle.logic.specs.WellFormed.{WellFormed}
use Rattle.layout.specs.Packed.{packed}
use Rattle.layout.specs.declared.Parsed.{Parsed}
use Rattle.tables.specs.Layout.{cells, offset}

-- the parsed sheet stands for an accepted sheet
pub record Packs (sh : Sheet) (p : Parsed) : Type 0 where
  pub formed : WellFormed sh
  pub same : p ≡ packed sh

-- the counts of a parsed sheet are within the limits
pub record Limited (p : Parsed) : Type 0 where
  pub sorts : p.sorts ≤ most_sorts
  pub symbols : p.symbols ≤ most_symbols
  pub terms : p.terms ≤ most_terms
  pub literals : p.literals ≤ most_literals
  pub fills : p.fills ≤ most_fills

-- Bounds to count with, whatever the bytes: two bytes as sizes give a table no more cells, and the most sizes with the most such tables have
-- no more bytes.
abbrev pub countable_cells : ℕ
countable_cells = 255 * 255

abbrev pub countable_bytes : ℕ
countable_bytes = most_sorts + most_symbols * countable_cells

-- how many rows or columns a parameter gives a table: the size of its sort, 1 where it is missing
abbrev pub width : (ℕ → ℕ) → ℕ → ℕ
width size s = cond (ltb s most_sorts) (size s) 1

pub record CellsOf (p : Parsed) (size : ℕ → ℕ) (f r : ℕ) : Type 0 where
  pub cells : (sh : Sheet) → Packs sh p → f < length sh.symbols → r ≡ cells size (symbol_at sh f).params
  pub small : r ≤ countable_cells

-- no offset is too large to count with
abbrev pub SmallOffsets : List ℕ → Type 0
SmallOffsets offsets = (f : ℕ) → at offsets f ≤ countable_bytes

-- the offsets of all tables, and the end of the last one behind them
pub record Extents (p : Parsed) (size : ℕ → ℕ) (offsets : List ℕ) : Type 0 where
  pub offset : (sh : Sheet) → Packs sh p → (f : ℕ) → f ≤ length sh.symbols → at offsets f ≡ offset sh size f
  pub small : SmallOffsets offsets

-- the sizes and offsets are those of the tables
pub record Laying (sh : Sheet) (p : Parsed) (sizes offsets t : List ℕ) : Type 0 where
  pub packs : Packs sh p
  pub size : (s : ℕ) → s < length sh.bounds → at sizes s ≡ at t s
  pub offset : (f : ℕ) → f ≤ length sh.symbols → at offsets f ≡ offset sh (at sizes) f
