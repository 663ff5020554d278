-- The interface: the numbers of the format (docs/FORMAT.md, "The sheet"); the constants of src/lib.rt are the same.
use Rattle.std.specs.Prelude.{ℕ}

-- the most sorts, symbols, terms, literals and fills of a sheet
abbrev pub most_sorts : ℕ
most_sorts = 8

abbrev pub most_symbols : ℕ
most_symbols = 64

abbrev pub most_terms : ℕ
most_terms = 128

abbrev pub most_literals : ℕ
most_literals = 128

abbrev pub most_fills : ℕ
most_fills = 64

-- the most codes of a sort, and the greatest total
abbrev pub most_codes : ℕ
most_codes = 16

abbrev pub most_total : ℕ
most_total = 128

-- the most bytes of an accepted sheet without fills, and so of every sheet that is written
abbrev pub most_written_bytes : ℕ
most_written_bytes = 2161

-- stands for a parameter or an argument that is not there; no sort, symbol or term has this number
abbrev pub missing : ℕ
missing = 255

-- stands for a code that is not decided; no sort has so many codes
abbrev pub undecided : ℕ
undecided = 255
