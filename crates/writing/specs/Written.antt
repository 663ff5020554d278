-- The interface: what writing an answer asks, and what it leaves in both buffers.
use Rattle.std.specs.Prelude.{ℕ, ◌≤◌, ◌<◌, ◌≡◌, List, [], ◌∷◌, length, take}
use Rattle.std.proofs.Math.Option.{get_or}
use Rattle.prelude.specs.Limits.{most_codes}
use Rattle.prelude.specs.Lists.{fronted}
use Rattle.logic.specs.Sheet.{Sheet, symbol_at}
use Rattle.layout.specs.declared.Parsed.{Parsed}
use Rattle.tables.specs.Layout.{extent, encoded}
use Rattle.tables.specs.Parts.{Packs}
use Rattle.answer.specs.Answer.{entry_of, sum, structure_of, fill_code, unforced}

-- what symbol f is filled with where terms have the codes c: the code of its fill's term, 0 where it has no fill
abbrev pub filled_with : Sheet → (ℕ → ℕ) → ℕ → ℕ
filled_with sh c f = get_or (fill_code c f sh.fills) 0

-- the argument codes of a cell of symbol f, from its row and its column
abbrev pub cell_codes : Sheet → ℕ → ℕ → ℕ → List ℕ
cell_codes sh f row col = take (length (symbol_at sh f).params) (row ∷ col ∷ [])

-- what the cell of symbol f in this row and column holds where no term reaches it, sizes and codes being those of an answer
abbrev pub unforced_at : Sheet → (ℕ → ℕ) → (ℕ → ℕ) → ℕ → ℕ → ℕ → ℕ
unforced_at sh size c f row col = unforced sh (entry_of sh size c) f (cell_codes sh f row col)

-- What the writers of the answer ask: a parsed sheet that stands for an accepted sheet, sizes of at most 16 codes, codes that fit a table and
-- are 0 past the terms, and room for the tables.
pub record Writable (p : Parsed) (size c : ℕ → ℕ) (n : ℕ) : Type 0 where
  pub sheet : Sheet
  pub packs : Packs sheet p
  pub sizes : (s : ℕ) → s < length sheet.bounds → size s ≤ most_codes
  pub codes : (i : ℕ) → c i < most_codes
  pub past : (i : ℕ) → length sheet.terms ≤ i → c i ≡ 0
  pub room : extent sheet size ≤ n

-- the bytes of the answer with these sizes and codes
abbrev pub answer_bytes : Sheet → (ℕ → ℕ) → (ℕ → ℕ) → List ℕ
answer_bytes sh size c = encoded (structure_of sh (entry_of sh size c)) sh

-- An answer in front of both buffers: the sum of its sizes, its codes, its bytes. A primed buffer is the buffer then.
pub record AnswerWritten (sh : Sheet) (size c : ℕ → ℕ) (codes tables codes' tables' : List ℕ) (r : ℕ) : Type 0 where
  pub total : r ≡ sum (entry_of sh size c).sizes
  pub front : codes' ≡ fronted (entry_of sh size c).codes codes
  pub bytes : tables' ≡ fronted (answer_bytes sh size c) tables
