-- The interface: what good records make of a sheet, and what holds of every accepted one. Later layers cite these fields and not the text
-- of the layout.
use Rattle.std.specs.Prelude.{ℕ, ◌≤◌, ◌<◌, ◌↔◌, ◌≡◌, map, length}
use Rattle.prelude.specs.Tests.{Each, Within}
use Rattle.prelude.specs.Limits.{most_sorts, most_symbols, most_terms, most_literals, most_fills, most_codes, most_total}
use Rattle.logic.specs.Sheet.{Sheet, bound_at, symbol_at, term_at, literal_at, fill_at, sort_at}

-- A sheet whose records are good, whole or in part: what each record brings with it, and what holds at this stage of reading.
pub record Formed (Stage : Sheet → Type 0) (sh : Sheet) : Type 0 where
  pub stage : Stage sh
  -- the counts are within the limits
  pub sorts : length sh.bounds ≤ most_sorts
  pub symbols : length sh.symbols ≤ most_symbols
  pub terms : length sh.terms ≤ most_terms
  pub literals : length sh.literals ≤ most_literals
  pub fills : length sh.fills ≤ most_fills
  -- floors, ceilings and total are in range; a floor may be above its ceiling
  pub floor : (s : ℕ) → s < length sh.bounds → Within 1 most_codes (bound_at sh s).floor
  pub ceiling : (s : ℕ) → s < length sh.bounds → Within 1 most_codes (bound_at sh s).ceiling
  pub total : sh.total ≤ most_total
  -- a symbol gives a sort that is there, and takes at most two that are there
  pub result : (f : ℕ) → f < length sh.symbols → (symbol_at sh f).result < length sh.bounds
  pub params : (f : ℕ) → f < length sh.symbols → Each (λ s. s < length sh.bounds) (symbol_at sh f).params
  pub arity : (f : ℕ) → f < length sh.symbols → length (symbol_at sh f).params ≤ 2
  -- a term has a symbol that is there, earlier terms as its arguments, of the sorts that the symbol takes; no two are alike
  pub symbol : (i : ℕ) → i < length sh.terms → (term_at sh i).symbol < length sh.symbols
  pub args : (i : ℕ) → i < length sh.terms → Each (λ a. a < i) (term_at sh i).args
  pub arg_sorts : (i : ℕ) → i < length sh.terms → map (sort_at sh) (term_at sh i).args ≡ (symbol_at sh (term_at sh i).symbol).params
  pub distinct : (i j : ℕ) → i < length sh.terms → j < length sh.terms → term_at sh i ≡ term_at sh j → i ≡ j
  -- both sides of a statement are there and have one sort
  pub left : (k : ℕ) → k < length sh.literals → (literal_at sh k).left < length sh.terms
  pub right : (k : ℕ) → k < length sh.literals → (literal_at sh k).right < length sh.terms
  pub sides : (k : ℕ) → k < length sh.literals → sort_at sh (literal_at sh k).left ≡ sort_at sh (literal_at sh k).right
  -- a fill's symbol and term are there, the term of the sort that the symbol gives; no two fills are of one symbol
  pub filled : (k : ℕ) → k < length sh.fills → (fill_at sh k).symbol < length sh.symbols
  pub filler : (k : ℕ) → k < length sh.fills → (fill_at sh k).term < length sh.terms
  pub fill_sort : (k : ℕ) → k < length sh.fills → sort_at sh (fill_at sh k).term ≡ (symbol_at sh (fill_at sh k).symbol).result
  pub once : (k m : ℕ) → k < length sh.fills → m < length sh.fills → (fill_at sh k).symbol ≡ (fill_at sh m).symbol → k ≡ m

-- at the end of a sheet a total is there exactly where a sort is; total 0 says that there is none
abbrev pub Ended : Sheet → Type 0
Ended sh = (1 ≤ length sh.bounds) ↔ (1 ≤ sh.total)

-- what holds of every accepted sheet
abbrev pub WellFormed : Sheet → Type 0
WellFormed sh = Formed Ended sh
