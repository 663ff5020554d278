-- The interface: a sheet as its records say it: lists in the order of the records, so that a number in a record is a place in a list
-- (docs/FORMAT.md, "The words used here" and "The sheet").
use Rattle.std.specs.Prelude.{ℕ, Bool, true, List, [], get_or}

-- the limits of a sort (in the format's words: field): the least and the greatest number of its codes
pub record Bound : Type 0 where
  pub floor : ℕ
  pub ceiling : ℕ

-- a function symbol (name): the sort that it gives, and the sorts that it takes
pub record Symbol : Type 0 where
  pub result : ℕ
  pub params : List ℕ

-- a ground term (expression): a symbol applied to earlier terms
pub record Term : Type 0 where
  pub symbol : ℕ
  pub args : List ℕ

-- a literal (statement): that two terms are the same, or that they differ
pub record Literal : Type 0 where
  pub equal : Bool
  pub left : ℕ
  pub right : ℕ

-- a fill: the term whose code a symbol's table holds in its unforced cells
pub record Fill : Type 0 where
  pub symbol : ℕ
  pub term : ℕ

-- a whole sheet, or the part of one that has been read; the total is 0 until its record has been read
pub record Sheet : Type 0 where
  pub bounds : List Bound
  pub symbols : List Symbol
  pub terms : List Term
  pub literals : List Literal
  pub fills : List Fill
  pub total : ℕ

-- what stands past the end of a list, which is never used of an accepted sheet
abbrev pub no_bound : Bound
no_bound = record { floor = 0; ceiling = 0 }

abbrev pub no_symbol : Symbol
no_symbol = record { result = 0; params = [] }

abbrev pub no_term : Term
no_term = record { symbol = 0; args = [] }

abbrev pub no_literal : Literal
no_literal = record { equal = true; left = 0; right = 0 }

abbrev pub no_fill : Fill
no_fill = record { symbol = 0; term = 0 }

-- the entry with a number
abbrev pub bound_at : Sheet → ℕ → Bound
bound_at sh s = get_or sh.bounds s no_bound

abbrev pub symbol_at : Sheet → ℕ → Symbol
symbol_at sh f = get_or sh.symbols f no_symbol

abbrev pub term_at : Sheet → ℕ → Term
term_at sh i = get_or sh.terms i no_term

abbrev pub literal_at : Sheet → ℕ → Literal
literal_at sh k = get_or sh.literals k no_literal

abbrev pub fill_at : Sheet → ℕ → Fill
fill_at sh k = get_or sh.fills k no_fill

-- the sort of a term is the sort that its symbol gives
abbrev pub sort_at : Sheet → ℕ → ℕ
sort_at sh i = (symbol_at sh (term_at sh i).symbol).result

-- the sheet without its fills
abbrev pub without_fills : Sheet → Sheet
without_fills sh =
    record { bounds = sh.bounds; symbols = sh.symbols; terms = sh.terms; literals = sh.literals; fills = []; total = sh.total }
