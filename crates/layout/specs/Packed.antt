-- The interface: the code's parsed sheet as a function of the sheet that the bytes define, and the functions of numbers that its arrays
-- hold.
use Rattle.std.specs.Prelude.{ℕ, ◌-◌, Bool, true, false, List, ◌++◌, map, length, get_or, replicate}
use Rattle.logic.specs.Sheet.{Sheet, Bound, Symbol, Term, Literal, Fill, symbol_at}
use Rattle.prelude.specs.Lists.{at}
use Rattle.prelude.specs.Limits.{most_sorts, most_symbols, most_terms, most_literals, most_fills, missing}
use Rattle.logic.specs.Problem.{Problem}
use Rattle.layout.specs.declared.Parsed.{Parsed}

-- a list in an array of n numbers, with 0 behind it
abbrev pub pad : ℕ → List ℕ → List ℕ
pad n l = l ++ replicate (n - length l) 0

-- the first and the second of a list of parameters or arguments
abbrev pub first : List ℕ → ℕ
first l = get_or l 0 missing

abbrev pub second : List ℕ → ℕ
second l = get_or l 1 missing

abbrev pub bit : Bool → ℕ
bit true = 1
bit false = 0

-- the parsed sheet that stands for a sheet
unfoldable pub packed : Sheet → Parsed
packed sh =
    record {
      sorts = length sh.bounds;
      floor = pad most_sorts (map (λ (b : Bound). b.floor) sh.bounds);
      ceiling = pad most_sorts (map (λ (b : Bound). b.ceiling) sh.bounds);
      symbols = length sh.symbols;
      result = pad most_symbols (map (λ (f : Symbol). f.result) sh.symbols);
      param0 = pad most_symbols (map (λ (f : Symbol). first f.params) sh.symbols);
      param1 = pad most_symbols (map (λ (f : Symbol). second f.params) sh.symbols);
      terms = length sh.terms;
      symbol = pad most_terms (map (λ (t : Term). t.symbol) sh.terms);
      arg0 = pad most_terms (map (λ (t : Term). first t.args) sh.terms);
      arg1 = pad most_terms (map (λ (t : Term). second t.args) sh.terms);
      sort = pad most_terms (map (λ (t : Term). (symbol_at sh t.symbol).result) sh.terms);
      literals = length sh.literals;
      equal = pad most_literals (map (λ (l : Literal). bit l.equal) sh.literals);
      left = pad most_literals (map (λ (l : Literal). l.left) sh.literals);
      right = pad most_literals (map (λ (l : Literal). l.right) sh.literals);
      fills = length sh.fills;
      filled = pad most_fills (map (λ (x : Fill). x.symbol) sh.fills);
      filler = pad most_fills (map (λ (x : Fill). x.term) sh.fills);
      total = sh.total;
    }

-- the functions of numbers that a parsed sheet's arrays hold
abbrev pub view : Parsed → Problem
view p =
    record {
      sorts = p.sorts;
      floor = at p.floor;
      ceiling = at p.ceiling;
      total = p.total;
      terms = p.terms;
      sort = at p.sort;
      symbol = at p.symbol;
      arg0 = at p.arg0;
      arg1 = at p.arg1;
      literals = p.literals;
      equal = at p.equal;
      left = at p.left;
      right = at p.right;
    }
