-- Interface. The answer to a sheet, by definition: of a plain listing of sizes the first that have an answer, and at given sizes the first of a plain
-- listing of codes that solves the sheet (docs/FORMAT.md, "Which answer"); and the structure that it stands for. How the answer is found plays no part
-- here.
use Rattle.std.specs.Prelude.{ℕ, suc, ◌-◌, Bool, true, not, ◌&&◌, ◌||◌, cond, List, [], ◌∷◌, ◌++◌, map, length, eqb}
use Rattle.std.proofs.Math.Option.{Option, none, some, or_else, get_or}
use Rattle.logic.specs.Sheet.{Sheet, Bound, Symbol, Term, Literal, Fill, symbol_at}
use Rattle.prelude.specs.Tests.{same_list}
use Rattle.prelude.specs.Lists.{at, sum_to, firsts, run}
use Rattle.logic.specs.Structure.{Structure}
use Rattle.logic.specs.Box.{Range, box}
use Rattle.tables.specs.Tests.{holds}

-- Lists: what f gives of each entry, one after the other; the entries that pass a test; the first that does; the first that f gives something
-- for, that is, what it gives; the sum. (What a `let` binds is computed only where it is wanted, so that the worked sheets compute.)
abbrev pub each : {A B : Type 0} → List A → (A → List B) → List B
each [] f = []
each (x ∷ xs) f = f x ++ each xs f

abbrev pub keep : {A : Type 0} → (A → Bool) → List A → List A
keep p [] = []
keep p (x ∷ xs) = let r = keep p xs in cond (p x) (x ∷ r) r

abbrev pub first_that : {A : Type 0} → (A → Bool) → List A → Option A
first_that p [] = none
first_that p (x ∷ xs) = let r = first_that p xs in cond (p x) (some x) r

abbrev pub first_given : {A B : Type 0} → (A → Option B) → List A → Option B
first_given f [] = none
first_given f (x ∷ xs) = let r = first_given f xs in or_else (f x) r

abbrev pub sum : List ℕ → ℕ
sum l = sum_to (length l) (at l)

-- An entry of the listing: a size for each sort (field) and a code for each term (expression), in the sheet's order.
pub record Entry : Type 0 where
  pub sizes : List ℕ
  pub codes : List ℕ

-- the entry with these sizes and codes
abbrev pub entry_of : Sheet → (ℕ → ℕ) → (ℕ → ℕ) → Entry
entry_of sh size c = record { sizes = firsts (length sh.bounds) size; codes = firsts (length sh.terms) c }

-- sizes from floor to ceiling (none, where a floor is above its ceiling), and codes below the size of the term's sort
abbrev pub size_range : Bound → Range
size_range b = record { least = b.floor; many = suc b.ceiling - b.floor }

abbrev pub code_range : Sheet → List ℕ → Term → Range
code_range sh sizes t = record { least = 0; many = at sizes (symbol_at sh t.symbol).result }

abbrev pub size_ranges : Sheet → List Range
size_ranges sh = map size_range sh.bounds

abbrev pub code_ranges : Sheet → List ℕ → List Range
code_ranges sh sizes = map (code_range sh sizes) sh.terms

-- the sizes of sum n, the list that comes first standing first
abbrev pub sizes_of_sum : Sheet → ℕ → List (List ℕ)
sizes_of_sum sh n = keep (λ sizes. eqb (sum sizes) n) (box (size_ranges sh))

-- the entries with these sizes, the codes that come first standing first
abbrev pub entries_at : Sheet → List ℕ → List Entry
entries_at sh sizes = map (λ codes. record { sizes = sizes; codes = codes }) (box (code_ranges sh sizes))

-- the sizes that a candidate may have: the smallest sum first, up to the total; of one sum, the sizes that come first
abbrev pub sizes_in_order : Sheet → List (List ℕ)
sizes_in_order sh = each (run 0 (suc sh.total)) (sizes_of_sum sh)

-- A cell that a term reaches: the symbol with the codes of the arguments, and the term's code, which the table holds there.
pub record Cell : Type 0 where
  pub key : List ℕ
  pub code : ℕ

abbrev pub cell_of : (ℕ → ℕ) → ℕ → Term → Cell
cell_of c i t = record { key = t.symbol ∷ map c t.args; code = c i }

-- the cells of terms numbered from i on; those of all terms
abbrev pub cells_from : (ℕ → ℕ) → ℕ → List Term → List Cell
cells_from c i [] = []
cells_from c i (t ∷ ts) = cell_of c i t ∷ cells_from c (suc i) ts

abbrev pub reached_cells : Sheet → List ℕ → List Cell
reached_cells sh codes = cells_from (at codes) 0 sh.terms

-- no cell is to hold two codes: same symbol and equal argument codes give equal codes
abbrev pub compatible : Cell → List Cell → Bool
compatible x [] = true
compatible x (y ∷ ys) = (not (same_list x.key y.key) || eqb x.code y.code) && compatible x ys

abbrev pub functional : List Cell → Bool
functional [] = true
functional (x ∷ xs) = compatible x xs && functional xs

-- every literal holds where terms have the codes c; `holds` is the judge's test of one
abbrev pub all_hold : (ℕ → ℕ) → List Literal → Bool
all_hold c [] = true
all_hold c (l ∷ ls) = holds c l && all_hold c ls

-- the codes solve the sheet
unfoldable pub solves : Sheet → List ℕ → Bool
solves sh codes = functional (reached_cells sh codes) && all_hold (at codes) sh.literals

-- THE ANSWER AT GIVEN SIZES: the first entry with these sizes that solves the sheet.
unfoldable pub answer_at : Sheet → List ℕ → Option Entry
answer_at sh sizes = first_that (λ (e : Entry). solves sh e.codes) (entries_at sh sizes)

-- THE ANSWER: that at the first sizes that have one.
unfoldable pub answer : Sheet → Option Entry
answer sh = first_given (answer_at sh) (sizes_in_order sh)

-- the code that a cell holds, where a term reaches it
abbrev pub cell_at : List ℕ → List Cell → Option ℕ
cell_at key [] = none
cell_at key (x ∷ xs) = let r = cell_at key xs in cond (same_list x.key key) (some x.code) r

-- the structure with the sizes and codes of an entry; a cell that no term reaches holds what u says
abbrev pub structure_with : (ℕ → List ℕ → ℕ) → Sheet → Entry → Structure
structure_with u sh e =
    record {
      size = at e.sizes;
      table = λ f cs. get_or (cell_at (f ∷ cs) (reached_cells sh e.codes)) (u f cs);
    }

-- A rule for the cells that no term reaches: of a sheet and an entry, what the table of a symbol holds at the codes of its arguments.
abbrev pub Rule : Type 0
Rule = Sheet → Entry → ℕ → List ℕ → ℕ

-- does a symbol take one argument, of the sort of its result?
abbrev pub to_itself : Symbol → Bool
to_itself f = same_list f.params (f.result ∷ [])

-- the code of the term by which a symbol is filled, where it has a fill
abbrev pub fill_code : (ℕ → ℕ) → ℕ → List Fill → Option ℕ
fill_code c f [] = none
fill_code c f (x ∷ xs) = let r = fill_code c f xs in cond (eqb x.symbol f) (some (c x.term)) r

-- what a cell that no term reaches holds, in the table of symbol f at the codes cs: where the symbol takes one argument, of the sort of its
-- result, the argument's own code; in any other table the code of the symbol's fill, 0 where it has none
unfoldable pub unforced : Rule
unforced sh e f cs = cond (to_itself (symbol_at sh f)) (at cs 0) (get_or (fill_code (at e.codes) f sh.fills) 0)

-- the structure of the answer
abbrev pub structure_of : Sheet → Entry → Structure
structure_of sh e = structure_with (unforced sh e) sh e
