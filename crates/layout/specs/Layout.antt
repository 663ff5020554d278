-- The interface: the layout of a sheet (docs/FORMAT.md, "The sheet") and the causes 1 to 9 and 16 for which one is refused ("Refusals"); cause
-- 2 is `cut`, in the crate records. A sheet is accepted exactly when `reading` of its bytes is `accepted`.
use Rattle.std.specs.Prelude.{ℕ, zero, suc, ◌+◌, ◌≡◌, ◌⊎◌, Bool, true, false, not, ◌&&◌, ◌||◌, cond, List, [], ◌∷◌, ◌++◌, map, length, get_or, drop, leb, ltb, eqb}
use Rattle.prelude.specs.Tests.{Within, all, within, same_list}
use Rattle.logic.specs.Sheet.{Sheet, Bound, Symbol, Term, Literal, Fill, symbol_at, sort_at}
use Rattle.prelude.specs.Lists.{at}
use Rattle.records.specs.Record.{cut, length_at, kind_at, payload_at}
use Rattle.prelude.specs.Limits.{most_sorts, most_symbols, most_terms, most_literals, most_fills, most_codes, most_total}

-- The record kinds. `field` to `fill` are the kinds 1 to 7; every other number is `other`.
pub data Kind : Type 0 where
  other field name expression same differ total fill : Kind

abbrev pub kind_of : ℕ → Kind
kind_of n = get_or (other ∷ field ∷ name ∷ expression ∷ same ∷ differ ∷ total ∷ fill ∷ []) n other

-- the shortest and the longest payload of each kind, by the kind's number
abbrev pub lengths : List (List ℕ)
lengths =
    (0 ∷ 0 ∷ [])
    ∷ (2 ∷ 2 ∷ [])
    ∷ (1 ∷ 3 ∷ [])
    ∷ (1 ∷ 3 ∷ [])
    ∷ (2 ∷ 2 ∷ [])
    ∷ (2 ∷ 2 ∷ [])
    ∷ (1 ∷ 1 ∷ [])
    ∷ (2 ∷ 2 ∷ [])
    ∷ []

abbrev pub shortest : ℕ → ℕ
shortest k = get_or (get_or lengths k []) 0 0

abbrev pub longest : ℕ → ℕ
longest k = get_or (get_or lengths k []) 1 0

-- the most records of a kind; kinds 4 and 5 are counted together
abbrev pub most : Kind → ℕ
most other = 0
most field = most_sorts
most name = most_symbols
most expression = most_terms
most same = most_literals
most differ = most_literals
most total = 1
most fill = most_fills

-- the order of the records: fields, names, expressions, statements in any mixture, fills, the total
abbrev pub rank : Kind → ℕ
rank other = 0
rank field = 1
rank name = 2
rank expression = 3
rank same = 4
rank differ = 4
rank total = 6
rank fill = 5

-- the rank of the last record read, 0 before the first
abbrev pub reached : Sheet → ℕ
reached sh =
    cond (not (eqb sh.total 0)) 6
    (cond (not (eqb (length sh.fills) 0)) 5
    (cond (not (eqb (length sh.literals) 0)) 4
    (cond (not (eqb (length sh.terms) 0)) 3
    (cond (not (eqb (length sh.symbols) 0)) 2
    (cond (not (eqb (length sh.bounds) 0)) 1 0)))))

-- how many records of a kind have been read
abbrev pub count : Sheet → Kind → ℕ
count sh other = 0
count sh field = length sh.bounds
count sh name = length sh.symbols
count sh expression = length sh.terms
count sh same = length sh.literals
count sh differ = length sh.literals
count sh total = cond (eqb sh.total 0) 0 1
count sh fill = length sh.fills

-- Cause 3: the kind is not 1 to 7, or out of order, or not a field first, or after the total.
abbrev pub misplaced : Sheet → Kind → Bool
misplaced sh k =
    eqb (rank k) 0
    || ltb (rank k) (reached sh)
    || (eqb (reached sh) 0 && not (eqb (rank k) 1))
    || eqb (reached sh) 6

-- Cause 4: the length is not allowed for the kind.
abbrev pub wrong_length : ℕ → ℕ → Bool
wrong_length k n = ltb n (shortest k) || ltb (longest k) n

-- Cause 5: one record more than the most.
abbrev pub too_many : Sheet → Kind → Bool
too_many sh k = leb (most k) (count sh k)

-- Cause 6: a floor, ceiling, total or reference is out of range. References point backwards.
abbrev pub out_of_range : Sheet → Kind → List ℕ → Bool
out_of_range sh other p = false
out_of_range sh field p = not (all (within 1 most_codes) p)
out_of_range sh name p = not (all (λ s. ltb s (length sh.bounds)) p)
out_of_range sh expression p = not (ltb (at p 0) (length sh.symbols) && all (λ a. ltb a (length sh.terms)) (drop 1 p))
out_of_range sh same p = not (all (λ a. ltb a (length sh.terms)) p)
out_of_range sh differ p = not (all (λ a. ltb a (length sh.terms)) p)
out_of_range sh total p = not (all (within 1 most_total) p)
out_of_range sh fill p = not (ltb (at p 0) (length sh.symbols) && ltb (at p 1) (length sh.terms))

-- Cause 7: the argument count or fields are wrong, or the two sides lie in different fields, or a fill's expression is not of its name's result
-- field.
abbrev pub ill_sorted : Sheet → Kind → List ℕ → Bool
ill_sorted sh other p = false
ill_sorted sh field p = false
ill_sorted sh name p = false
ill_sorted sh expression p = not (same_list (map (sort_at sh) (drop 1 p)) (symbol_at sh (at p 0)).params)
ill_sorted sh same p = not (eqb (sort_at sh (at p 0)) (sort_at sh (at p 1)))
ill_sorted sh differ p = not (eqb (sort_at sh (at p 0)) (sort_at sh (at p 1)))
ill_sorted sh total p = false
ill_sorted sh fill p = not (eqb (sort_at sh (at p 1)) (symbol_at sh (at p 0)).result)

-- one of the terms has this symbol and these arguments
abbrev pub occurs : ℕ → List ℕ → List Term → Bool
occurs f args [] = false
occurs f args (t ∷ ts) = (eqb t.symbol f && same_list t.args args) || occurs f args ts

-- Cause 8: an expression with the same name and arguments as an earlier one.
abbrev pub repeated : Sheet → Kind → List ℕ → Bool
repeated sh other p = false
repeated sh field p = false
repeated sh name p = false
repeated sh expression p = occurs (at p 0) (drop 1 p) sh.terms
repeated sh same p = false
repeated sh differ p = false
repeated sh total p = false
repeated sh fill p = false

-- one of the fills is of this symbol
abbrev pub is_filled : ℕ → List Fill → Bool
is_filled f [] = false
is_filled f (x ∷ xs) = eqb x.symbol f || is_filled f xs

-- Cause 16: a fill of the same name as an earlier one.
abbrev pub refilled : Sheet → Kind → List ℕ → Bool
refilled sh other p = false
refilled sh field p = false
refilled sh name p = false
refilled sh expression p = false
refilled sh same p = false
refilled sh differ p = false
refilled sh total p = false
refilled sh fill p = is_filled (at p 0) sh.fills

-- the lowest number of the causes 3 to 8 and 16 that apply to a whole record of kind number k and payload p after the sheet so far; 0
-- where none does
unfoldable pub cause : Sheet → ℕ → List ℕ → ℕ
cause sh k p =
    cond (misplaced sh (kind_of k)) 3
    (cond (wrong_length k (length p)) 4
    (cond (too_many sh (kind_of k)) 5
    (cond (out_of_range sh (kind_of k) p) 6
    (cond (ill_sorted sh (kind_of k) p) 7
    (cond (repeated sh (kind_of k) p) 8
    (cond (refilled sh (kind_of k) p) 16
    0))))))

-- the sheet with one record more
abbrev pub add_bound : Sheet → Bound → Sheet
add_bound sh b =
    record { bounds = sh.bounds ++ (b ∷ []); symbols = sh.symbols; terms = sh.terms; literals = sh.literals; fills = sh.fills; total = sh.total }

abbrev pub add_symbol : Sheet → Symbol → Sheet
add_symbol sh f =
    record { bounds = sh.bounds; symbols = sh.symbols ++ (f ∷ []); terms = sh.terms; literals = sh.literals; fills = sh.fills; total = sh.total }

abbrev pub add_term : Sheet → Term → Sheet
add_term sh t =
    record { bounds = sh.bounds; symbols = sh.symbols; terms = sh.terms ++ (t ∷ []); literals = sh.literals; fills = sh.fills; total = sh.total }

abbrev pub add_literal : Sheet → Literal → Sheet
add_literal sh l =
    record { bounds = sh.bounds; symbols = sh.symbols; terms = sh.terms; literals = sh.literals ++ (l ∷ []); fills = sh.fills; total = sh.total }

abbrev pub add_fill : Sheet → Fill → Sheet
add_fill sh x =
    record { bounds = sh.bounds; symbols = sh.symbols; terms = sh.terms; literals = sh.literals; fills = sh.fills ++ (x ∷ []); total = sh.total }

abbrev pub with_total : Sheet → ℕ → Sheet
with_total sh n =
    record { bounds = sh.bounds; symbols = sh.symbols; terms = sh.terms; literals = sh.literals; fills = sh.fills; total = n }

abbrev pub add : Sheet → Kind → List ℕ → Sheet
add sh other p = sh
add sh field p = add_bound sh (record { floor = at p 0; ceiling = at p 1 })
add sh name p = add_symbol sh (record { result = at p 0; params = drop 1 p })
add sh expression p = add_term sh (record { symbol = at p 0; args = drop 1 p })
add sh same p = add_literal sh (record { equal = true; left = at p 0; right = at p 1 })
add sh differ p = add_literal sh (record { equal = false; left = at p 0; right = at p 1 })
add sh total p = with_total sh (at p 0)
add sh fill p = add_fill sh (record { symbol = at p 0; term = at p 1 })

-- what reading a sheet gives: the sheet, or a refusal's number and place
pub data Reading : Type 0 where
  accepted : Sheet → Reading
  refused : ℕ → ℕ → Reading

-- Cause 9: the sheet ends without a total. It passes over a sheet of zero bytes.
abbrev pub ended : List ℕ → Sheet → Reading
ended s sh = cond (eqb sh.total 0 && not (eqb (length s) 0)) (refused 9 (length s)) (accepted sh)

-- The records from a position on, after the sheet so far: the first faulty record decides, and within it the lowest number.
-- The first argument bounds the number of records that are still to come; `length s` is always enough, since each has 4 bytes
-- and more.
unfoldable pub read_from : ℕ → List ℕ → ℕ → Sheet → Reading
read_from zero s i sh = ended s sh
read_from (suc n) s i sh =
    elim (leb (length s) i) [
      | true ↦ ended s sh
      | false ↦
          elim (cut s i) [
            | true ↦ refused 2 i
            | false ↦
                elim (eqb (cause sh (kind_at s i) (payload_at s i)) 0) [
                  | true ↦ read_from n s (i + 4 + length_at s i) (add sh (kind_of (kind_at s i)) (payload_at s i))
                  | false ↦ refused (cause sh (kind_at s i) (payload_at s i)) i
                ]
          ]
    ]

-- the sheet of zero bytes, and the sheet before the first record
abbrev pub empty : Sheet
empty = record { bounds = []; symbols = []; terms = []; literals = []; fills = []; total = 0 }

-- the most bytes of a sheet
abbrev pub most_bytes : ℕ
most_bytes = 4096

-- Cause 1: the sheet has more bytes than the most.
unfoldable pub reading : List ℕ → Reading
reading s = cond (ltb most_bytes (length s)) (refused 1 0) (read_from (length s) s 0 empty)

-- the numbers of the causes that lie in a sheet's own bytes
abbrev pub InSheet : ℕ → Type 0
InSheet n = Within 1 9 n ⊎ (n ≡ 16)
