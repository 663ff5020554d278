-- The interface: the layout the other way round: the bytes that a sheet is written as (docs/FORMAT.md, "The sheet"). A well-formed sheet
-- has these bytes and no others (`accepted_exactly`, proofs/Answers.antt).
use Rattle.std.specs.Prelude.{ℕ, zero, suc, cond, length}
use mathlib.Core.List.{List, [], ◌∷◌, ◌++◌, flat_map}
use Rattle.logic.specs.Sheet.{Sheet, Bound, Symbol, Term, Literal, Fill}

-- a record: length and kind, of two bytes each, then the payload
abbrev pub packet : ℕ → List ℕ → List ℕ
packet kind payload = (length payload ∷ 0 ∷ kind ∷ 0 ∷ []) ++ payload

-- the record of a sort, a symbol, a term, a literal, a fill
abbrev pub bound_bytes : Bound → List ℕ
bound_bytes b = packet 1 (b.floor ∷ b.ceiling ∷ [])

abbrev pub symbol_bytes : Symbol → List ℕ
symbol_bytes f = packet 2 (f.result ∷ f.params)

abbrev pub term_bytes : Term → List ℕ
term_bytes t = packet 3 (t.symbol ∷ t.args)

abbrev pub literal_bytes : Literal → List ℕ
literal_bytes l = packet (cond l.equal 4 5) (l.left ∷ l.right ∷ [])

abbrev pub fill_bytes : Fill → List ℕ
fill_bytes x = packet 7 (x.symbol ∷ x.term ∷ [])

-- the record of the total; there is none where there is no total
abbrev pub total_bytes : ℕ → List ℕ
total_bytes zero = []
total_bytes (suc n) = packet 6 (suc n ∷ [])

-- the records in the layout's order, those of one list after the other, the total last
unfoldable pub encode : Sheet → List ℕ
encode sh =
    flat_map bound_bytes sh.bounds
    ++ flat_map symbol_bytes sh.symbols
    ++ flat_map term_bytes sh.terms
    ++ flat_map literal_bytes sh.literals
    ++ flat_map fill_bytes sh.fills
    ++ total_bytes sh.total
