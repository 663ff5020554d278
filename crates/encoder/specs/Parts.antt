-- For the proofs only. The records of a parsed sheet, by its arrays.
use Rattle.std.specs.Prelude.{ℕ, ◌<◌, ◌≡◌, cond, List, [], ◌∷◌, ◌++◌, eqb}
use Rattle.prelude.specs.Limits.{missing}
use Rattle.prelude.specs.Lists.{at, collect}
use Rattle.layout.specs.Encode.{packet, total_bytes}
use Rattle.layout.specs.declared.Parsed.{Parsed}
use Rattle.encoder.specs.declared.Record.{Record}

-- those of two parameters or arguments that are there
unfoldable pub there : ℕ → ℕ → List ℕ
there a b = cond (eqb a missing) [] (a ∷ cond (eqb b missing) [] (b ∷ []))

-- a record of at most three payload bytes, of which the second and the third may be missing
unfoldable pub short_record : ℕ → ℕ → ℕ → ℕ → List ℕ
short_record kind b0 b1 b2 = packet kind (b0 ∷ there b1 b2)

abbrev pub record_bytes : Record → List ℕ
record_bytes r = short_record r.kind r.b0 r.b1 r.b2

-- each record that a function gives for a number below n has these bytes
abbrev pub Gives : (ℕ → Record → Type 0) → ℕ → (ℕ → List ℕ) → Type 0
Gives post n bytes = (i : ℕ) (r : Record) → i < n → post i r → record_bytes r ≡ bytes i

-- the record with a number, of the sorts, the symbols, the terms, the literals
abbrev pub sort_record : Parsed → ℕ → List ℕ
sort_record p s = short_record 1 (at p.floor s) (at p.ceiling s) missing

abbrev pub symbol_record : Parsed → ℕ → List ℕ
symbol_record p f = short_record 2 (at p.result f) (at p.param0 f) (at p.param1 f)

abbrev pub term_record : Parsed → ℕ → List ℕ
term_record p i = short_record 3 (at p.symbol i) (at p.arg0 i) (at p.arg1 i)

abbrev pub literal_record : Parsed → ℕ → List ℕ
literal_record p k = short_record (cond (eqb (at p.equal k) 1) 4 5) (at p.left k) (at p.right k) missing

-- all records
abbrev pub sheet_bytes : Parsed → List ℕ
sheet_bytes p =
    collect p.sorts (sort_record p)
    ++ collect p.symbols (symbol_record p)
    ++ collect p.terms (term_record p)
    ++ collect p.literals (literal_record p)
    ++ total_bytes p.total
