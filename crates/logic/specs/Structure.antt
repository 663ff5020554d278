-- The interface: many-sorted structures and what they make true (docs/FORMAT.md, "The words used here"), with non-empty domains. Sizes are
-- any numbers here: the limits of a sheet enter with `Candidate` alone.
use Rattle.std.specs.Prelude.{ℕ, ◌≤◌, ◌<◌, ◌+◌, ◌≡◌, Bool, true, false, List, [], ◌∷◌, ◌++◌, map, length}
use Rattle.prelude.specs.Lists.{at, sum_to}
use Rattle.logic.specs.Sheet.{Sheet, Term, Literal, bound_at, symbol_at, literal_at}

-- a structure (in the format's words: interpretation): how many codes each sort has, and what each symbol's table holds at a list of
-- argument codes
pub record Structure : Type 0 where
  pub size : ℕ → ℕ
  pub table : ℕ → List ℕ → ℕ

-- the codes cs lie one by one in the sorts ss: as many codes as sorts, each below its sort's size
abbrev pub InSorts : (ℕ → ℕ) → List ℕ → List ℕ → Type 0
InSorts size [] [] = Unit
InSorts size [] (c ∷ cs) = ⊥
InSorts size (s ∷ ss) [] = ⊥
InSorts size (s ∷ ss) (c ∷ cs) = (c < size s) × InSorts size ss cs

-- a structure for the sorts and symbols of a sheet: each size is at least 1, and each table is complete, with a code of the
-- result's sort in each cell
pub record Interprets (M : Structure) (sh : Sheet) : Type 0 where
  pub nonempty : (s : ℕ) → s < length sh.bounds → 1 ≤ M.size s
  pub complete : (f : ℕ) → f < length sh.symbols → (cs : List ℕ) → InSorts M.size (symbol_at sh f).params cs → M.table f cs < M.size (symbol_at sh f).result

-- the codes of a list of terms, those of the terms before them being cs: each term's code is what its symbol's table holds at
-- the codes of its arguments
abbrev pub codes_from : Structure → List ℕ → List Term → List ℕ
codes_from M cs [] = cs
codes_from M cs (t ∷ ts) = codes_from M (cs ++ (M.table t.symbol (map (at cs) t.args) ∷ [])) ts

-- the codes of all terms of a sheet, in their order
unfoldable pub codes : Structure → Sheet → List ℕ
codes M sh = codes_from M [] sh.terms

-- the code of a term
abbrev pub code : Structure → Sheet → ℕ → ℕ
code M sh i = at (codes M sh) i

-- a literal holds of two codes: they are equal, or they are not
abbrev pub Agree : Bool → ℕ → ℕ → Type 0
Agree true x y = x ≡ y
Agree false x y = x ≡ y → ⊥

-- a literal holds where terms have the codes c
abbrev pub Holds : (ℕ → ℕ) → Literal → Type 0
Holds c l = Agree l.equal (c l.left) (c l.right)

-- the structure satisfies every statement of the sheet
abbrev pub Satisfies : Structure → Sheet → Type 0
Satisfies M sh = (k : ℕ) → k < length sh.literals → Holds (code M sh) (literal_at sh k)

-- it satisfies every same statement; the others play no part
abbrev pub SatisfiesSame : Structure → Sheet → Type 0
SatisfiesSame M sh = (k : ℕ) → k < length sh.literals → (literal_at sh k).equal ≡ true → Holds (code M sh) (literal_at sh k)

-- the sizes lie from floor to ceiling and sum to at most the total
pub record Bounded (sh : Sheet) (size : ℕ → ℕ) : Type 0 where
  pub floor : (s : ℕ) → s < length sh.bounds → (bound_at sh s).floor ≤ size s
  pub ceiling : (s : ℕ) → s < length sh.bounds → size s ≤ (bound_at sh s).ceiling
  pub total : sum_to (length sh.bounds) size ≤ sh.total

-- a candidate for a sheet
pub record Candidate (M : Structure) (sh : Sheet) : Type 0 where
  pub interprets : Interprets M sh
  pub bounded : Bounded sh M.size
