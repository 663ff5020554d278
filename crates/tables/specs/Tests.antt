-- The interface: the tests of judge (docs/FORMAT.md, "The questions"): whether tables are well laid, their sizes in bounds, and the
-- statements satisfied.
use Rattle.std.specs.Prelude.{ℕ, suc, ◌+◌, Bool, true, false, not, ◌&&◌, cond, List, [], ◌∷◌, length, leb, ltb, eqb}
use Rattle.logic.specs.Sheet.{Sheet, Literal, bound_at, symbol_at}
use Rattle.prelude.specs.Tests.{within, every}
use Rattle.prelude.specs.Lists.{at, sum_to}
use Rattle.prelude.specs.Limits.{most_codes}
use Rattle.tables.specs.Layout.{cells, offset, extent}
use Rattle.tables.specs.declared.Judgement.{Judgement}
use Rattle.tables.specs.declared.Judgement.TheVariants.{Fits, Broken}

-- no size is missing, 0 or above the most codes
abbrev pub sizes_right : Sheet → List ℕ → Bool
sizes_right sh t = leb (length sh.bounds) (length t) && every (length sh.bounds) (λ s. within 1 most_codes (at t s))

-- no entry of a symbol's table is at or past the size of the symbol's sort
abbrev pub entries_right : Sheet → List ℕ → ℕ → Bool
entries_right sh t f = every (cells (at t) (symbol_at sh f).params) (λ k. ltb (at t (offset sh (at t) f + k)) (at t (symbol_at sh f).result))

-- Cause 12 does not apply: sizes, length and entries are right.
unfoldable pub well_laid : Sheet → List ℕ → Bool
well_laid sh t = sizes_right sh t && eqb (length t) (extent sh (at t)) && every (length sh.symbols) (entries_right sh t)

-- the sizes lie from floor to ceiling and sum to at most the total
unfoldable pub in_bounds : Sheet → (ℕ → ℕ) → Bool
in_bounds sh size =
    every (length sh.bounds) (λ s. within (bound_at sh s).floor (bound_at sh s).ceiling (size s))
    && leb (sum_to (length sh.bounds) size) sh.total

-- a statement holds of two codes that are equal, or not equal, where it says the one or the other
abbrev pub agree : Bool → Bool → Bool
agree true same = same
agree false same = not same

abbrev pub holds : (ℕ → ℕ) → Literal → Bool
holds c l = agree l.equal (eqb (c l.left) (c l.right))

-- the first broken one of some statements, the first of which has number k
abbrev pub statements : (ℕ → ℕ) → ℕ → List Literal → Judgement
statements c k [] = Fits
statements c k (l ∷ ls) = cond (holds c l) (statements c (suc k) ls) (Broken k)
