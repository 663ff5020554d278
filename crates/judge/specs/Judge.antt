-- The interface: the questions "judge" and "table of a name" (docs/FORMAT.md, "The questions"), as functions of the bytes.
use Rattle.std.specs.Prelude.{ℕ, ◌+◌, ◌<◌, ◌≡◌, List, cond, length, take, drop, ltb, Result, Ok, Err}
use Rattle.prelude.specs.Causes.{number_of, refusal}
use Rattle.prelude.specs.declared.refusal.Refusal.{Refusal}
use Rattle.logic.specs.Sheet.{Sheet, symbol_at, literal_at}
use Rattle.prelude.specs.Lists.{at}
use Rattle.logic.specs.Structure.{code, Holds, Satisfies, Bounded, Candidate}
use Rattle.layout.specs.Layout.{Reading, accepted, refused, reading}
use Rattle.tables.specs.Layout.{cells, offset, decoded, WellLaid}
use Rattle.tables.specs.Tests.{well_laid, in_bounds, statements}
use Rattle.tables.specs.declared.Judgement.{Judgement}
use Rattle.tables.specs.declared.Judgement.TheVariants.{Fits, OutOfBounds, Broken}

-- Judge, of an accepted sheet: cause 12 first, then the bounds, then the statements in their order.
unfoldable pub judged : Sheet → List ℕ → Result Judgement Refusal
judged sh t =
    cond (well_laid sh t)
    (Ok (cond (in_bounds sh (at t)) (statements (code (decoded sh t) sh) 0 sh.literals) OutOfBounds))
    (Err (refusal 12 0))

-- What each reply says of the tables; `judged_says` of proofs/Judged.antt is the theorem that judge gives the reply that is true.
abbrev pub Says : Sheet → List ℕ → Result Judgement Refusal → Type 0
Says sh t (Ok Fits) = WellLaid sh t × Candidate (decoded sh t) sh × Satisfies (decoded sh t) sh
Says sh t (Ok OutOfBounds) = WellLaid sh t × (Bounded sh (at t) → ⊥)
Says sh t (Ok (Broken k)) =
    WellLaid sh t
    × Bounded sh (at t)
    × (k < length sh.literals)
    × ((j : ℕ) → j < k → Holds (code (decoded sh t) sh) (literal_at sh j))
    × (Holds (code (decoded sh t) sh) (literal_at sh k) → ⊥)
Says sh t (Err r) = (number_of r.cause ≡ 12) × (r.place ≡ 0) × (WellLaid sh t → ⊥)

-- Judge: what reading the sheet refuses goes before all else.
abbrev pub judged_of : Reading → List ℕ → Result Judgement Refusal
judged_of (accepted sh) t = judged sh t
judged_of (refused n i) t = Err (refusal n i)

unfoldable pub judgement : List ℕ → List ℕ → Result Judgement Refusal
judgement s t = judged_of (reading s) t

-- a stretch of the tables: where it starts, and how many bytes it has
pub record Stretch : Type 0 where
  pub start : ℕ
  pub many : ℕ

-- the bytes of a stretch
abbrev pub stretch : List ℕ → Stretch → List ℕ
stretch t s = take s.many (drop s.start t)

-- what shows a refusal
abbrev pub nowhere : Stretch
nowhere = record { start = 0; many = 0 }

-- Table of a name, of an accepted sheet: nowhere for cause 12, and for cause 13, a number that no symbol has.
unfoldable pub stretch_of : Sheet → List ℕ → ℕ → Stretch
stretch_of sh t f =
    cond (well_laid sh t)
    (cond (ltb f (length sh.symbols))
    (record { start = offset sh (at t) f; many = cells (at t) (symbol_at sh f).params })
    nowhere)
    nowhere

-- Table of a name: nowhere also where reading the sheet refuses it.
abbrev pub stretch_in : Reading → List ℕ → ℕ → Stretch
stretch_in (accepted sh) t f = stretch_of sh t f
stretch_in (refused n i) t f = nowhere

unfoldable pub table_of : List ℕ → List ℕ → ℕ → Stretch
table_of s t f = stretch_in (reading s) t f

-- a stretch by its start and its end
pub record Spans (start end : ℕ) (s : Stretch) : Type 0 where
  pub begins : start ≡ s.start
  pub ends : end ≡ s.start + s.many
