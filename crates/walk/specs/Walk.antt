-- The interface: the question "walk" (docs/FORMAT.md, "The questions" and "Refusals"): what it gives back for every call, and what the trail holds afterwards.
use Rattle.std.specs.Prelude.{ℕ, ◌+◌, Bool, true, false, ◌&&◌, List, [], ◌∷◌, length, ltb, eqb, Result, Ok, Err}
use Rattle.prelude.specs.Causes.{refusal}
use Rattle.prelude.specs.declared.refusal.Refusal.{Refusal}
use Rattle.prelude.specs.Lists.{at}
use Rattle.prelude.specs.Pasted.{pasted}
use Rattle.prelude.specs.Tests.{every, same_list}
use Rattle.logic.specs.Sheet.{Sheet, symbol_at}
use Rattle.logic.specs.Structure.{Structure}
use Rattle.layout.specs.Layout.{Reading, accepted, refused, reading}
use Rattle.tables.specs.Layout.{decoded}
use Rattle.tables.specs.Tests.{well_laid}

-- THE WALK from code c: the code after each event, which is what the event's table holds at the code before it
abbrev pub walk : Structure → ℕ → List ℕ → List ℕ
walk M c [] = []
walk M c (f ∷ fs) = M.table f (c ∷ []) ∷ walk M (M.table f (c ∷ [])) fs

-- where a walk ends: the code after the last event, the starting code where there is none
abbrev pub end : Structure → ℕ → List ℕ → ℕ
end M c [] = c
end M c (f ∷ fs) = end M (M.table f (c ∷ [])) fs

-- the symbol of an event is there, takes just the sort s and gives it
abbrev pub stays_in : Sheet → ℕ → ℕ → Bool
stays_in sh s f = ltb f (length sh.symbols) && eqb (symbol_at sh f).result s && same_list (symbol_at sh f).params (s ∷ [])

-- every event stays in the sort
abbrev pub all_stay : Sheet → ℕ → List ℕ → Bool
all_stay sh s fs = every (length fs) (λ k. stays_in sh s (at fs k))

-- Cause 15 does not apply: the sort is there, the starting code is below its size, and every event stays in it.
unfoldable pub walkable : Sheet → List ℕ → ℕ → ℕ → List ℕ → Bool
walkable sh t s c fs = ltb s (length sh.bounds) && ltb c (at t s) && all_stay sh s fs

-- a call is turned down with a number and a place, or these codes are written
pub data Outcome : Type 0 where
  turned_down : ℕ → ℕ → Outcome
  walked : List ℕ → Outcome

-- Causes 12 and 15, then the walk through the structure that the tables hold. They need not satisfy the sheet.
abbrev pub through : Sheet → List ℕ → ℕ → ℕ → List ℕ → Outcome
through sh t s c fs =
    elim (well_laid sh t) [
      | false ↦ turned_down 12 0
      | true ↦ elim (walkable sh t s c fs) [ false ↦ turned_down 15 0 | true ↦ walked (walk (decoded sh t) c fs) ]
    ]

-- Causes 1 to 9 and 16 as the sheet is read, then 10: the start is past the trail's end, or fewer bytes than events follow it; then 12 and 15.
abbrev pub consider : Reading → List ℕ → ℕ → ℕ → List ℕ → ℕ → ℕ → Outcome
consider (refused n i) t s c fs room start = turned_down n i
consider (accepted sh) t s c fs room start = elim (ltb room (start + length fs)) [ true ↦ turned_down 10 0 | false ↦ through sh t s c fs ]

-- what becomes of a call with these bytes of a sheet and of tables, sort, starting code and events, and a start in a trail of so many bytes
unfoldable pub outcome : List ℕ → List ℕ → ℕ → ℕ → List ℕ → ℕ → ℕ → Outcome
outcome sheet t s c fs room start = consider (reading sheet) t s c fs room start

-- THE RESULT: how many codes were written, or the refusal
abbrev pub walks : Outcome → Result ℕ Refusal
walks (turned_down n i) = Err (refusal n i)
walks (walked cs) = Ok (length cs)

unfoldable pub walking : List ℕ → List ℕ → ℕ → ℕ → List ℕ → ℕ → ℕ → Result ℕ Refusal
walking sheet t s c fs room start = walks (outcome sheet t s c fs room start)

-- THE TRAIL at exit, from the trail at entry: the codes stand from the start on, and every other byte is as it was
abbrev pub trail_in : Outcome → List ℕ → ℕ → List ℕ
trail_in (turned_down n i) trail start = trail
trail_in (walked cs) trail start = pasted trail start cs

unfoldable pub trail_after : List ℕ → List ℕ → ℕ → ℕ → List ℕ → List ℕ → ℕ → List ℕ
trail_after sheet t s c fs trail start = trail_in (outcome sheet t s c fs (length trail) start) trail start
