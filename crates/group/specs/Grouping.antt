-- The interface: the answer to the question "group" for every call (docs/FORMAT.md, "The questions" and "Refusals").
use Rattle.std.specs.Prelude.{ℕ, cond, List, length, ltb, Result, Ok, Err}
use Rattle.prelude.specs.Causes.{refusal}
use Rattle.prelude.specs.declared.refusal.Refusal.{Refusal}
use Rattle.layout.specs.Layout.{Reading, accepted, refused, reading}
use Rattle.congruence.specs.Closure.{group_of}

-- the answer, by what reading the sheet gives: a refused sheet's number and place; else the number of the expression's group, and 13 where the
-- expression is not there
abbrev pub grouping_of : Reading → ℕ → Result ℕ Refusal
grouping_of (refused n i) e = Err (refusal n i)
grouping_of (accepted sh) e = cond (ltb e (length sh.terms)) (Ok (group_of sh e)) (Err (refusal 13 0))

-- the answer to a sheet's bytes and a number
unfoldable pub grouping : List ℕ → ℕ → Result ℕ Refusal
grouping s e = grouping_of (reading s) e
