-- The interface: the answer to the question "forced" for every call (docs/FORMAT.md, "The questions" and "Refusals").
use Rattle.std.specs.Prelude.{ℕ, Bool, ◌&&◌, cond, List, length, ltb, eqb, Result, Ok, Err}
use Rattle.prelude.specs.Causes.{refusal}
use Rattle.prelude.specs.declared.refusal.Refusal.{Refusal}
use Rattle.logic.specs.Sheet.{Sheet, sort_at}
use Rattle.layout.specs.Layout.{Reading, accepted, refused, reading}
use Rattle.congruence.specs.Closure.{together}

-- both expressions are there and lie in one field; otherwise the call is turned down with 13
abbrev pub comparable : Sheet → ℕ → ℕ → Bool
comparable sh a b = ltb a (length sh.terms) && (ltb b (length sh.terms) && eqb (sort_at sh a) (sort_at sh b))

-- the answer, by what reading the sheet gives: a refused sheet's number and place; else 13 where the two are not comparable, and yes or no
-- by the groups that the same statements make
abbrev pub forcing_of : Reading → ℕ → ℕ → Result Bool Refusal
forcing_of (refused n i) a b = Err (refusal n i)
forcing_of (accepted sh) a b = cond (comparable sh a b) (Ok (together sh a b)) (Err (refusal 13 0))

-- the answer to a sheet's bytes and two numbers
unfoldable pub forcing : List ℕ → ℕ → ℕ → Result Bool Refusal
forcing s a b = forcing_of (reading s) a b
