-- What becomes of a call, case by case: the equations of `outcome`.
use Prim.Native.Nat.{ℕ, ◌≤◌, ◌<◌}
use mathlib.Core.Path.{◌≡◌, ap, ◌∙◌}
use mathlib.Core.Bool.{Bool, true, false}
use mathlib.Core.Logic.{◌⊎◌}
use mathlib.Core.List.{List}
use mathlib.Core.Option.{Option}
use lib.ListN.{length}
use Rattle.logic.specs.Sheet.{Sheet}
use Rattle.layout.specs.Layout.{Reading, accepted, refused, reading}
use Rattle.tables.specs.Layout.{extent}
use Rattle.answer.specs.Answer.{Entry, answer}
use Rattle.find_at.specs.Found.{Outcome, turned_down, ceilings, short, answering}
use Rattle.find_at.proofs.Outcomes.{is_short, not_short}
use Rattle.finder.specs.Find.{consider, outcome}

abbrev branch : Sheet → Bool → Outcome
branch sh b = elim b [ true ↦ turned_down 10 0 | false ↦ answering sh (answer sh) ]

-- a sheet that is refused
pub outcome_refused : (s : List ℕ) (n i nc nt : ℕ) → reading s ≡ refused n i → outcome s nc nt ≡ turned_down n i
unfolding outcome
outcome_refused s n i nc nt q = ap (λ (r : Reading). consider r nc nt) q

-- cause 10
pub outcome_tested : (s : List ℕ) (sh : Sheet) (nc nt : ℕ) → reading s ≡ accepted sh → short sh nc nt ≡ true → outcome s nc nt ≡ turned_down 10 0
unfolding outcome
outcome_tested s sh nc nt q t = ap (λ (r : Reading). consider r nc nt) q ∙ ap (branch sh) t

pub outcome_short : (s : List ℕ) (sh : Sheet) (nc nt : ℕ) → reading s ≡ accepted sh → (nc < length sh.terms) ⊎ (nt < extent sh (ceilings sh)) → outcome s nc nt ≡ turned_down 10 0
outcome_short s sh nc nt q l = outcome_tested s sh nc nt q (is_short sh nc nt l)

-- cause 11, or the answer
pub outcome_roomy : (s : List ℕ) (sh : Sheet) (a : Option Entry) (nc nt : ℕ) → reading s ≡ accepted sh → short sh nc nt ≡ false → answer sh ≡ a → outcome s nc nt ≡ answering sh a
unfolding outcome
outcome_roomy s sh a nc nt q t e = ap (λ (r : Reading). consider r nc nt) q ∙ ap (branch sh) t ∙ ap (answering sh) e

pub outcome_long : (s : List ℕ) (sh : Sheet) (a : Option Entry) (nc nt : ℕ) → reading s ≡ accepted sh → length sh.terms ≤ nc → extent sh (ceilings sh) ≤ nt → answer sh ≡ a → outcome s nc nt ≡ answering sh a
outcome_long s sh a nc nt q h k = outcome_roomy s sh a nc nt q (not_short sh nc nt h k)
