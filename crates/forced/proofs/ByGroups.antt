-- Forced and group, for every call: forced says yes exactly when group gives one number for both terms, and the number that group gives is the lowest
-- for which forced says yes.
use Prim.Native.Nat.{ℕ, ◌≤◌, ◌<◌}
use native.Mathlib.Decide.{dec_lt}
use native.Mathlib.Omega.{arith}
use mathlib.Core.Path.{◌≡◌, refl, ap, sym, ◌∙◌, subst}
use mathlib.Core.Bool.{Bool, true, false}
use mathlib.Core.Logic.{◌↔◌}
use mathlib.Core.List.{List}
use lib.ListN.{length}
use borrow.Author.Tests.{ltb-true, eq-eqb, eqb-true}
use Rattle.std.specs.Prelude.{Result, Ok, Err}
use Rattle.prelude.specs.Causes.{refusal}
use Rattle.prelude.specs.declared.refusal.Refusal.{Refusal}
use Rattle.logic.specs.Sheet.{Sheet}
use Rattle.prelude.proofs.Tests.{and_both}
use Rattle.layout.specs.Layout.{Reading, accepted, refused, reading}
use Rattle.layout.proofs.Answers.{accepted_well_formed}
use Rattle.congruence.specs.Closure.{group_of, together}
use Rattle.congruence.proofs.Structures.{forced_one_sort}
use Rattle.congruence.proofs.Closing.{together_exactly}
use Rattle.group.specs.Grouping.{grouping}
use Rattle.group.proofs.Replies.{named, answer_exactly, number_named}
use Rattle.forced.specs.Forcing.{comparable, forcing_of, forcing}
use Rattle.forced.proofs.Replies.{one_group, turned_down_lem, decided}

-- two terms of an accepted sheet whose groups have one number
record Tied (s : List ℕ) (a b : ℕ) : Type 0 where
  sheet : Sheet
  reads : reading s ≡ accepted sheet
  first : a < length sheet.terms
  second : b < length sheet.terms
  number : group_of sheet a ≡ group_of sheet b

yes_tied : (s : List ℕ) (a b : ℕ) → forcing s a b ≡ Ok true → Tied s a b
unfolding forcing
yes_tied s a b y = by (reading s) refl
  where
    go : (sh : Sheet) → reading s ≡ accepted sh → (c t : Bool) → comparable sh a b ≡ c → together sh a b ≡ t → Tied s a b
    go sh q true true c t =
        let there = and_both _ _ c in
        record {
          sheet = sh;
          reads = q;
          first = ltb-true _ _ there.0;
          second = ltb-true _ _ (and_both _ _ there.1).0;
          number = eqb-true _ _ t;
        }
    go sh q true false c t =
        let z : ◌≡◌ {A = Result Bool Refusal} (Ok false) (Ok true) = ap Ok (sym t) ∙ sym (decided s sh q a b c) ∙ y in
        absurd cc
    go sh q false x c t =
        let z : Err (refusal 13 0) ≡ Ok true = sym (turned_down_lem s sh q a b c) ∙ y in
        absurd cc

    by : (R : Reading) → reading s ≡ R → Tied s a b
    by (accepted sh) q = go sh q (comparable sh a b) (together sh a b) refl refl
    by (refused n i) q =
        let z : Err (refusal n i) ≡ Ok true = sym (ap (λ (R : Reading). forcing_of R a b) q) ∙ y in
        absurd cc

-- they are of one sort, as some structure tells terms of two sorts apart
tied_yes : (s : List ℕ) (a b : ℕ) → Tied s a b → forcing s a b ≡ Ok true
tied_yes s a b t =
    let sh = t.sheet in
    let w = accepted_well_formed s sh t.reads in
    let forced = (together_exactly sh w a b t.first t.second).0 (eq-eqb _ _ t.number) in
    sym (one_group s sh t.reads a b t.first t.second (forced_one_sort sh w a b t.first t.second forced) t.number)

-- THEOREM: forced compares the numbers of two groups
pub yes_one_number : (s : List ℕ) (a b : ℕ) → (forcing s a b ≡ Ok true) ↔ ((k : ℕ) × (grouping s a ≡ Ok k) × (grouping s b ≡ Ok k))
yes_one_number s a b = (to, from)
  where
    to : forcing s a b ≡ Ok true → (k : ℕ) × (grouping s a ≡ Ok k) × (grouping s b ≡ Ok k)
    to y =
        let t = yes_tied s a b y in
        (group_of t.sheet a, named s t.sheet t.reads a t.first, named s t.sheet t.reads b t.second ∙ ap Ok (sym t.number))

    from : (k : ℕ) × (grouping s a ≡ Ok k) × (grouping s b ≡ Ok k) → forcing s a b ≡ Ok true
    from g =
        let u = number_named s a g.0 g.1 in
        let v = number_named s b g.0 g.2 in
        let read : accepted v.sheet ≡ accepted u.sheet = sym v.reads ∙ u.reads in
        let same : v.sheet ≡ u.sheet = cc in
        tied_yes s a b
        (record {
          sheet = u.sheet;
          reads = u.reads;
          first = u.there;
          second = subst (λ (sh : Sheet). b < length sh.terms) same v.there;
          number = u.number ∙ sym (subst (λ (sh : Sheet). group_of sh b ≡ g.0) same v.number);
        })

-- a group's number is not above that of any of its terms, and forced says yes for it
module _ (s : List ℕ) (e k : ℕ) (g : grouping s e ≡ Ok k) where
  pub not_above : k ≤ e
  not_above =
      let u = number_named s e k g in
      let r = (answer_exactly s u.sheet u.reads e u.there k).0 g in
      elim (dec_lt e k) [
        | yes h ↦ absurd (r.lowest e h (λ M interprets sat. refl))
        | no h ↦ omega arith
      ]

  own_yes : forcing s k e ≡ Ok true
  own_yes =
      let u = number_named s e k g in
      let sh = u.sheet in
      let r = (answer_exactly s sh u.reads e u.there k).0 g in
      let both = (together_exactly sh (accepted_well_formed s sh u.reads) k e r.there u.there).1 r.forced in
      tied_yes s k e (record { sheet = sh; reads = u.reads; first = r.there; second = u.there; number = eqb-true _ _ both })

-- THEOREM: the number that group gives is the lowest that forced ties to the term
pub lowest_yes : (s : List ℕ) (e k : ℕ) → (grouping s e ≡ Ok k) ↔ ((forcing s k e ≡ Ok true) × ((j : ℕ) → j < k → forcing s j e ≡ Ok true → ⊥))
lowest_yes s e k = (to, from)
  where
    one : (m n : ℕ) → grouping s e ≡ Ok m → grouping s e ≡ Ok n → m ≡ n
    one m n x y = let z : ◌≡◌ {A = Result ℕ Refusal} (Ok m) (Ok n) = sym x ∙ y in cc

    to : grouping s e ≡ Ok k → (forcing s k e ≡ Ok true) × ((j : ℕ) → j < k → forcing s j e ≡ Ok true → ⊥)
    to g = (own_yes s e k g, λ j h y. let t = (yes_one_number s j e).0 y in omega (arith, not_above s j t.0 t.1, one t.0 k t.2 g))

    from : (forcing s k e ≡ Ok true) × ((j : ℕ) → j < k → forcing s j e ≡ Ok true → ⊥) → grouping s e ≡ Ok k
    from h =
        let t = (yes_one_number s k e).0 h.0 in
        let m = t.0 in
        let under = not_above s k m t.1 in
        elim (dec_lt m k) [
          | yes less ↦ absurd (h.1 m less (own_yes s e m t.2))
          | no same ↦ let q : m ≡ k = omega arith in t.2 ∙ ap Ok q
        ]
