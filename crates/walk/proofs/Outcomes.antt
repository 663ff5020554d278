-- What becomes of a call, case by case, and what an outcome gives back and leaves in the trail.
use Prim.Native.Nat.{ℕ, ◌+◌, ◌-◌, ◌≤◌, ◌<◌}
use native.Mathlib.Decide.{dec_lt}
use native.Mathlib.Omega.{arith}
use mathlib.Core.Path.{◌≡◌, refl, ap, ap₂, sym, ◌∙◌}
use mathlib.Core.Bool.{Bool, true, false}
use mathlib.Core.List.{List}
use lib.ListN.{length}
use lib.Dec.{ltb}
use borrow.Author.Tests.{lt-ltb, le-ltb}
use Rattle.std.specs.Prelude.{Ok, Err}
use Rattle.prelude.specs.Causes.{refusal}
use Rattle.prelude.specs.declared.refusal.Refusal.{Refusal}
use Rattle.logic.specs.Sheet.{Sheet}
use Rattle.layout.specs.Layout.{Reading, accepted, refused, reading}
use Rattle.tables.specs.Layout.{decoded}
use Rattle.tables.specs.Tests.{well_laid}
use Rattle.walk.specs.Walk.{walk, walkable, Outcome, turned_down, walked, consider, outcome, walks, walking, trail_in, trail_after}
use Rattle.walk.specs.Parts.{admitted}

module _ (sheet t : List ℕ) (s c : ℕ) (fs : List ℕ) (room start : ℕ) where
  pub outcome_refused : (n i : ℕ) → reading sheet ≡ refused n i → outcome sheet t s c fs room start ≡ turned_down n i
  unfolding outcome
  outcome_refused n i q = rw q refl

  module _ (sh : Sheet) (q : reading sheet ≡ accepted sh) where
    -- the call by its three tests
    abbrev chosen : Bool → Bool → Bool → Outcome
    chosen short laid right =
        elim short [
          | true ↦ turned_down 10 0
          | false ↦ elim laid [ false ↦ turned_down 12 0 | true ↦ elim right [ false ↦ turned_down 15 0 | true ↦ walked (walk (decoded sh t) c fs) ] ]
        ]

    by_tests : (x y z : Bool) → ltb room (start + length fs) ≡ x → well_laid sh t ≡ y → walkable sh t s c fs ≡ z → outcome sheet t s c fs room start ≡ chosen x y z
    unfolding outcome
    by_tests x y z e f g =
        ap (λ (r : Reading). consider r t s c fs room start) q
        ∙ ap₂ (λ (a b : Bool). chosen a b (walkable sh t s c fs)) e f
        ∙ ap (chosen x y) g

    pub outcome_short : room < start + length fs → outcome sheet t s c fs room start ≡ turned_down 10 0
    outcome_short h = by_tests true (well_laid sh t) (walkable sh t s c fs) (lt-ltb room (start + length fs) h) refl refl

    pub outcome_malformed : start + length fs ≤ room → well_laid sh t ≡ false → outcome sheet t s c fs room start ≡ turned_down 12 0
    outcome_malformed h e = by_tests false false (walkable sh t s c fs) (le-ltb room (start + length fs) h) e refl

    pub outcome_absent : start + length fs ≤ room → well_laid sh t ≡ true → walkable sh t s c fs ≡ false → outcome sheet t s c fs room start ≡ turned_down 15 0
    outcome_absent h e f = by_tests false true false (le-ltb room (start + length fs) h) e f

    pub outcome_walked : start + length fs ≤ room → well_laid sh t ≡ true → walkable sh t s c fs ≡ true → outcome sheet t s c fs room start ≡ walked (walk (decoded sh t) c fs)
    outcome_walked h e f = by_tests false true true (le-ltb room (start + length fs) h) e f

    -- the first of the causes 12 and 15 that applies
    pub outcome_cause : (r : Refusal) → start + length fs ≤ room → Err r ≡ admitted sh t s c fs → (n : ℕ) × (r ≡ refusal n 0) × (outcome sheet t s c fs room start ≡ turned_down n 0)
    outcome_cause r h e = by (well_laid sh t) (walkable sh t s c fs) refl refl
      where
        by : (a b : Bool) → well_laid sh t ≡ a → walkable sh t s c fs ≡ b → (n : ℕ) × (r ≡ refusal n 0) × (outcome sheet t s c fs room start ≡ turned_down n 0)
        by false b l w = let q : Err r ≡ Err (refusal 12 0) = e ∙ rw l refl in (12, cc, outcome_malformed h l)
        by true false l w = let q : Err r ≡ Err (refusal 15 0) = e ∙ rw (l, w) refl in (15, cc, outcome_absent h l w)
        by true true l w = let q : Err r ≡ Ok tt = e ∙ rw (l, w) refl in absurd cc

  -- the ways that a call can go
  pub data Way : Type 0 where
    unread : (n i : ℕ) → reading sheet ≡ refused n i → Way
    short : (sh : Sheet) → reading sheet ≡ accepted sh → room < start + length fs → Way
    malformed : (sh : Sheet) → reading sheet ≡ accepted sh → start + length fs ≤ room → well_laid sh t ≡ false → Way
    absent : (sh : Sheet) → reading sheet ≡ accepted sh → start + length fs ≤ room → well_laid sh t ≡ true → walkable sh t s c fs ≡ false → Way
    there : (sh : Sheet) → reading sheet ≡ accepted sh → start + length fs ≤ room → well_laid sh t ≡ true → walkable sh t s c fs ≡ true → Way

  pub way : Way
  way = by_reading (reading sheet) refl
    where
      by_tests : (sh : Sheet) → reading sheet ≡ accepted sh → start + length fs ≤ room → (a b : Bool) → well_laid sh t ≡ a → walkable sh t s c fs ≡ b → Way
      by_tests sh q h false b e f = malformed sh q h e
      by_tests sh q h true false e f = absent sh q h e f
      by_tests sh q h true true e f = there sh q h e f

      by_reading : (r : Reading) → reading sheet ≡ r → Way
      by_reading (refused n i) q = unread n i q
      by_reading (accepted sh) q =
          elim (dec_lt room (start + length fs)) [
            | yes h ↦ short sh q h
            | no h ↦ by_tests sh q (omega arith) (well_laid sh t) (walkable sh t s c fs) refl refl
          ]

-- cause 10, by a subtraction
pub start_past_end : (room start many : ℕ) → room < start → true ≡ ltb room (start + many)
start_past_end room start many h = sym (lt-ltb room (start + many) (omega arith))

pub room_behind : (room start many : ℕ) → start ≤ room → ltb (room - start) many ≡ ltb room (start + many)
room_behind room start many h =
    elim (dec_lt room (start + many)) [
      | yes l ↦ lt-ltb (room - start) many (omega arith) ∙ sym (lt-ltb room (start + many) l)
      | no l ↦ le-ltb (room - start) many (omega arith) ∙ sym (le-ltb room (start + many) (omega arith))
    ]

-- what an outcome gives back, and what it leaves in the trail
pub result_of_lem : (sheet t : List ℕ) (s c : ℕ) (fs : List ℕ) (room start : ℕ) (o : Outcome) → outcome sheet t s c fs room start ≡ o → walking sheet t s c fs room start ≡ walks o
unfolding walking
result_of_lem sheet t s c fs room start o e = ap walks e

pub trail_of : (sheet t : List ℕ) (s c : ℕ) (fs trail : List ℕ) (start : ℕ) (o : Outcome) → outcome sheet t s c fs (length trail) start ≡ o → trail_after sheet t s c fs trail start ≡ trail_in o trail start
unfolding trail_after
trail_of sheet t s c fs trail start o e = ap (λ (x : Outcome). trail_in x trail start) e

-- both clauses of the contract
pub exit :
    (sheet t : List ℕ) (s c : ℕ) (fs trail : List ℕ) (start : ℕ) (o : Outcome) → outcome sheet t s c fs (length trail) start ≡ o
    → (walks o ≡ walking sheet t s c fs (length trail) start) × (trail_in o trail start ≡ trail_after sheet t s c fs trail start)
exit sheet t s c fs trail start o e = (sym (result_of_lem sheet t s c fs (length trail) start o e), sym (trail_of sheet t s c fs trail start o e))
