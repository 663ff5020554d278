-- What becomes of a call, case by case: the equations of `outcome_at`; and the test of both buffers.
use Prim.Native.Nat.{ℕ, ◌≤◌, ◌<◌}
use mathlib.Core.Path.{◌≡◌, ap, ap₂, ◌∙◌}
use mathlib.Core.Bool.{Bool, true, false, ◌||◌, or-true}
use mathlib.Core.Logic.{◌⊎◌, inl, inr}
use mathlib.Core.List.{List}
use mathlib.Core.Option.{Option}
use lib.ListN.{length}
use lib.Dec.{ltb}
use borrow.Author.Tests.{le-ltb, lt-ltb, ltb-false}
use Rattle.prelude.proofs.Tests.{or_both}
use Rattle.logic.specs.Sheet.{Sheet}
use Rattle.layout.specs.Layout.{Reading, accepted, refused, reading}
use Rattle.tables.specs.Layout.{extent}
use Rattle.answer.specs.Answer.{Entry, answer_at}
use Rattle.answer.specs.Demand.{CandidateSizes}
use Rattle.find_at.specs.Found.{Outcome, turned_down, ceilings, short, answering}
use Rattle.find_at.specs.FindAt.{candidate_sizes, at_sizes, consider_at, outcome_at}
use Rattle.find_at.proofs.Sizes.{candidate_sizes_test}

-- a buffer is too short
pub is_short : (sh : Sheet) (nc nt : ℕ) → (nc < length sh.terms) ⊎ (nt < extent sh (ceilings sh)) → short sh nc nt ≡ true
is_short sh nc nt (inl h) = ap (λ (b : Bool). b || ltb nt (extent sh (ceilings sh))) (lt-ltb nc (length sh.terms) h)
is_short sh nc nt (inr h) =
    ap (λ (b : Bool). ltb nc (length sh.terms) || b) (lt-ltb nt (extent sh (ceilings sh)) h)
    ∙ or-true (ltb nc (length sh.terms))

-- both buffers suffice
pub not_short : (sh : Sheet) (nc nt : ℕ) → length sh.terms ≤ nc → extent sh (ceilings sh) ≤ nt → short sh nc nt ≡ false
not_short sh nc nt h k = ap₂ (λ (b d : Bool). b || d) (le-ltb nc (length sh.terms) h) (le-ltb nt (extent sh (ceilings sh)) k)

-- and the other way round
pub long_enough : (sh : Sheet) (nc nt : ℕ) → short sh nc nt ≡ false → (length sh.terms ≤ nc) × (extent sh (ceilings sh) ≤ nt)
long_enough sh nc nt e =
    let both = or_both (ltb nc (length sh.terms)) (ltb nt (extent sh (ceilings sh))) e in
    (ltb-false nc (length sh.terms) both.0, ltb-false nt (extent sh (ceilings sh)) both.1)

abbrev measured : Sheet → List ℕ → Bool → Outcome
measured sh z b = elim b [ true ↦ turned_down 10 0 | false ↦ at_sizes sh z ]

abbrev tested : Sheet → List ℕ → Bool → Outcome
tested sh z b = elim b [ true ↦ answering sh (answer_at sh z) | false ↦ turned_down 17 0 ]

module _ (s z : List ℕ) (nc nt : ℕ) where
  -- a sheet that is refused
  pub outcome_at_refused : (n i : ℕ) → reading s ≡ refused n i → outcome_at s z nc nt ≡ turned_down n i
  unfolding outcome_at
  outcome_at_refused n i q = ap (λ (r : Reading). consider_at r z nc nt) q

  module _ (sh : Sheet) (q : reading s ≡ accepted sh) where
    -- cause 10
    pub outcome_at_short : short sh nc nt ≡ true → outcome_at s z nc nt ≡ turned_down 10 0
    unfolding outcome_at
    outcome_at_short h = ap (λ (r : Reading). consider_at r z nc nt) q ∙ ap (measured sh z) h

    module _ (room : short sh nc nt ≡ false) where
      outcome_at_sizes : (b : Bool) → candidate_sizes sh z ≡ b → outcome_at s z nc nt ≡ tested sh z b
      unfolding outcome_at
      outcome_at_sizes b h = ap (λ (r : Reading). consider_at r z nc nt) q ∙ ap (measured sh z) room ∙ ap (tested sh z) h

      -- cause 17
      pub outcome_at_wrong : candidate_sizes sh z ≡ false → outcome_at s z nc nt ≡ turned_down 17 0
      outcome_at_wrong = outcome_at_sizes false

      -- cause 11, or the answer at these sizes
      pub outcome_at_long : CandidateSizes sh z → (a : Option Entry) → answer_at sh z ≡ a → outcome_at s z nc nt ≡ answering sh a
      outcome_at_long right a e = outcome_at_sizes true ((candidate_sizes_test sh z).1 right) ∙ ap (answering sh) e
