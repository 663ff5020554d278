-- A sheet's own answer: that sizes gives it, what it is among all structures, how large it can be, and that it passes over fills.
use Prim.Native.Nat.{ℕ, ◌≤◌}
use native.Mathlib.Omega.{arith}
use mathlib.Core.Path.{◌≡◌, refl, ap, sym, ◌∙◌}
use mathlib.Core.Logic.{◌↔◌, ◌⊎◌, inl, inr}
use mathlib.Core.List.{List}
use mathlib.Core.Option.{Option, none, some}
use lib.ListN.{length}
use Rattle.prelude.specs.Limits.{most_sorts, most_total}
use Rattle.logic.specs.Sheet.{Sheet, without_fills}
use Rattle.layout.specs.Layout.{Reading, accepted, refused, reading, InSheet}
use Rattle.layout.specs.Encode.{encode}
use Rattle.layout.proofs.Answers.{accepted_well_formed, refused_place, refused_number, unfilled_read}
use Rattle.answer.specs.Answer.{Entry, answer, sum, structure_of}
use Rattle.answer.proofs.Demand.{accepted_demand}
use Rattle.sizes.specs.Sizing.{answering, outcome, gives, sizing}
use Rattle.std.specs.Prelude.{Ok, Err}
use Rattle.prelude.specs.Causes.{refusal}
use Rattle.prelude.specs.declared.refusal.Refusal.{Refusal}
use Rattle.bundle.specs.Bundle.{Alone, sum_alone, refused_alone, told, smallest_of, smallest_read, smallest}
use Rattle.sizes.proofs.Outcomes.{outcome_refused, outcome_long}
use Rattle.answer.proofs.Fills.{passes_over}
use Rattle.bundle.specs.Promise.{SmallestSum, RefusedAlone}

module _ (p : List ℕ) where
  pub smallest_refused : (n i : ℕ) → reading p ≡ refused n i → smallest p ≡ refused_alone n i
  unfolding smallest
  smallest_refused n i q = ap smallest_read q

  pub smallest_accepted : (sh : Sheet) (a : Option Entry) → reading p ≡ accepted sh → answer sh ≡ a → smallest p ≡ smallest_of a
  unfolding smallest
  smallest_accepted sh a q e = ap smallest_read q ∙ ap smallest_of e

  -- sizes gives it, with a buffer that has a byte for each sort that a sheet can have
  pub sizing_smallest : (room : ℕ) → most_sorts ≤ room → sizing p room ≡ told (smallest p)
  unfolding sizing
  sizing_smallest room h = step (reading p) refl
    where
      of_answer : (a : Option Entry) → gives (answering a) ≡ told (smallest_of a)
      of_answer none = refl
      of_answer (some e) = refl

      step : (r : Reading) → reading p ≡ r → gives (outcome p room) ≡ told (smallest p)
      step (refused n i) q = ap gives (outcome_refused p n i room q) ∙ ap told (sym (smallest_refused n i q))
      step (accepted sh) q =
          ap gives (outcome_long p sh (answer sh) room q (omega (arith, (accepted_well_formed p sh q).sorts)) refl)
          ∙ of_answer (answer sh)
          ∙ ap told (sym (smallest_accepted sh (answer sh) q refl))

  -- THEOREM: a sheet's own answer is its smallest sum among all structures, exactly where it has one
  sum_of : (n : ℕ) → smallest p ≡ sum_alone n → SmallestSum p n
  sum_of n e = step (reading p) refl
    where
      by_answer : (sh : Sheet) → reading p ≡ accepted sh → (a : Option Entry) → answer sh ≡ a → SmallestSum p n
      by_answer sh q none k =
          let r : refused_alone 11 0 ≡ sum_alone n = sym (smallest_accepted sh none q k) ∙ e in
          let z : ◌≡◌ {A = ℕ} 0 1 = cc in
          absurd (omega arith)
      by_answer sh q (some d) k =
          let r : sum_alone (sum d.sizes) ≡ sum_alone n = sym (smallest_accepted sh (some d) q k) ∙ e in
          let same : sum d.sizes ≡ n = cc in
          let x = (accepted_demand p sh q).finds d k in
          record {
            sheet = sh;
            reads = q;
            had = (structure_of sh d, x.candidate, x.satisfies, x.sum ∙ same);
            least = λ N c t. omega (arith, (x.first N c t).sum, x.sum, same);
          }

      step : (r : Reading) → reading p ≡ r → SmallestSum p n
      step (refused m j) q =
          let r : refused_alone m j ≡ sum_alone n = sym (smallest_refused m j q) ∙ e in
          let z : ◌≡◌ {A = ℕ} 0 1 = cc in
          absurd (omega arith)
      step (accepted sh) q = by_answer sh q (answer sh) refl

  of_sum : (n : ℕ) → SmallestSum p n → smallest p ≡ sum_alone n
  of_sum n x = step (answer x.sheet) refl
    where
      step : (a : Option Entry) → answer x.sheet ≡ a → smallest p ≡ sum_alone n
      step none k = absurd ((accepted_demand p x.sheet x.reads).refuses.0 k x.had.0 x.had.1 x.had.2)
      step (some d) k =
          let y = (accepted_demand p x.sheet x.reads).finds d k in
          let same : sum d.sizes ≡ n =
          omega (arith, y.sum, x.had.3, (y.first x.had.0 x.had.1 x.had.2).sum, x.least (structure_of x.sheet d) y.candidate y.satisfies) in
          smallest_accepted x.sheet (some d) x.reads k ∙ ap sum_alone same

  pub smallest_exactly : (n : ℕ) → (smallest p ≡ sum_alone n) ↔ SmallestSum p n
  smallest_exactly n = (sum_of n, of_sum n)

  -- THEOREM: and where it has none, its refusal is the one that it gets by itself
  refusal_of : (n i : ℕ) → smallest p ≡ refused_alone n i → RefusedAlone p n i
  refusal_of n i e = step (reading p) refl
    where
      by_answer : (sh : Sheet) → reading p ≡ accepted sh → (a : Option Entry) → answer sh ≡ a → RefusedAlone p n i
      by_answer sh q none k =
          let r : refused_alone 11 0 ≡ refused_alone n i = sym (smallest_accepted sh none q k) ∙ e in
          inr (sh, q, (accepted_demand p sh q).refuses.0 k, cc, cc)
      by_answer sh q (some d) k =
          let r : sum_alone (sum d.sizes) ≡ refused_alone n i = sym (smallest_accepted sh (some d) q k) ∙ e in
          let z : ◌≡◌ {A = ℕ} 0 1 = cc in
          absurd (omega arith)

      step : (r : Reading) → reading p ≡ r → RefusedAlone p n i
      step (refused m j) q =
          let r : refused_alone m j ≡ refused_alone n i = sym (smallest_refused m j q) ∙ e in
          let m-n : m ≡ n = cc in
          let j-i : j ≡ i = cc in
          inl (q ∙ ap (λ (x : ℕ). refused x j) m-n ∙ ap (refused n) j-i)
      step (accepted sh) q = by_answer sh q (answer sh) refl

  of_refusal : (n i : ℕ) → RefusedAlone p n i → smallest p ≡ refused_alone n i
  of_refusal n i (inl q) = smallest_refused n i q
  of_refusal n i (inr x) =
      smallest_accepted x.0 none x.1 ((accepted_demand p x.0 x.1).refuses.1 x.2)
      ∙ ap (λ (k : ℕ). refused_alone k 0) (sym x.3)
      ∙ ap (refused_alone n) (sym x.4)

  pub refused_exactly : (n i : ℕ) → (smallest p ≡ refused_alone n i) ↔ RefusedAlone p n i
  refused_exactly n i = (refusal_of n i, of_refusal n i)

  -- a sheet has a smallest sum or a refusal, not both
  pub sum_or_refusal : (m n i : ℕ) → SmallestSum p m → RefusedAlone p n i → ⊥
  sum_or_refusal m n i x y =
      let r : sum_alone m ≡ refused_alone n i = sym (of_sum m x) ∙ of_refusal n i y in
      let z : ◌≡◌ {A = ℕ} 0 1 = cc in
      absurd (omega arith)

  -- a smallest sum is at most the greatest total
  pub smallest_most : (n : ℕ) → smallest p ≡ sum_alone n → n ≤ most_total
  smallest_most n e =
      let x = sum_of n e in
      omega (arith, x.had.3, x.had.1.bounded.total, (accepted_well_formed p x.sheet x.reads).total)

  -- the numbers that a sheet is refused with by itself, and where
  pub alone_number : (n i : ℕ) → smallest p ≡ refused_alone n i → InSheet n ⊎ (n ≡ 11)
  alone_number n i e = elim (refusal_of n i e) [ inl q ↦ inl (refused_number p n i q) | inr x ↦ inr x.3 ]

  pub alone_place : (n i : ℕ) → smallest p ≡ refused_alone n i → i ≤ length p
  alone_place n i e = elim (refusal_of n i e) [ inl q ↦ refused_place p n i q | inr x ↦ omega (arith, x.4) ]

-- what sizes gives back says which answer it is
pub told_sum : (x : Alone) (n : ℕ) → Ok n ≡ told x → x ≡ sum_alone n
told_sum (sum_alone m) n e = cc
told_sum (refused_alone m i) n e = cc

pub told_refusal : (x : Alone) (r : Refusal) → Err r ≡ told x → (n : ℕ) × (i : ℕ) × (x ≡ refused_alone n i) × (r ≡ refusal n i)
told_refusal (sum_alone m) r e = (0, 0, cc, cc)
told_refusal (refused_alone m i) r e = (m, i, refl, cc)

-- THEOREM: it passes over fills
pub smallest_passes : (p : List ℕ) (sh : Sheet) → reading p ≡ accepted sh → smallest p ≡ smallest (encode (without_fills sh))
unfolding smallest
smallest_passes p sh q = ap smallest_read q ∙ ap smallest_of (passes_over sh).same ∙ sym (ap smallest_read (unfilled_read p sh q))
