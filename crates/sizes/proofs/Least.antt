-- The sizes of the answer come first among those of all candidates that satisfy every statement; and these are what a call writes.
use Prim.Native.Nat.{ℕ, ◌≤◌}
use native.Mathlib.Omega.{arith}
use mathlib.Core.Path.{◌≡◌, refl, ap, sym, ◌∙◌}
use mathlib.Core.Logic.{inl, inr}
use mathlib.Core.List.{List}
use Rattle.std.specs.Prelude.{Ok, Err}
use Rattle.prelude.specs.Causes.{refusal}
use mathlib.Core.Option.{Option, none, some}
use lib.ListN.{length, take, drop}
use Rattle.prelude.proofs.Lists.{length_firsts}
use Rattle.prelude.proofs.Fronted.{front_fronted, rest_fronted}
use Rattle.logic.specs.Sheet.{Sheet}
use Rattle.layout.specs.Layout.{accepted, reading}
use Rattle.answer.specs.Answer.{Entry, answer, sum, structure_of}
use Rattle.answer.specs.Demand.{Answers, Demand}
use Rattle.answer.proofs.Lists.{found_or_none}
use Rattle.answer.proofs.Demand.{accepted_demand}
use Rattle.sizes.specs.Sizing.{answering, sizing, sizes_after}
use Rattle.sizes.specs.Promise.{FirstSizes, sizes_written, Promised}
use Rattle.sizes.proofs.Outcomes.{Exit, exit, outcome_long}

module _ (s out : List ℕ) (sh : Sheet) (reads : reading s ≡ accepted sh) (room : length sh.bounds ≤ length out) where
  -- what the answer makes of the call
  pub exits : (a : Option Entry) → answer sh ≡ a → Exit s out (answering a)
  exits a q = exit s out (answering a) (outcome_long s sh a (length out) reads room q)

  demanded : Demand sh
  demanded = accepted_demand s sh reads

  -- what was sized is the answer
  pub sized_is : (n : ℕ) → sizing s (length out) ≡ Ok n → (e : Entry) × (answer sh ≡ some e) × (sum e.sizes ≡ n)
  sized_is n f = step (answer sh) refl
    where
      step : (a : Option Entry) → answer sh ≡ a → (e : Entry) × (answer sh ≡ some e) × (sum e.sizes ≡ n)
      step none q = let r : Err (refusal 11 0) ≡ Ok n = sym (exits none q).result ∙ f in cc
      step (some e) q = (e, q, (let r : Ok (sum e.sizes) ≡ Ok n = sym (exits (some e) q).result ∙ f in cc))

  refused_none : sizing s (length out) ≡ Err (refusal 11 0) → answer sh ≡ none
  refused_none f = step (answer sh) refl
    where
      step : (a : Option Entry) → answer sh ≡ a → answer sh ≡ none
      step none q = q
      step (some e) q = let r : Ok (sum e.sizes) ≡ Err (refusal 11 0) = sym (exits (some e) q).result ∙ f in cc

  module _ (e : Entry) (q : answer sh ≡ some e) where
    answers : Answers sh e (structure_of sh e)
    answers = demanded.finds e q

    long : length e.sizes ≡ length sh.bounds
    long = ap length (sym answers.sizes) ∙ length_firsts (length sh.bounds) (structure_of sh e).size

    -- the sizes of the answer stand in front of the buffer
    pub written : sizes_written sh (sizes_after s out) ≡ e.sizes
    written =
        ap (λ (k : ℕ). take k (sizes_after s out)) (sym long)
        ∙ ap (take (length e.sizes)) (exits (some e) q).buffer
        ∙ front_fronted e.sizes out

    untouched : drop (length sh.bounds) (sizes_after s out) ≡ drop (length sh.bounds) out
    untouched = rw (← long) (ap (drop (length e.sizes)) (exits (some e) q).buffer ∙ rest_fronted e.sizes out)

    first_sizes : FirstSizes sh (sum e.sizes) (sizes_written sh (sizes_after s out))
    first_sizes =
        rw written
        (record {
          had = (structure_of sh e, answers.candidate, answers.satisfies, answers.sizes);
          sum = refl;
          least = λ N c k. omega (arith, (answers.first N c k).sum, answers.sum);
          first = λ N c k t. rw (← answers.sizes) ((answers.first N c k).sizes (t ∙ sym answers.sum));
        })

  promised : Promised sh s out
  promised =
      record {
        refuses = (λ f. demanded.refuses.0 (refused_none f), λ h. (exits none (demanded.refuses.1 h)).result);
        either = elim (found_or_none (answer sh)) [ inl q ↦ inl (exits none q).result | inr r ↦ inr (sum r.0.sizes, (exits (some r.0) r.1).result) ];
        delivers = λ n f. let r : _ = sized_is n f in rw (← r.2) (first_sizes r.0 r.1);
        behind = λ n f. let r : _ = sized_is n f in untouched r.0 r.1;
      }

-- THEOREM: of every call on an accepted sheet with a buffer that suffices
pub accepted_promised : (s out : List ℕ) (sh : Sheet) → reading s ≡ accepted sh → length sh.bounds ≤ length out → Promised sh s out
accepted_promised = promised
