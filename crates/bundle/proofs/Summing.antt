-- The sums of a bundle's sheets, one after the other: how the loop goes on, and what comes of the limit.
use Prim.Native.Nat.{ℕ, zero, suc, ◌+◌, ◌-◌, ◌≤◌, ◌<◌}
use native.Mathlib.Omega.{arith}
use native.Mathlib.Decide.{dec_lt}
use mathlib.Core.Path.{◌≡◌, refl, ap, ap₂, sym, ◌∙◌, subst}
use mathlib.Core.Bool.{cond}
use mathlib.Core.List.{List, [], ◌∷◌, ◌++◌, append-nil, append_assoc}
use lib.ListN.{length, drop, set, drop_of_length-le, get_or-eq_default}
use lib.Seq.{drop-cons}
use lib.Dec.{ltb}
use borrow.Author.Tests.{lt-ltb, le-ltb}
use Rattle.prelude.specs.Lists.{at, sum_to, firsts}
use Rattle.prelude.proofs.Lists.{at_set_same, at_set_other, at_firsts, length_firsts, firsts_same}
use Rattle.answer.specs.Answer.{sum}
use Rattle.answer.proofs.Listing.{sum_firsts}
use Rattle.bundle.specs.Bundle.{Alone, sum_alone, refused_alone, Part, most_sheets, sheet_in, smallest, Outcome, turned_down, summed, joined, summing, refusal, sharing, Bundling, Left}
use Rattle.bundle.specs.Promise.{part_at}

-- sums known already stand in front
abbrev pub onto : List ℕ → Outcome → Outcome
onto front (turned_down n i) = turned_down n i
onto front (summed sums) = summed (front ++ sums)

onto_cons : (front : List ℕ) (start k : ℕ) (o : Outcome) → onto front (joined start (sum_alone k) o) ≡ onto (front ++ (k ∷ [])) o
onto_cons front start k (turned_down n i) = refl
onto_cons front start k (summed sums) = ap summed (sym (append_assoc front (k ∷ []) sums))

onto_nil : (o : Outcome) → onto [] o ≡ o
onto_nil (turned_down n i) = refl
onto_nil (summed sums) = refl

-- from one part on
summing_next : (s : List ℕ) (ps : List Part) (i : ℕ) → i < length ps → summing s (drop i ps) ≡ joined (part_at ps i).start (smallest (sheet_in s (part_at ps i))) (summing s (drop (suc i) ps))
unfolding summing
summing_next s ps i h = ap (summing s) (drop-cons ps i _ h)

-- the first i sheets have their sums, in front of the array, which is 0 behind them; and what becomes of the others decides
pub record Added (s : List ℕ) (ps : List Part) (i : ℕ) (sums : List ℕ) : Type 0 where
  pub within : i ≤ length ps
  pub clear : (k : ℕ) → i ≤ k → at sums k ≡ 0
  pub rest : onto (firsts i (at sums)) (summing s (drop i ps)) ≡ summing s ps

pub added_start : (s : List ℕ) (ps : List Part) (sums : List ℕ) → ((k : ℕ) → at sums k ≡ 0) → Added s ps 0 sums
added_start s ps sums z = record { within = omega arith; clear = λ k h. z k; rest = onto_nil (summing s ps) }

module _ (s : List ℕ) (ps : List Part) (i : ℕ) (sums : List ℕ) (g : Added s ps i sums) where
  module _ (h : i < length ps) where
    abbrev part : Part
    part = part_at ps i

    -- the sheet is refused
    pub added_refused : (n j : ℕ) → smallest (sheet_in s part) ≡ refused_alone n j → turned_down n (part.start + j) ≡ summing s ps
    added_refused n j e =
        sym (ap (onto (firsts i (at sums))) (summing_next s ps i h ∙ ap (λ (x : Alone). joined part.start x (summing s (drop (suc i) ps))) e))
        ∙ g.rest

    -- the sheet has its sum
    pub added_next : (k : ℕ) → smallest (sheet_in s part) ≡ sum_alone k → i < length sums → Added s ps (i + 1) (set sums i k)
    added_next k e room =
        let next : suc i ≡ i + 1 = omega arith in
        subst (λ (n : ℕ). Added s ps n (set sums i k)) next
        (record {
          within = omega arith;
          clear = λ j b. at_set_other sums i k j (omega arith) ∙ g.clear j (omega arith);
          rest =
              ap (λ (l : List ℕ). onto l (summing s (drop (suc i) ps)))
              (ap₂ (λ (l : List ℕ) (x : ℕ). l ++ (x ∷ [])) (firsts_same i _ _ (λ j b. at_set_other sums i k j (omega arith))) (at_set_same sums i k room))
              ∙ sym (onto_cons (firsts i (at sums)) part.start k (summing s (drop (suc i) ps)))
              ∙ sym (ap (onto (firsts i (at sums))) (summing_next s ps i h ∙ ap (λ (x : Alone). joined part.start x (summing s (drop (suc i) ps))) e))
              ∙ g.rest;
        })

  -- all sheets have their sums
  pub added_all : length ps ≤ i → summing s ps ≡ summed (firsts i (at sums))
  unfolding summing
  added_all h =
      sym g.rest
      ∙ ap (λ (l : List Part). onto (firsts i (at sums)) (summing s l)) (drop_of_length-le ps h)
      ∙ ap summed (append-nil (firsts i (at sums)))

-- ---- the limit
abbrev shares : ℕ → ℕ → List ℕ → Bundling
shares limit spent eight = cond (ltb limit spent) (refusal 19 0) (record { sums = eight; stock = Left (limit - spent) })

pub sharing_over : (limit : ℕ) (l : List ℕ) → limit < sum l → sharing limit l ≡ refusal 19 0
unfolding sharing
sharing_over limit l h = rw (lt-ltb limit (sum l) h)

pub sharing_within : (limit : ℕ) (l : List ℕ) → sum l ≤ limit → sharing limit l ≡ record { sums = firsts most_sheets (at l); stock = Left (limit - sum l) }
unfolding sharing
sharing_within limit l h = rw (le-ltb limit (sum l) h)

-- 0 behind the first m sums changes neither their sum nor the list of eight
sum_to_clear : (m n : ℕ) (f : ℕ → ℕ) → m ≤ n → ((k : ℕ) → m ≤ k → f k ≡ 0) → sum_to n f ≡ sum_to m f
sum_to_clear m zero f h z = ap (λ (n : ℕ). sum_to n f) (let e : 0 ≡ m = omega arith in e)
sum_to_clear m (suc n) f h z =
    elim (dec_lt n m) [
      | yes l ↦ ap (λ (k : ℕ). sum_to k f) (let e : suc n ≡ m = omega arith in e)
      | no l ↦ omega (arith, sum_to_clear m n f (omega arith) z, z n (omega arith))
    ]

module _ (m : ℕ) (sums : List ℕ) (few : m ≤ most_sheets) (eight : length sums ≡ most_sheets) (clear : (k : ℕ) → m ≤ k → at sums k ≡ 0) where
  at_front : (k : ℕ) → at (firsts m (at sums)) k ≡ at sums k
  at_front k =
      elim (dec_lt k m) [
        | yes h ↦ at_firsts m (at sums) k h
        | no h ↦ get_or-eq_default (firsts m (at sums)) 0 (omega (arith, length_firsts m (at sums))) ∙ sym (clear k (omega arith))
      ]

  sum_front : sum (firsts m (at sums)) ≡ sum sums
  sum_front =
      sum_firsts m (at sums)
      ∙ sym (sum_to_clear m (length sums) (at sums) (omega arith) clear)

  pub sharing_front : (limit : ℕ) → sharing limit (firsts m (at sums)) ≡ sharing limit sums
  unfolding sharing
  sharing_front limit = ap₂ (shares limit) sum_front (firsts_same most_sheets _ _ (λ k h. at_front k))
