-- Words by their places: where one ends, where the next starts, and how many there are.
use Prim.Native.Nat.{ℕ, suc, ◌+◌, ◌-◌, ◌≤◌, ◌<◌}
use native.Mathlib.Omega.{arith}
use mathlib.Core.Path.{◌≡◌, refl, sym, ap, ◌∙◌}
use mathlib.Core.Bool.{Bool, true, false, cond}
use mathlib.Core.List.{List, [], ◌∷◌}
use lib.ListN.{length, take, drop, drop_of_length-le}
use lib.Seq.{take-length, drop-drop}
use lib.Dec.{eqb}
use Rattle.std.specs.List.{count_by}
use Rattle.std.proofs.lemmas.List.Sums.{sum_by-cons}
use Rattle.prelude.specs.Bytes.{index_of, slice}
use Rattle.words.specs.Words.{blank, later_words, word_at, many}

slice_whole : (from : ℕ) (s : List ℕ) → slice from (length s) s ≡ drop from s
unfolding slice
slice_whole from s = ap (drop from) (take-length s)

module _ (s : List ℕ) (from e : ℕ) (h : e ≡ from + index_of blank (slice from (length s) s)) where
  pub ends : e ≡ from + index_of blank (drop from s)
  ends = h ∙ ap (λ (l : List ℕ). from + index_of blank l) (slice_whole from s)

  -- behind the blank at place e, and at the end of a line without one
  pub behind_blank : drop (e + 1) s ≡ later_words (drop from s)
  behind_blank =
      let i = index_of blank (drop from s) in
      let q : e + 1 ≡ from + suc i = omega (arith, ends) in
      ap (λ (n : ℕ). drop n s) q ∙ sym (drop-drop (suc i) from s)

  pub behind_end : e ≡ length s → drop e s ≡ later_words (drop from s)
  behind_end l =
      drop_of_length-le s {i = e} (omega arith) ∙ sym (drop_of_length-le s {i = e + 1} (omega arith)) ∙ behind_blank

  pub word_ends : (k i : ℕ) → k ≤ i → word_at (drop from s) (k - i) ≡ word_at s k → take (e - from) (drop from s) ≡ word_at s k
  word_ends k i l w =
      let z : k - i ≡ 0 = omega arith in
      let q : e - from ≡ index_of blank (drop from s) = omega (arith, ends) in
      ap (λ (n : ℕ). take n (drop from s)) q ∙ ap (word_at (drop from s)) (sym z) ∙ w

-- one word further
pub word_next : (s d d' : List ℕ) (k i : ℕ) → i < k → d' ≡ later_words d → word_at d (k - i) ≡ word_at s k → word_at d' (k - (i + 1)) ≡ word_at s k
word_next s d d' k i l b w =
    let q : k - i ≡ suc (k - (i + 1)) = omega arith in
    ap (λ (x : List ℕ). word_at x (k - (i + 1))) b ∙ ap (word_at d) (sym q) ∙ w

-- how many words there are, by the library's count of the blanks
pub many_counted : (s : List ℕ) → many s ≡ count_by (λ c. eqb c 32) s + 1
many_counted [] = refl
many_counted (c ∷ s) = step (eqb c 32) (many_counted s) ∙ ap (λ (n : ℕ). n + 1) (sym (sum_by-cons (λ x. cond (eqb x 32) 1 0) c s))
  where
    step : (b : Bool) → many s ≡ count_by (λ x. eqb x 32) s + 1 → cond b (suc (many s)) (many s) ≡ cond b 1 0 + count_by (λ x. eqb x 32) s + 1
    step true h = omega (arith, h)
    step false h = omega (arith, h)
