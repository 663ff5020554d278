-- The tests behind a complaint: two words that are the same, the kinds one word further, and a limit that is not complained about.
use Prim.Native.Nat.{ℕ, suc, ◌+◌, ◌≤◌, ◌<◌}
use native.Mathlib.Omega.{arith}
use mathlib.Core.Path.{◌≡◌, refl, sym, ap, ap₂, subst, ◌∙◌}
use mathlib.Core.Bool.{Bool, true, false, cond, false≢true}
use mathlib.Core.List.{List, [], ◌∷◌}
use lib.ListN.{length, drop, get_or, drop_of_length-le}
use lib.Seq.{drop-cons}
use lib.Dec.{ltb}
use borrow.Author.Tests.{ltb-false}
use Rattle.prelude.specs.Tests.{same_list}
use Rattle.prelude.proofs.Tests.{same_list_same, same_same_list}
use Rattle.std.specs.Prelude.{Err}
use Rattle.words.specs.declared.Complaint.TheVariants.{TooFew, TooMany, NotNumber, AboveByte}
use Rattle.words.specs.Words.{word_at, many, is_numeral, number_of}
use Rattle.words.specs.Complaints.{Complaining, fine, is_wrong, or_else, greatest_limit, wrong_limit, wrong_word, wrong_words, complaint_of}

pub same_list_lem : (r : Bool) (a b : List ℕ) → (r ≡ true → a ≡ b) × (a ≡ b → r ≡ true) → r ≡ same_list a b
same_list_lem true a b h = sym (subst (λ (x : List ℕ). same_list a x ≡ true) (h.0 refl) (same_same_list a))
same_list_lem false a b h = step (same_list a b) refl
  where
    step : (s : Bool) → same_list a b ≡ s → false ≡ same_list a b
    step true e = absurd (false≢true (h.1 (same_list_same a b e)))
    step false e = sym e

module _ (line kinds : List ℕ) (i : ℕ) (h : i < length kinds) where
  abbrev one : Complaining
  one = wrong_word (get_or kinds i 0) (i + 2) (word_at line (i + 1))

  from : wrong_words (drop i kinds) (i + 1) line ≡ or_else one (wrong_words (drop (i + 1) kinds) (i + 1 + 1) line)
  from =
      let p : suc (i + 1) ≡ i + 2 = omega arith in
      let q : suc i ≡ i + 1 = omega arith in
      let r : suc (i + 1) ≡ i + 1 + 1 = omega arith in
      ap (λ (l : List ℕ). wrong_words l (i + 1) line) (drop-cons kinds i 0 h)
      ∙ ap (λ (n : ℕ). or_else (wrong_word (get_or kinds i 0) n (word_at line (i + 1))) (wrong_words (drop (suc i) kinds) (suc (i + 1)) line)) p
      ∙ ap₂ (λ (x y : ℕ). or_else one (wrong_words (drop x kinds) y line)) q r

  module _ (all : Complaining) (e : wrong_words (drop i kinds) (i + 1) line ≡ all) where
    pub word_wrong : is_wrong one ≡ true → one ≡ all
    word_wrong t = ap (λ (b : Bool). cond b one (wrong_words (drop (i + 1) kinds) (i + 1 + 1) line)) (sym t) ∙ sym from ∙ e

    pub word_right : is_wrong one ≡ false → wrong_words (drop (i + 1) kinds) (i + 1 + 1) line ≡ all
    word_right t = ap (λ (b : Bool). cond b one (wrong_words (drop (i + 1) kinds) (i + 1 + 1) line)) (sym t) ∙ sym from ∙ e

pub words_right : (line kinds : List ℕ) (i : ℕ) → length kinds ≤ i → (all : Complaining) → wrong_words (drop i kinds) (i + 1) line ≡ all → fine ≡ all
words_right line kinds i h all e = ap (λ (l : List ℕ). wrong_words l (i + 1) line) (sym (drop_of_length-le kinds h)) ∙ e

-- where neither of two complaints is one
neither : (c d : Complaining) → is_wrong (or_else c d) ≡ false → (is_wrong c ≡ false) × (is_wrong d ≡ false)
neither c d e = step (is_wrong c) refl e
  where
    step : (b : Bool) → is_wrong c ≡ b → is_wrong (cond b c d) ≡ false → (is_wrong c ≡ false) × (is_wrong d ≡ false)
    step true q g = absurd (false≢true (sym g ∙ q))
    step false q g = (q, g)

-- of a line of two words behind the verb that has no complaint, the second has none
pub second_right : (a b : ℕ) (line : List ℕ) → is_wrong (complaint_of (a ∷ b ∷ []) line) ≡ false → is_wrong (wrong_word b 3 (word_at line 2)) ≡ false
unfolding complaint_of
second_right a b line e = enough (ltb 2 (many line)) (ltb 3 (many line)) e
  where
    enough : (x y : Bool) → is_wrong (cond x (cond y (Err TooMany) (wrong_words (a ∷ b ∷ []) 1 line)) (Err TooFew)) ≡ false → is_wrong (wrong_word b 3 (word_at line 2)) ≡ false
    enough false y g = absurd (false≢true (sym g))
    enough true true g = absurd (false≢true (sym g))
    enough true false g = (neither (wrong_word b 3 (word_at line 2)) fine (neither (wrong_word a 2 (word_at line 1)) (wrong_words (b ∷ []) 2 line) g).1).0

-- a word that is a limit stands for one
pub limit_small : (k : ℕ) (word : List ℕ) → is_wrong (wrong_limit k word) ≡ false → number_of word ≤ greatest_limit
unfolding wrong_limit
limit_small k word e = step (is_numeral 10 word) (ltb greatest_limit (number_of word)) refl e
  where
    step : (x y : Bool) → ltb greatest_limit (number_of word) ≡ y → is_wrong (cond x (cond y (Err (AboveByte k)) fine) (Err (NotNumber k))) ≡ false → number_of word ≤ greatest_limit
    step false y q g = absurd (false≢true (sym g))
    step true true q g = absurd (false≢true (sym g))
    step true false q g = ltb-false greatest_limit (number_of word) q
