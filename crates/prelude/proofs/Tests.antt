-- What tests say: joined by "and" and "or" and taken apart; a range; all numbers below one; equal lists; the answer to a question.
use Prim.Native.Nat.{ℕ, zero, suc, ◌+◌, ◌<◌}
use native.Mathlib.Nat.{not-suc-le-zero}
use native.Mathlib.Numerals.{add-one}
use native.Mathlib.Decide.{dec_lt}
use native.Mathlib.Omega.{arith}
use mathlib.Core.Path.{◌≡◌, refl, sym, ◌∙◌, subst}
use mathlib.Core.Bool.{Bool, true, false, ◌&&◌, ◌||◌, true≢false, false≢true}
use mathlib.Core.Logic.{◌⊎◌, inl, inr}
use mathlib.Core.List.{List, [], ◌∷◌}
use lib.Dec.{leb, eqb}
use borrow.Author.Tests.{leb-true, le-leb, eqb-true, eqb-false, eq-eqb}
use Rattle.prelude.specs.Tests.{Decides, Within, within, every, same_list}

-- a test is true or false
pub decided : (b : Bool) → (b ≡ true) ⊎ (b ≡ false)
decided true = inl refl
decided false = inr refl

pub true_not_false : (b : Bool) → b ≡ true → b ≡ false → ⊥
true_not_false b e f = true≢false (sym e ∙ f)

pub both_true : (a b : Bool) → a ≡ true → b ≡ true → a && b ≡ true
both_true a b e f = cc

pub and_both : (a b : Bool) → (a && b) ≡ true → (a ≡ true) × (b ≡ true)
and_both true true e = (refl, refl)
and_both true false e = absurd (true≢false (sym e))
and_both false b e = absurd (true≢false (sym e))

pub and_first : (a b : Bool) → a ≡ false → a && b ≡ false
and_first a b e = rw e

pub and_no : (a b : Bool) → b ≡ false → (a && b) ≡ false
and_no true b e = e
and_no false b e = refl

pub or_both : (a b : Bool) → (a || b) ≡ false → (a ≡ false) × (b ≡ false)
or_both true b e = absurd (true≢false e)
or_both false b e = (refl, e)

pub or_all : (a b c d : Bool) → (a || b || c || d) ≡ false → (a ≡ false) × (b ≡ false) × (c ≡ false) × (d ≡ false)
or_all true b c d e = absurd (true≢false e)
or_all false true c d e = absurd (true≢false e)
or_all false false true d e = absurd (true≢false e)
or_all false false false d e = (refl, refl, refl, e)

pub or_fourth : (a b c d : Bool) → d ≡ true → true ≡ (a || b || c || d)
or_fourth true b c d e = refl
or_fourth false true c d e = refl
or_fourth false false true d e = refl
or_fourth false false false d e = sym e

pub within_true : (lo hi n : ℕ) → within lo hi n ≡ true → Within lo hi n
within_true lo hi n e = let b = and_both (leb lo n) (leb n hi) e in (leb-true lo n b.0, leb-true n hi b.1)

pub true_within : (lo hi n : ℕ) → Within lo hi n → within lo hi n ≡ true
true_within lo hi n h = rw (le-leb lo n h.0, le-leb n hi h.1)

pub every_true : (n : ℕ) (p : ℕ → Bool) → every n p ≡ true → (i : ℕ) → i < n → p i ≡ true
every_true zero p e i h = absurd (not-suc-le-zero h)
every_true (suc n) p e i h =
    let b = and_both (every n p) (p n) e in
    elim (dec_lt i n) [
      | yes l ↦ every_true n p b.0 i l
      | no nl ↦ let q : n ≡ i = omega arith in subst (λ (x : ℕ). p x ≡ true) q b.1
    ]

pub true_every : (n : ℕ) (p : ℕ → Bool) → ((i : ℕ) → i < n → p i ≡ true) → every n p ≡ true
true_every zero p h = refl
true_every (suc n) p h = both_true (every n p) (p n) (true_every n p (λ i l. h i (omega arith))) (h n (omega arith))

pub false_every : (n : ℕ) (p : ℕ → Bool) (i : ℕ) → i < n → p i ≡ false → every n p ≡ false
false_every zero p i h e = absurd (not-suc-le-zero h)
false_every (suc n) p i h e =
    elim (dec_lt i n) [
      | yes l ↦ and_first (every n p) (p n) (false_every n p i l e)
      | no nl ↦ let q : i ≡ n = omega arith in and_no (every n p) (p n) (subst (λ (x : ℕ). p x ≡ false) q e)
    ]

-- one number more, as a loop counts
pub every_more : (n : ℕ) (p : ℕ → Bool) → every n p ≡ true → p n ≡ true → every (n + 1) p ≡ true
every_more n p e f = rw (add-one n) (both_true (every n p) (p n) e f)

-- two tests that agree below n
pub every_same : (n : ℕ) (p q : ℕ → Bool) → ((i : ℕ) → i < n → p i ≡ q i) → every n p ≡ every n q
every_same zero p q h = refl
every_same (suc n) p q h = cc (every_same n p q (λ i l. h i (omega arith)), h n (omega arith))

pub same_list_same : (xs ys : List ℕ) → same_list xs ys ≡ true → xs ≡ ys
same_list_same [] [] e = refl
same_list_same [] (y ∷ ys) e = absurd (true≢false (sym e))
same_list_same (x ∷ xs) [] e = absurd (true≢false (sym e))
same_list_same (x ∷ xs) (y ∷ ys) e =
    let h = and_both (eqb x y) (same_list xs ys) e in
    cc (eqb-true x y h.0, same_list_same xs ys h.1)

pub same_same_list : (xs : List ℕ) → same_list xs xs ≡ true
same_same_list [] = refl
same_same_list (x ∷ xs) = rw (eq-eqb x x refl) (same_same_list xs)

-- the answer to a question
pub answer_yes : {A : Type 0} → A → Decides true A
answer_yes a = record { yes = λ e. a; no = λ e. absurd (false≢true (sym e)) }

pub answer_no : {A : Type 0} → (A → ⊥) → Decides false A
answer_no n = record { yes = λ e. absurd (false≢true e); no = λ e. n }

pub eqb_decides : (x y : ℕ) → Decides (eqb x y) (x ≡ y)
eqb_decides x y = record { yes = eqb-true x y; no = eqb-false x y }
