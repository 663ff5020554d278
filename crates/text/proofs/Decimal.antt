-- The decimal digits of a number by its last digit, and how many there are.
use Prim.Native.Nat.{ℕ, zero, suc, ◌+◌, ◌/◌, ◌%◌, ◌^◌, ◌≤◌, ◌<◌}
use native.Mathlib.Omega.{arith}
use mathlib.Core.Path.{◌≡◌, refl, sym, ap, ◌∙◌}
use mathlib.Core.Bool.{Bool, true, false}
use mathlib.Core.List.{List, [], ◌∷◌, ◌++◌, append-nil, append_assoc}
use lib.ListN.{length, length-append}
use lib.Dec.{ltb}
use borrow.Author.Tests.{lt-ltb, le-ltb, ltb-true, ltb-false}
use Rattle.text.specs.Text.{digits, decimal, spaced}

-- which digits stand there, by the test on the number
digits_by : (b : Bool) (k n : ℕ) → ltb n 10 ≡ b → digits (suc k) n ≡ (elim b as (λ x. List ℕ) [ true ↦ (48 + n) ∷ [] | false ↦ digits k (n / 10) ++ ((48 + n % 10) ∷ []) ])
digits_by b k n e =
    ap (λ (t : Bool). elim t as (λ x. List ℕ) [ true ↦ (48 + n) ∷ [] | false ↦ digits k (n / 10) ++ ((48 + n % 10) ∷ []) ]) e

-- any bound above the number gives the same digits
digits_enough : (k m n : ℕ) → n < k → n < m → digits k n ≡ digits m n
digits_enough zero m n h g = absurd (omega arith)
digits_enough (suc k) zero n h g = absurd (omega arith)
digits_enough (suc k) (suc m) n h g = by (ltb n 10) refl (digits_enough k m (n / 10))
  where
    by : (b : Bool) → ltb n 10 ≡ b → (n / 10 < k → n / 10 < m → digits k (n / 10) ≡ digits m (n / 10)) → digits (suc k) n ≡ digits (suc m) n
    by true e ih = digits_by true k n e ∙ sym (digits_by true m n e)
    by false e ih =
        let l : 10 ≤ n = ltb-false n 10 e in
        digits_by false k n e
        ∙ ap (λ (l : List ℕ). l ++ ((48 + n % 10) ∷ [])) (ih (omega arith) (omega arith))
        ∙ sym (digits_by false m n e)

pub decimal_small : (n : ℕ) → n < 10 → decimal n ≡ (48 + n) ∷ []
unfolding decimal
decimal_small n h = digits_by true n n (lt-ltb n 10 h)

pub decimal_large : (n : ℕ) → 10 ≤ n → decimal n ≡ decimal (n / 10) ++ ((48 + n % 10) ∷ [])
unfolding decimal
decimal_large n h =
    digits_by false n n (le-ltb n 10 h)
    ∙ ap (λ (l : List ℕ). l ++ ((48 + n % 10) ∷ [])) (digits_enough n (suc (n / 10)) (n / 10) (omega arith) (omega arith))

-- a number below 10 ^ k has at most k digits
pub decimal_length : (k n : ℕ) → n < 10 ^ k → 1 ≤ k → length (decimal n) ≤ k
decimal_length zero n h g = absurd (omega arith)
decimal_length (suc zero) n h g = rw (decimal_small n h) (omega arith)
decimal_length (suc (suc k)) n h g = by (ltb n 10) refl (decimal_length (suc k) (n / 10))
  where
    by : (b : Bool) → ltb n 10 ≡ b → (n / 10 < 10 ^ suc k → 1 ≤ suc k → length (decimal (n / 10)) ≤ suc k) → length (decimal n) ≤ suc (suc k)
    by true e ih = rw (decimal_small n (ltb-true n 10 e)) (omega arith)
    by false e ih =
        let l : 10 ≤ n = ltb-false n 10 e in
        let shorter : length (decimal (n / 10)) ≤ suc k = ih (omega arith) (omega arith) in
        rw (decimal_large n l) (simp length-append (omega arith))

-- a machine number has at most 20, a byte at most 3
pub decimal_word : (n : ℕ) → n < 2 ^ 64 → length (decimal n) ≤ 20
decimal_word n h = decimal_length 20 n (omega arith) (omega arith)

pub decimal_byte : (n : ℕ) → n < 256 → length (decimal n) ≤ 3
decimal_byte n h = decimal_length 3 n (omega arith) (omega arith)

-- a number after a space
pub length_spaced_one : (n : ℕ) → length (spaced (n ∷ [])) ≡ suc (length (decimal n))
length_spaced_one n = ap (λ (l : List ℕ). suc (length l)) (append-nil (decimal n))

pub spaced_byte : (n : ℕ) → n < 256 → length (spaced (n ∷ [])) ≤ 4
spaced_byte n h = omega (arith, length_spaced_one n, decimal_byte n h)

pub spaced_append : (s t : List ℕ) → spaced (s ++ t) ≡ spaced s ++ spaced t
spaced_append [] t = refl
spaced_append (x ∷ s) t =
    ap (λ (l : List ℕ). (32 ∷ decimal x) ++ l) (spaced_append s t) ∙ sym (append_assoc (32 ∷ decimal x) (spaced s) (spaced t))
