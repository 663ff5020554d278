-- What words stand for, one character or one byte further.
use Prim.Native.Nat.{ℕ, suc, ◌+◌, ◌*◌, ◌/◌, ◌%◌, ◌≤◌, ◌<◌, min}
use native.Mathlib.Numerals.{add-one}
use native.Mathlib.Omega.{arith}
use mathlib.Core.Path.{◌≡◌, refl, sym, ap, ap₂, ◌∙◌}
use mathlib.Core.Bool.{Bool, ◌&&◌}
use mathlib.Core.List.{List, [], ◌∷◌, ◌++◌, append_assoc, append-nil}
use lib.ListN.{length, take, drop, get_or, set, length-set, length-drop}
use lib.Seq.{drop-cons, take-suc-set, length-take-le}
use lib.Dec.{ltb}
use Rattle.std.specs.List.{fold, list_all}
use Rattle.words.specs.Words.{digit_of, all_digits, bytes_of, number_from, largest, Decoded}

-- a number, by the library's fold; a numeral, by its test of all
pub number_fold : (w : List ℕ) (value : ℕ) → number_from value w ≡ fold (λ v c. min (v * 10 + digit_of c) largest) value w
number_fold [] value = refl
number_fold (c ∷ w) value = number_fold w (min (value * 10 + digit_of c) largest)

pub digits_all : (base : ℕ) (w : List ℕ) → all_digits base w ≡ list_all (λ c. ltb (digit_of c) base) w
digits_all base [] = refl
digits_all base (c ∷ w) = ap (λ (b : Bool). ltb (digit_of c) base && b) (digits_all base w)

-- bytes: what the loop of `decode` keeps; n bytes stand in front of the buffer
pub record DecodedSoFar (w d₀ d : List ℕ) (n : ℕ) : Type 0 where
  pub long : length d ≡ length d₀
  pub bytes : take n d ++ bytes_of (drop (2 * n) w) ≡ bytes_of w

pub none_decoded : (w d : List ℕ) → DecodedSoFar w d d 0
none_decoded w d = record { long = refl; bytes = refl }

module _ (w d₀ d : List ℕ) (n : ℕ) (k : DecodedSoFar w d₀ d n) (room : length w ≤ 2 * length d₀) where
  pub fits : n < length w / 2 → n < length d
  fits h = omega (arith, k.long)

  pub next_decoded : n < length w / 2 → (a b : ℕ) → a ≡ digit_of (get_or w (2 * n) 0) → b ≡ digit_of (get_or w (2 * n + 1) 0) → DecodedSoFar w d₀ (set d n (a % 16 * 16 + b % 16)) (n + 1)
  next_decoded h a b p q = record { long = length-set d n _ ∙ k.long; bytes = more ∙ k.bytes }
    where
      one : ℕ
      one = a % 16 * 16 + b % 16

      two : bytes_of (drop (2 * n) w) ≡ one ∷ bytes_of (drop (2 * (n + 1)) w)
      two =
          let e : suc (suc (2 * n)) ≡ 2 * (n + 1) = omega arith in
          ap bytes_of (drop-cons w (2 * n) 0 (omega arith) ∙ ap (λ (l : List ℕ). get_or w (2 * n) 0 ∷ l) (drop-cons w (suc (2 * n)) 0 (omega arith)))
          ∙ ap₂ (λ (x : ℕ) (l : List ℕ). x ∷ l)
          (ap₂ (λ (x y : ℕ). x % 16 * 16 + y % 16) (sym p) (ap (λ (j : ℕ). digit_of (get_or w j 0)) (sym (add-one (2 * n))) ∙ sym q))
          (ap (λ (j : ℕ). bytes_of (drop j w)) e)

      more : take (n + 1) (set d n one) ++ bytes_of (drop (2 * (n + 1)) w) ≡ take n d ++ bytes_of (drop (2 * n) w)
      more =
          ap (λ (j : ℕ). take j (set d n one) ++ bytes_of (drop (2 * (n + 1)) w)) (add-one n)
          ∙ ap (λ (l : List ℕ). l ++ bytes_of (drop (2 * (n + 1)) w)) (take-suc-set d n one (fits h))
          ∙ append_assoc (take n d) (one ∷ []) (bytes_of (drop (2 * (n + 1)) w))
          ∙ ap (λ (l : List ℕ). take n d ++ l) (sym two)

  bytes_none : (l : List ℕ) → length l ≤ 1 → bytes_of l ≡ []
  bytes_none [] h = refl
  bytes_none (a ∷ []) h = refl
  bytes_none (a ∷ (b ∷ l)) h = absurd (omega arith)

  pub all_decoded : n ≡ length w / 2 → Decoded w d (length w / 2)
  all_decoded h =
      let e : take n d ≡ bytes_of w =
      sym (append-nil (take n d)) ∙ ap (λ (l : List ℕ). take n d ++ l) (sym (bytes_none (drop (2 * n) w) (omega (arith, length-drop (2 * n) w)))) ∙ k.bytes in
      let room' : n ≤ length d = omega (arith, k.long) in
      rw (← h) (record { many = sym (length-take-le n d room') ∙ ap length e; within = room'; front = e })
