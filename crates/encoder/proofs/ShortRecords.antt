-- A record of at most three payload bytes: how long it is, the bytes it is written from, and the record of a list of at most two numbers.
use Prim.Native.Nat.{ℕ, ◌+◌, ◌≤◌}
use native.Mathlib.Omega.{arith}
use mathlib.Core.Path.{◌≡◌, refl, ap, sym, ◌∙◌}
use mathlib.Core.Bool.{Bool, true, false, cond}
use mathlib.Core.List.{List, [], ◌∷◌}
use lib.ListN.{length, take}
use lib.Dec.{eqb}
use borrow.Author.Tests.{eq-eqb, ne_eqb}
use Rattle.layout.specs.Encode.{packet, total_bytes}
use Rattle.layout.specs.Packed.{first, second}
use Rattle.layout.proofs.AtMostTwo.{Pair}
use Rattle.layout.proofs.Written.{total_bytes_lem}
use Rattle.encoder.specs.Parts.{there, short_record}

-- how many of two are there
pub there_none : (a b : ℕ) → a ≡ 255 → length (there a b) ≡ 0
unfolding there
there_none a b e = rw (eq-eqb a 255 e)

pub there_one : (a b : ℕ) → (a ≡ 255 → ⊥) → b ≡ 255 → length (there a b) ≡ 1
unfolding there
there_one a b n e = rw (ne_eqb a 255 n, eq-eqb b 255 e)

pub there_two : (a b : ℕ) → (a ≡ 255 → ⊥) → (b ≡ 255 → ⊥) → length (there a b) ≡ 2
unfolding there
there_two a b n m = rw (ne_eqb a 255 n, ne_eqb b 255 m)

abbrev picked : Bool → Bool → ℕ → ℕ → List ℕ
picked x y a b = cond x [] (a ∷ cond y [] (b ∷ []))

pub there_most : (a b : ℕ) → length (there a b) ≤ 2
unfolding there
there_most a b = go (eqb a 255) (eqb b 255)
  where
    go : (x y : Bool) → length (picked x y a b) ≤ 2
    go true y = omega arith
    go false true = omega arith
    go false false = omega arith

pub record_length : (kind b0 b1 b2 : ℕ) → length (short_record kind b0 b1 b2) ≡ length (there b1 b2) + 5
unfolding short_record
record_length kind b0 b1 b2 = omega arith

-- the bytes in front of the seven that a record is written from
pub record_front : (kind b0 b1 b2 len : ℕ) → len ≡ length (there b1 b2) + 1 → take (len + 4) (len ∷ 0 ∷ kind ∷ 0 ∷ b0 ∷ b1 ∷ b2 ∷ []) ≡ short_record kind b0 b1 b2
unfolding short_record there
record_front kind b0 b1 b2 len e = rw e (go (eqb b1 255) (eqb b2 255))
  where
    go : (x y : Bool) → take (length (picked x y b1 b2) + 1 + 4) ((length (picked x y b1 b2) + 1) ∷ 0 ∷ kind ∷ 0 ∷ b0 ∷ b1 ∷ b2 ∷ []) ≡ packet kind (b0 ∷ picked x y b1 b2)
    go true y = refl
    go false true = refl
    go false false = refl

-- a list of at most two numbers, by its first and its second
there_pair : (l : List ℕ) → Pair l → there (first l) (second l) ≡ l
unfolding there
there_pair [] p = refl
there_pair (x ∷ []) p = rw (ne_eqb x 255 (λ e. let h = p.small.0 in omega arith))
there_pair (x ∷ y ∷ []) p = rw (ne_eqb x 255 (λ e. let h = p.small.0 in omega arith), ne_eqb y 255 (λ e. let h = p.small.1.0 in omega arith))
there_pair (x ∷ y ∷ z ∷ l) p = let h = p.few in absurd (omega arith)

pub pair_record : (kind b0 : ℕ) (l : List ℕ) → Pair l → short_record kind b0 (first l) (second l) ≡ packet kind (b0 ∷ l)
unfolding short_record
pair_record kind b0 l p = ap (λ (m : List ℕ). packet kind (b0 ∷ m)) (there_pair l p)

-- the record of a total that is there
pub total_record : (n : ℕ) → 1 ≤ n → short_record 6 n 255 255 ≡ total_bytes n
total_record n h = pair_record 6 n [] (record { few = omega arith; small = tt }) ∙ sym (total_bytes_lem n h)
