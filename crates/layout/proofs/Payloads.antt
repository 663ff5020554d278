-- A short payload as a list.
use Prim.Native.Nat.{ℕ, zero, suc, ◌+◌, ◌≤◌, ◌<◌}
use native.Mathlib.Omega.{arith}
use mathlib.Core.Path.{◌≡◌, refl, ap, sym, ◌∙◌}
use mathlib.Core.List.{List, [], ◌∷◌}
use lib.ListN.{length, get_or, take, drop, length-drop, get_or-eq_default}
use lib.Seq.{length-take-le, get_or-take, get_or-drop}
use Rattle.layout.specs.Payloads.{Short}

-- a byte of a payload, inside it and past it
pub byte_inside : (s : List ℕ) (start n k : ℕ) → k < n → start + n ≤ length s → get_or s (start + k) 0 ≡ get_or (take n (drop start s)) k 255
byte_inside s start n k h e = rw (get_or-take n (drop start s) k 255 h, get_or-drop start s k 255) (same_default s (start + k) (omega arith))
  where
    same_default : (l : List ℕ) (i : ℕ) → i < length l → get_or l i 0 ≡ get_or l i 255
    same_default [] i h = absurd (omega arith)
    same_default (x ∷ l) zero h = refl
    same_default (x ∷ l) (suc i) h = same_default l i (omega arith)

pub length_part : (s : List ℕ) (start n : ℕ) → start + n ≤ length s → length (take n (drop start s)) ≡ n
length_part s start n e = length-take-le n (drop start s) (rw (length-drop start s) (omega arith))

pub byte_past : (s : List ℕ) (start n k : ℕ) → n ≤ k → start + n ≤ length s → 255 ≡ get_or (take n (drop start s)) k 255
byte_past s start n k h e = sym (get_or-eq_default (take n (drop start s)) 255 (rw (length_part s start n e) h))

-- the first three entries of a list of at most three, cut to its length, are the list
pub spelt : (l : List ℕ) → length l ≤ 3 → take (length l) (get_or l 0 255 ∷ get_or l 1 255 ∷ get_or l 2 255 ∷ []) ≡ l
spelt [] h = refl
spelt (x ∷ []) h = refl
spelt (x ∷ y ∷ []) h = refl
spelt (x ∷ y ∷ z ∷ []) h = refl
spelt (x ∷ y ∷ z ∷ w ∷ l) h = absurd (omega arith)

-- the bytes of a payload and what holds of them, from the bytes of the sheet
module _ (s : List ℕ) (start n b0 b1 b2 : ℕ) (e : start + n ≤ length s) (least : 1 ≤ n) (most : n ≤ 3) (e1 : b1 ≡ get_or (take n (drop start s)) 1 255) (e2 : b2 ≡ get_or (take n (drop start s)) 2 255) where
  pub short_lem : Short n b1 b2
  short_lem =
      record {
        least = least;
        most = most;
        second = λ h. e1 ∙ sym (byte_past s start n 1 (omega arith) e);
        third = λ h. e2 ∙ sym (byte_past s start n 2 (omega arith) e);
      }

  pub short_bytes : b0 ≡ get_or (take n (drop start s)) 0 255 → take n (b0 ∷ b1 ∷ b2 ∷ []) ≡ take n (drop start s)
  short_bytes e0 =
      rw (e0, e1, e2)
      (ap (λ (m : ℕ). take m (get_or (take n (drop start s)) 0 255 ∷ get_or (take n (drop start s)) 1 255 ∷ get_or (take n (drop start s)) 2 255 ∷ [])) (sym (length_part s start n e))
      ∙ spelt (take n (drop start s)) (rw (length_part s start n e) most))
