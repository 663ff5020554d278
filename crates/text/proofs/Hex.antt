-- Bytes in hexadecimal: how long they are, two digits written, the word of no bytes.
use Prim.Native.Nat.{ℕ, ◌+◌, ◌*◌, ◌/◌, ◌%◌, ◌≤◌}
use native.Mathlib.Omega.{arith}
use mathlib.Core.Path.{◌≡◌, refl, ap}
use mathlib.Core.List.{List, [], ◌∷◌, ◌++◌}
use lib.ListN.{length, set, length-set}
use Rattle.prelude.specs.Pasted.{Wrote}
use Rattle.text.specs.Text.{hex_digit, hex, shown}
use Rattle.prelude.proofs.Pasted.{pasted_one, wrote_both}

length_hex : (s : List ℕ) → length (hex s) ≡ 2 * length s
length_hex [] = refl
length_hex (b ∷ s) = omega (arith, length_hex s)

pub hex_append : (s t : List ℕ) → hex (s ++ t) ≡ hex s ++ hex t
hex_append [] t = refl
hex_append (b ∷ s) t = ap {B = List ℕ} (λ l. hex_digit (b / 16) ∷ (hex_digit (b % 16) ∷ l)) (hex_append s t)

-- the word of no bytes, and of some
pub shown_none : (s : List ℕ) → length s ≡ 0 → shown s ≡ 45 ∷ []
shown_none [] h = refl
shown_none (b ∷ s) h = absurd (omega arith)

pub shown_some : (s : List ℕ) → (length s ≡ 0 → ⊥) → shown s ≡ hex s
shown_some [] h = absurd (h refl)
shown_some (b ∷ s) h = refl

pub length_shown : (s : List ℕ) → length (shown s) ≤ 1 + 2 * length s
length_shown [] = omega arith
length_shown (b ∷ s) = omega (arith, length_hex s)

-- two digits
pub digits_written : (d : List ℕ) (i x y : ℕ) → i + 2 ≤ length d → Wrote d i (x ∷ (y ∷ [])) (set (set d i x) (i + 1) y) (i + 2)
digits_written d i x y room =
    let long : length (set d i x) ≡ length d = length-set d i x in
    wrote_both {s = x ∷ []} {t = y ∷ []}
    (record { end = refl; within = omega arith; held = pasted_one d i x (omega arith) })
    (record { end = omega arith; within = omega arith; held = pasted_one (set d i x) (i + 1) y (omega arith) })
