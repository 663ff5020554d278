-- The two ways of `put_number`: a number of one digit, and the last digit behind the others.
use Prim.Native.Nat.{ℕ, ◌+◌, ◌/◌, ◌%◌, ◌≤◌, ◌<◌}
use native.Mathlib.Omega.{arith}
use mathlib.Core.Path.{◌≡◌, refl, sym, ap, ◌∙◌}
use mathlib.Core.List.{List, [], ◌∷◌}
use lib.ListN.{length, set, length-append}
use Rattle.prelude.specs.Pasted.{pasted, Wrote}
use Rattle.text.specs.Text.{decimal}
use Rattle.prelude.proofs.Pasted.{pasted_one, wrote_length, wrote_then}
use Rattle.text.proofs.Decimal.{decimal_small, decimal_large}

module _ (d : List ℕ) (i n : ℕ) (room : i + length (decimal n) ≤ length d) where
  pub last_digit : n < 10 → length (decimal n) ≡ 1
  last_digit h = rw (decimal_small n h)

  pub one_digit : n < 10 → Wrote d i (decimal n) (set d i (48 + n % 10)) (i + 1)
  one_digit h =
      let same : n % 10 ≡ n = omega arith in
      let e : length (decimal n) ≡ 1 = last_digit h in
      record {
        end = rw e refl;
        within = omega arith;
        held = ap (λ (v : ℕ). set d i (48 + v)) same ∙ pasted_one d i (48 + n) (omega arith) ∙ ap (pasted d i) (sym (decimal_small n h));
      }

  pub one_less : 10 ≤ n → length (decimal n) ≡ length (decimal (n / 10)) + 1
  one_less h = ap length (decimal_large n h) ∙ length-append (decimal (n / 10)) ((48 + n % 10) ∷ [])

  module _ (h : 10 ≤ n) (last : List ℕ) (end : ℕ) (w : Wrote d i (decimal (n / 10)) last end) where
    shorter : i + length (decimal (n / 10)) + 1 ≤ length d
    shorter = omega (arith, one_less h)

    pub fits_behind : end < length last
    fits_behind = omega (arith, shorter, wrote_length d i (decimal (n / 10)) last end (omega (arith, shorter)) w, w.end)

    pub digit_behind : Wrote d i (decimal n) (set last end (48 + n % 10)) (end + 1)
    digit_behind =
        rw (decimal_large n h)
        (wrote_then d i (decimal (n / 10)) last end (omega (arith, shorter)) w ((48 + n % 10) ∷ []) (set last end (48 + n % 10)) (end + 1)
        (record { end = refl; within = omega (arith, fits_behind); held = pasted_one last end (48 + n % 10) fits_behind }))
