-- The columns of a row of marks as they are handed out: each is marked in the row.
use Prim.Native.Nat.{ℕ, zero, suc, ◌+◌, ◌-◌, ◌*◌, ◌/◌, ◌%◌, ◌^◌, ◌<◌, min}
use mathlib.Core.Path.{◌≡◌, refl, sym, ap, ◌∙◌}
use mathlib.Core.List.{List}
use mathlib.Core.Logic.{◌⊎◌, inl, inr}
use native.Mathlib.Omega.{arith}
use Rattle.std.specs.Prelude.{Option, Some, None, bit_and}
use Rattle.std.specs.Int.{bit_at, w64}
use Rattle.std.proofs.lemmas.Option.{none-some}
use Rattle.std.proofs.lemmas.Nat.{and_le_l}
use Rattle.std.proofs.lemmas.Nat.Bits.{bit_at_and, bit_at-lt, bit_at-trailing_zeros}
use Rattle.prelude.specs.Lists.{at}
use Rattle.knowledge.specs.Knows.{Bit, Marks, Differ, Means}
use Rattle.knowledge.proofs.Bits.{bit_none}
use Rattle.knowledge.specs.Row.{HandsOut, lowest_bit, without_lowest}
use Rattle.knowledge.specs.declared.columns.Columns.{Columns}

-- what is left of the row of a is marked there
pub record Left (m : List ℕ) (a : ℕ) (s : Columns) : Type 0 where
  pub low : (v : ℕ) → Bit s.low v → Bit (at m (2 * a)) v
  pub high : (v : ℕ) → Bit s.high v → Bit (at m (2 * a + 1)) v
  pub low_fits : s.low < 2 ^ 64
  pub high_fits : s.high < 2 ^ 64

any : (n : ℕ) → (n ≡ 0) ⊎ (0 < n)
any zero = inl refl
any (suc n) = inr (omega arith)

abbrev number : Option ℕ → ℕ
number (Some k) = k
number None = 0

-- a half of a row without its lowest bit has no bits of its own
fewer : (n v : ℕ) → Bit (without_lowest n) v → Bit n v
fewer n v b =
    let e : bit_at (bit_and n (n - 1)) v ≡ min (bit_at n v) (bit_at (n - 1) v) = bit_at_and n (n - 1) v in
    omega (arith, b, e, bit_at-lt n v)

fits_fewer : (n : ℕ) → n < 2 ^ 64 → without_lowest n < 2 ^ 64
fits_fewer n h = omega (arith, and_le_l n (n - 1))

-- a marked place of a row is a pair with different codes
marked_there : (m : List ℕ) (a h x v k : ℕ) → x ≡ 2 * a + h → k ≡ 64 * h + v → h < 2 → v < 64 → Bit (at m x) v → Means (Marks m) (Differ a k)
marked_there m a h x v k e f hh hv b =
    let row : x / 2 ≡ a = omega arith in
    let column : x % 2 * 64 + v ≡ k = omega arith in
    record { means = λ c g q. g x v hv b (ap c row ∙ q ∙ ap c (sym column)) }

-- the lowest bit of a half is a bit of it
lowest_there : (n : ℕ) → 0 < n → n < 2 ^ 64 → (lowest_bit n < 64) × Bit n (lowest_bit n)
lowest_there n p h = let b = bit_at-trailing_zeros w64 n p h in (b.0, b.1)

-- a column that is handed out is marked in the row, and what is left is less
module _ {m : List ℕ} {a : ℕ} {s t : Columns} {k : ℕ} where
  pub handed_marked : HandsOut s (Some k) t → Left m a s → Means (Marks m) (Differ a k)
  handed_marked h l =
      elim (any s.low) [
        | inl z ↦ elim (any s.high) [
          | inl z' ↦ absurd (none-some k (sym (h.none z z')))
          | inr p ↦
              let b = lowest_there s.high p l.high_fits in
              let e : k ≡ 64 + lowest_bit s.high = ap number (h.high z p).0 in
              marked_there m a 1 (2 * a + 1) (lowest_bit s.high) k refl (omega arith) (omega arith) b.0 (l.high (lowest_bit s.high) b.1)
        ]
        | inr p ↦
            let b = lowest_there s.low p l.low_fits in
            let e : k ≡ lowest_bit s.low = ap number (h.low p).0 in
            marked_there m a 0 (2 * a) (lowest_bit s.low) k (omega arith) (omega arith) (omega arith) b.0 (l.low (lowest_bit s.low) b.1)
      ]

  pub handed_left : HandsOut s (Some k) t → Left m a s → Left m a t
  handed_left h l =
      elim (any s.low) [
        | inl z ↦ elim (any s.high) [
          | inl z' ↦ absurd (none-some k (sym (h.none z z')))
          | inr p ↦
              let e = h.high z p in
              record {
                low = λ v b. absurd (bit_none v (rw e.1 at b));
                high = λ v b. l.high v (fewer s.high v (rw e.2 at b));
                low_fits = omega (arith, e.1);
                high_fits = rw e.2 (fits_fewer s.high l.high_fits);
              }
        ]
        | inr p ↦
            let e = h.low p in
            record {
              low = λ v b. l.low v (fewer s.low v (rw e.1 at b));
              high = λ v b. l.high v (rw e.2 at b);
              low_fits = rw e.1 (fits_fewer s.low l.low_fits);
              high_fits = rw e.2 l.high_fits;
            }
      ]

-- all columns are left at first
pub all_left : {m : List ℕ} {a : ℕ} {s : Columns} → (s.low ≡ at m (2 * a)) × (s.high ≡ at m (2 * a + 1)) → s.low < 2 ^ 64 → s.high < 2 ^ 64 → Left m a s
all_left e low high = record { low = λ v b. rw (← e.0) b; high = λ v b. rw (← e.1) b; low_fits = low; high_fits = high }
