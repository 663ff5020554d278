-- Entries of a list written one after the other, each as `show` shows it: what the loops of `put_cells` and `put_hex` keep.
use Prim.Native.Nat.{ℕ, ◌+◌, ◌*◌, ◌≤◌, ◌<◌}
use native.Mathlib.Nat.{mul-suc, mul-le-mul_left}
use native.Mathlib.Numerals.{add-one}
use native.Mathlib.Omega.{arith}
use mathlib.Core.Path.{◌≡◌, ap, ◌∙◌}
use mathlib.Core.List.{List, [], ◌∷◌, ◌++◌}
use lib.ListN.{length, take, get_or, length-append}
use lib.Seq.{take-suc, take-length}
use Rattle.prelude.specs.Pasted.{Wrote}
use Rattle.prelude.proofs.Pasted.{wrote_none, wrote_length, wrote_both}

-- the first i entries stand in the buffer, each in at most so many bytes
pub record EntriesWritten (show : List ℕ → List ℕ) (most : ℕ) (d : List ℕ) (from : ℕ) (s d' : List ℕ) (r i : ℕ) : Type 0 where
  pub wrote : Wrote d from (show (take i s)) d' r
  pub short : length (show (take i s)) ≤ most * i
  pub within : i ≤ length s

pub none_written : (show : List ℕ → List ℕ) (most : ℕ) → show [] ≡ [] → (d : List ℕ) (from : ℕ) (s : List ℕ) → from ≤ length d → EntriesWritten show most d from s d from 0
none_written show most none d from s room =
    record {
      wrote = rw none (wrote_none d from room);
      short = rw none (omega arith);
      within = omega arith;
    }

module _ (show : List ℕ → List ℕ) (most : ℕ) (d : List ℕ) (from : ℕ) (s d' : List ℕ) (r i : ℕ) (k : EntriesWritten show most d from s d' r i) where
  -- the bytes of what is written, and of all entries
  fits : most * i ≤ most * length s
  fits = mul-le-mul_left most k.within

  pub kept_length : from + most * length s ≤ length d → length d' ≡ length d
  kept_length room = wrote_length d from (show (take i s)) d' r (omega (arith, k.short, fits)) k.wrote

  pub all_written : length s ≤ i → Wrote d from (show s) d' r
  all_written h =
      let e : i ≡ length s = omega (arith, k.within) in
      rw (← take-length s) (rw (← e) k.wrote)

  pub all_short : r ≤ from + most * length s
  all_short = omega (arith, k.short, k.wrote.end, fits)

  module _ (append : (a b : List ℕ) → show (a ++ b) ≡ show a ++ show b) (room : from + most * length s ≤ length d) (more : i < length s) (small : length (show (get_or s i 0 ∷ [])) ≤ most) where
    one_more : show (take (i + 1) s) ≡ show (take i s) ++ show (get_or s i 0 ∷ [])
    one_more = ap (λ (n : ℕ). show (take n s)) (add-one i) ∙ ap show (take-suc s i 0 more) ∙ append (take i s) (get_or s i 0 ∷ [])

    next : most * (i + 1) ≡ most * i + most
    next = rw (add-one i) (mul-suc most i)

    pub next_fits : r + length (show (get_or s i 0 ∷ [])) ≤ length d'
    next_fits =
        let all : most * (i + 1) ≤ most * length s = mul-le-mul_left most (omega arith) in
        omega (arith, k.wrote.end, k.short, kept_length room, next)

    pub next_written : {d'' : List ℕ} {e : ℕ} → Wrote d' r (show (get_or s i 0 ∷ [])) d'' e → EntriesWritten show most d from s d'' e (i + 1)
    next_written w =
        record {
          wrote = rw one_more (wrote_both k.wrote w);
          short = rw one_more (rw length-append (omega (arith, k.short, next)));
          within = omega arith;
        }
