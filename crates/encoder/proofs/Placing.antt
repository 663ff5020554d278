-- Bytes written at a place and at the front, and the records of one kind as a loop writes them.
use Prim.Native.Nat.{ℕ, suc, ◌+◌, ◌-◌, ◌≤◌, ◌<◌}
use native.Mathlib.Numerals.{add-one}
use native.Mathlib.Omega.{arith}
use mathlib.Core.Path.{◌≡◌, ap, sym, ◌∙◌, subst}
use mathlib.Core.List.{List, ◌++◌}
use lib.ListN.{length, drop}
use borrow.Rule.Slice.PartMut.{put_mid}
use Rattle.prelude.specs.Lists.{collect, fronted}
use Rattle.prelude.proofs.Lists.{sum_to_grows}
use Rattle.prelude.proofs.Collect.{length_collect}
use Rattle.prelude.proofs.Pasted.{wrote_both, pasted_stretch}
use Rattle.prelude.specs.Pasted.{Wrote}

-- written into a lent stretch that came back
pub wrote_stretch : (d s d' : List ℕ) (i e : ℕ) → e ≡ i + length s → e ≤ length d → d' ≡ s → Wrote d i s (put_mid i (e - i) d d') e
wrote_stretch d s d' i e h room w = record { end = h; within = room; held = ap (put_mid i (e - i) d) w ∙ pasted_stretch d i e s h }

-- written at the front
pub wrote_front : (d s d' : List ℕ) (r : ℕ) → Wrote d 0 s d' r → (r ≡ length s) × (d' ≡ fronted s d)
wrote_front d s d' r w =
    let e : 0 + length s ≡ length s = omega arith in
    (omega (arith, w.end), w.held ∙ ap (λ (m : ℕ). s ++ drop m d) e)

-- The first k of n records stand in the buffer: there is room for the next one, and with it one more stands there.
module _ (h : ℕ → List ℕ) (k : ℕ) {d : List ℕ} {i : ℕ} {d' : List ℕ} {r : ℕ} (wrote : Wrote d i (collect k h) d' r) where
  pub record_fits : (n : ℕ) → i + length (collect n h) ≤ length d → length d' ≡ length d → k < n → r + length (h k) ≤ length d'
  record_fits n room long more =
      omega (
        arith,
        wrote.end,
        length_collect n h,
        length_collect k h,
        sum_to_grows (suc k) n (λ j. length (h j)) more,
      )

  pub record_more : {d'' : List ℕ} {r' : ℕ} → Wrote d' r (h k) d'' r' → Wrote d i (collect (k + 1) h) d'' r'
  record_more {d'' = d''} {r' = r'} w =
      subst (λ (m : ℕ). Wrote d i (collect m h) d'' r') (sym (add-one k)) (wrote_both wrote w)
