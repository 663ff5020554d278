-- The buffer that fitted is lent: one longer than the longest sheet makes no difference, and a sheet that is filed stands whole in front of it.
use Prim.Native.Nat.{ℕ, ◌≤◌, min}
use native.Mathlib.Decide.{dec_lt}
use native.Mathlib.Omega.{arith}
use mathlib.Core.Path.{◌≡◌, refl, sym, ap, ◌∙◌}
use mathlib.Core.List.{List}
use lib.ListN.{length, take}
use lib.Dec.{ltb}
use borrow.Author.Tests.{lt-ltb, le-ltb}
use Rattle.logic.specs.Sheet.{Sheet}
use Rattle.layout.specs.Layout.{Reading, accepted, refused, reading}
use Rattle.layout.specs.Encode.{encode}
use Rattle.layout.proofs.Answers.{accepted_well_formed}
use Rattle.prelude.proofs.Fronted.{front_fronted}
use Rattle.fitted_sheet.proofs.Keeping.{fitted_kept}
use Rattle.fitted.specs.Filing.{Filing, filed, consider, outcome, buffer_in, buffer_after}
use Rattle.fitted.proofs.Filings.{branch}
use Rattle.fitted.proofs.Filed.{filed_of}

-- a longer buffer than the longest sheet makes no difference
pub room_enough : (s : List ℕ) (n : ℕ) → outcome s (min n 2161) ≡ outcome s n
unfolding outcome
room_enough s n = step (reading s)
  where
    cut : ltb (min n 2161) 2161 ≡ ltb n 2161
    cut =
        elim (dec_lt n 2161) [
          | yes h ↦ lt-ltb (min n 2161) 2161 (omega arith) ∙ sym (lt-ltb n 2161 h)
          | no h ↦ le-ltb (min n 2161) 2161 (omega arith) ∙ sym (le-ltb n 2161 (omega arith))
        ]

    step : (r : Reading) → consider r (min n 2161) ≡ consider r n
    step (refused m i) = refl
    step (accepted sh) = ap (branch sh) cut

-- a sheet that is filed stands in front
pub written_front : (s out : List ℕ) (new : Sheet) → outcome s (length out) ≡ filed new → take (length (encode new)) (buffer_after s out) ≡ encode new
unfolding buffer_after
written_front s out new q =
    ap (λ (o : Filing). take (length (encode new)) (buffer_in o out)) q ∙ front_fronted (encode new) out

-- and the buffer has room for it
pub written_fits : (s out : List ℕ) (new : Sheet) → outcome s (length out) ≡ filed new → length (encode new) ≤ length out
written_fits s out new q =
    let f = filed_of s (length out) new q in
    omega (
      arith,
      f.roomy,
      ap (λ (x : Sheet). length (encode x)) f.same,
      (fitted_kept f.sheet (accepted_well_formed s f.sheet f.reads) f.entry f.answers f.few).short,
    )
