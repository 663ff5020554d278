-- `sizings::sizes_with` meets its contract.
use Prim.Native.Nat.{ℕ, min}
use native.Mathlib.Omega.{arith}
use mathlib.Core.Path.{◌≡◌, ap, ◌∙◌}
use lib.ListN.{length, take, replicate}
use lib.Seq.{length-take-le}
use Rattle.text.proofs.Lines.{renamed}
use Rattle.sizes.specs.Sizing.{outcome}
use Rattle.sizings.specs.Sizings.{sizes_line}
use Rattle.sizings.proofs.Shown.{cut_outcome}
use Rattle.sizings.proofs.sizes_with.Goals as goal

-- the lent front of the buffer is as long as it should be
lent_length : (lent room : ℕ) → lent ≡ min room 8 → length {A = ℕ} (take lent (replicate 8 0)) ≡ lent
lent_length lent room e = length-take-le lent (replicate 8 0) (omega (arith, e))

pub returns : goal.returns
returns c =
    let s = c.args in
    let lent = c.lesser-lent in
    renamed
    (ap sizes_line (ap (outcome s.sheet.now) (lent_length lent.result s.room lent.ensures ∙ lent.ensures) ∙ cut_outcome s.sheet.now s.room))
    c.sizes_into.ensures
