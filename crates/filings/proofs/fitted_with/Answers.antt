-- `filings::fitted_with` meets its contract.
use Prim.Native.Nat.{ℕ, min}
use native.Mathlib.Omega.{arith}
use mathlib.Core.Path.{◌≡◌, ap, ◌∙◌}
use lib.ListN.{length, take, replicate}
use lib.Seq.{length-take-le}
use Rattle.text.proofs.Lines.{renamed}
use Rattle.fitted.specs.Filing.{outcome}
use Rattle.fitted.proofs.Rooms.{room_enough}
use Rattle.filings.specs.Filings.{fitted_line}
use Rattle.filings.proofs.fitted_with.Goals as goal

-- the lent stretch of the buffer is as long as it should be
lent_length : (lent room : ℕ) → lent ≡ min room 2161 → length {A = ℕ} (take lent (replicate 2161 0)) ≡ lent
lent_length lent room e = length-take-le lent (replicate 2161 0) (omega (arith, e))

pub returns : goal.returns
returns c =
    let s = c.args in
    let lent = c.lesser-lent in
    renamed
    (ap fitted_line (ap (outcome s.sheet.now) (lent_length lent.result s.room lent.ensures ∙ lent.ensures) ∙ room_enough s.sheet.now s.room))
    c.fitted_into.ensures
