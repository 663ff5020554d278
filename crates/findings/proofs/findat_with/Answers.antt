-- `findings::findat_with` meets its contract.
use Prim.Native.Nat.{ℕ, min}
use native.Mathlib.Omega.{arith}
use mathlib.Core.Path.{◌≡◌, ap, ap₂, ◌∙◌}
use lib.ListN.{length, take, replicate}
use lib.Seq.{length-take-le}
use Rattle.text.proofs.Lines.{renamed}
use Rattle.find_at.specs.FindAt.{outcome_at}
use Rattle.findings.specs.Findings.{find_line}
use Rattle.findings.proofs.Found.{cut_outcome_at}
use Rattle.findings.proofs.findat_with.Goals as goal

-- the lengths that are lent
lent_length_codes : (lent room : ℕ) → lent ≡ min room 128 → length {A = ℕ} (take lent (replicate 128 0)) ≡ lent
lent_length_codes lent room e = length-take-le lent (replicate 128 0) (omega (arith, e))

lent_length_tables : (lent room : ℕ) → lent ≡ min room 16392 → length {A = ℕ} (take lent (replicate 16392 0)) ≡ lent
lent_length_tables lent room e = length-take-le lent (replicate 16392 0) (omega (arith, e))

pub returns : goal.returns
returns c =
    let s = c.args in
    let x = c.lesser-lent_codes in
    let y = c.lesser-lent_tables in
    renamed
    (ap find_line
    (ap₂ (outcome_at s.sheet.now s.sizes.now) (lent_length_codes x.result s.many_codes x.ensures ∙ x.ensures) (lent_length_tables y.result s.many_tables y.ensures ∙ y.ensures)
    ∙ cut_outcome_at s.sheet.now s.sizes.now s.many_codes s.many_tables))
    c.findat_into.ensures
