-- `findings::find_with` meets its contract.
use Prim.Native.Nat.{ℕ, min}
use native.Mathlib.Omega.{arith}
use mathlib.Core.Path.{◌≡◌, ap, ap₂, ◌∙◌}
use lib.ListN.{length, take, replicate}
use lib.Seq.{length-take-le}
use Rattle.text.proofs.Lines.{renamed}
use Rattle.finder.specs.Find.{outcome}
use Rattle.findings.specs.Findings.{find_line}
use Rattle.findings.proofs.Found.{cut_outcome}
use Rattle.findings.proofs.find_with.Goals as goal

-- the lengths that are lent
lent_codes : (lent room : ℕ) → lent ≡ min room 128 → length {A = ℕ} (take lent (replicate 128 0)) ≡ lent
lent_codes lent room e = length-take-le lent (replicate 128 0) (omega (arith, e))

lent_tables : (lent room : ℕ) → lent ≡ min room 16392 → length {A = ℕ} (take lent (replicate 16392 0)) ≡ lent
lent_tables lent room e = length-take-le lent (replicate 16392 0) (omega (arith, e))

pub returns : goal.returns
returns c =
    let s = c.args in
    let x = c.lesser-c in
    let y = c.lesser-t in
    renamed
    (ap find_line
    (ap₂ (outcome s.sheet.now) (lent_codes x.result s.many_codes x.ensures ∙ x.ensures) (lent_tables y.result s.many_tables y.ensures ∙ y.ensures)
    ∙ cut_outcome s.sheet.now s.many_codes s.many_tables))
    c.find_into.ensures
