-- An entry more in the arrays of the fills.
use native.Mathlib.Omega.{arith}
use mathlib.Core.Path.{ap, ◌∙◌}
use Rattle.layout.specs.declared.Parsed.{Parsed}
use Rattle.layout.proofs.Pack.{contents, more_fill, fill_packed}
use Rattle.layout.proofs.grow.with_fill.Goals as goal

pub returns : goal.returns
returns c sh e =
    let a = c.args in
    let h = contents a.p sh e in
    ap (λ (p : Parsed). more_fill p a.b0 a.b1) e ∙ fill_packed sh (record { symbol = a.b0; term = a.b1 }) (omega arith)
