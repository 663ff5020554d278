-- An entry more in the arrays of the literals.
use Prim.Native.Nat.{ℕ}
use native.Mathlib.Omega.{arith}
use mathlib.Core.Path.{ap, ◌∙◌}
use Rattle.layout.specs.declared.Parsed.{Parsed}
use Rattle.layout.proofs.Pack.{contents, more_literal, literal_packed}
use Rattle.layout.specs.Packed.{bit}
use Rattle.layout.proofs.grow.with_literal.Goals as goal

pub returns : goal.returns
returns c sh b e eb =
    let a = c.args in
    let h = contents a.p sh e in
    ap (λ (x : ℕ). more_literal a.p x a.b0 a.b1) eb
    ∙ ap (λ (p : Parsed). more_literal p (bit b) a.b0 a.b1) e
    ∙ literal_packed sh (record { equal = b; left = a.b0; right = a.b1 }) (omega arith)
