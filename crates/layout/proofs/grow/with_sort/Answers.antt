-- An entry more in the arrays of the sorts.
use native.Mathlib.Omega.{arith}
use mathlib.Core.Path.{ap, ◌∙◌}
use Rattle.layout.specs.declared.Parsed.{Parsed}
use Rattle.layout.proofs.Pack.{contents, more_bound, bound_packed}
use Rattle.layout.proofs.grow.with_sort.Goals as goal

pub returns : goal.returns
returns c sh e =
    let a = c.args in
    let h = contents a.p sh e in
    ap (λ (p : Parsed). more_bound p (record { floor = a.b0; ceiling = a.b1 })) e
    ∙ bound_packed sh (record { floor = a.b0; ceiling = a.b1 }) (omega arith)
