-- The total.
use Prim.Native.Nat.{ℕ}
use mathlib.Core.Path.{ap, ◌∙◌}
use Rattle.layout.specs.declared.Parsed.{Parsed}
use Rattle.layout.proofs.Pack.{more_total, total_packed}
use Rattle.layout.proofs.grow.with_total.Goals as goal

pub returns : goal.returns
returns c sh e =
    let a = c.args in
    ap (λ (x : ℕ). more_total a.p x) c.wide.ensures.0
    ∙ ap (λ (p : Parsed). more_total p a.b0) e
    ∙ total_packed sh a.b0
