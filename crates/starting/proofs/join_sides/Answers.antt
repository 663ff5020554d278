-- `starting::join_sides` meets its contract.
use mathlib.Core.Path.{ap, sym, ◌∙◌}
use Rattle.knowledge.proofs.Keeping.{step}
use native.Mathlib.Omega.{arith}
use Rattle.starting.proofs.join_sides.Goals as goal

pub returns-then-e-eq1 : goal.returns-then-e-eq1
returns-then-e-eq1 c =
    let k = c.args.k in
    step (λ a h n. ap a c.wide.ensures.0 ∙ h k (omega arith) c.if-e-eq1.true ∙ sym (ap a c.wide-then-e-eq1.ensures.0)) c.join.ensures
