-- `starting::mark_sides` meets its contract.
use mathlib.Core.Path.{ap, sym, ◌∙◌}
use Rattle.knowledge.proofs.Keeping.{marked_step}
use native.Mathlib.Omega.{arith}
use Rattle.starting.proofs.mark_sides.Goals as goal

pub returns-then-e-eq0 : goal.returns-then-e-eq0
returns-then-e-eq0 c =
    let k = c.args.k in
    let left = c.label-a.ensures in
    let right = c.label-b.ensures in
    marked_step (λ a d n e. d.differ k (omega arith) c.if-e-eq0.true
    (sym (ap a c.wide.ensures.0 ∙ left.means a d.labels) ∙ e ∙ ap a c.wide-then-e-eq0.ensures.0 ∙ right.means a d.labels)) c.mark.ensures
