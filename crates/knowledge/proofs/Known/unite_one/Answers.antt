-- `Known::unite_one` meets its contract.
use mathlib.Core.Path.{ap, sym, ◌∙◌}
use Rattle.knowledge.proofs.Keeping.{marked_step}
use Rattle.knowledge.proofs.Known.unite_one.Goals as goal

pub returns-then-marked : goal.returns-then-marked
returns-then-marked c =
    marked_step (λ x e k d. (c.marked.ensures c.if-marked.true).means x k (ap x c.wide.ensures.0 ∙ sym e ∙ sym (ap x c.wide-then-marked.ensures.0) ∙ d)) c.mark.ensures
