-- `rules::congruent` meets its contract: equal labels are equal codes of the arguments.
use mathlib.Core.Path.{ap, ◌∙◌, sym}
use Rattle.knowledge.proofs.Keeping.{step}
use Rattle.rules.proofs.congruent.Goals as goal

pub returns : goal.returns
returns c =
    let p = c.args in
    step (λ a g k. g p.i p.j c.requires c.if-terms-j.false c.if-f-g.false
    (sym (c.label.ensures.means a k.labels) ∙ ap a c.if-label.false ∙ c.label-2.ensures.means a k.labels)
    (sym (c.label-3.ensures.means a k.labels) ∙ ap a c.if-label-2.false ∙ c.label-4.ensures.means a k.labels)) c.join.ensures
