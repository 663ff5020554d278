-- `Known::join` meets its contract: the labels have the codes of the terms.
use mathlib.Core.Path.{sym, ◌∙◌}
use Rattle.knowledge.proofs.Keeping.{step}
use Rattle.knowledge.proofs.Known.join.Goals as goal

pub returns-then-a-b : goal.returns-then-a-b
returns-then-a-b c =
    let p = c.args in
    step (λ a e k. k.labels p.i c.if-i-ge-MOST_TERMS.false ∙ e ∙ sym (k.labels p.j c.if-j-ge-MOST_TERMS.false)) c.merge.ensures

pub returns-then-b-a : goal.returns-then-b-a
returns-then-b-a c =
    let p = c.args in
    step (λ a e k. k.labels p.j c.if-j-ge-MOST_TERMS.false ∙ sym e ∙ sym (k.labels p.i c.if-i-ge-MOST_TERMS.false)) c.merge-then-b-a.ensures
