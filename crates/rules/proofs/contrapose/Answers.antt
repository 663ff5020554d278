-- `rules::contrapose` meets its contract: were the pair left equal, the results would be.
use mathlib.Core.Path.{ap, ◌∙◌, sym}
use Rattle.knowledge.proofs.Keeping.{marked_step}
use Rattle.rules.proofs.Results.{results_differ}
use Rattle.rules.proofs.contrapose.Goals as goal

pub returns-then-x-y : goal.returns-then-x-y
returns-then-x-y c =
    let p = c.args in
    let one = c.wide in
    let two = c.wide-2 in
    let differ =
    results_differ p.terms p.known.now.labels p.known.now.masks p.known.now.marks p.i p.j c.requires
    c.if-terms-j.false c.if-f-g.false one.result two.result one.ensures.0 two.ensures.0 (c.apart.ensures (c.if-not-apart.false)) in
    marked_step (λ a s m e. differ a s m
    (sym (ap a c.wide-then-x-y.ensures.0 ∙ c.label-a.ensures.means a s.labels) ∙ e ∙ ap a c.wide-then-x-y-2.ensures.0 ∙ c.label-b.ensures.means a s.labels)
    (sym (c.label-x.ensures.means a s.labels) ∙ ap a c.if-x-y.true ∙ c.label-y.ensures.means a s.labels)) c.mark.ensures

pub returns-then-a-b : goal.returns-then-a-b
returns-then-a-b c =
    let p = c.args in
    let one = c.wide in
    let two = c.wide-2 in
    let differ =
    results_differ p.terms p.known.now.labels p.known.now.masks p.known.now.marks p.i p.j c.requires
    c.if-terms-j.false c.if-f-g.false one.result two.result one.ensures.0 two.ensures.0 (c.apart.ensures (c.if-not-apart.false)) in
    marked_step (λ a s m e. differ a s m
    (sym (c.label-a.ensures.means a s.labels) ∙ ap a c.if-a-b.true ∙ c.label-b.ensures.means a s.labels)
    (sym (ap a c.wide-then-a-b.ensures.0 ∙ c.label-x.ensures.means a s.labels) ∙ e ∙ ap a c.wide-then-a-b-2.ensures.0 ∙ c.label-y.ensures.means a s.labels)) c.mark-then-a-b.ensures
