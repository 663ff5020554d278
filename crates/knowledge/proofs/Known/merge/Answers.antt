-- `Known::merge` meets its contract: each of the three arrays in turn.
use mathlib.Core.Path.{ap, sym, ◌∙◌, subst}
use Rattle.knowledge.specs.Knows.{Bit}
use Rattle.knowledge.proofs.Keeping.{chain, in_masks, in_marks}
use Rattle.knowledge.proofs.Known.merge.Goals as goal

pub returns : goal.returns
returns c =
    let to = c.wide-3.ensures.0 in
    let mask = c.mask-s in
    let from = c.wide-2.ensures.0 in
    chain c.relabel.ensures
    (chain (in_masks (λ x e k g. mask.ensures.means x k.masks (subst (Bit mask.result) (ap x to ∙ e ∙ sym (ap x from)) g)) c.strike.ensures)
    (in_marks (λ x e k. e) c.unite_rows.ensures))
