-- `rules::same_code` meets its contract: both terms have the one code that is left to them.
use mathlib.Core.Path.{◌∙◌, sym}
use Rattle.knowledge.proofs.Keeping.{step}
use Rattle.rules.proofs.same_code.Goals as goal

pub returns : goal.returns
returns c =
    let p = c.args in
    let one = c.in-Some.ensures.1 in
    let two = c.in-Some-single.ensures.1 in
    step (λ a s k. one.only (a p.i) (s p.i) (c.mask.ensures.means a k.masks) ∙ sym c.if-u-v.false ∙ sym (two.only (a p.j) (s p.j) (c.mask-2.ensures.means a k.masks))) c.join.ensures
