-- `rules::strike_one` meets its contract: with the code v the term would not differ from g.
use mathlib.Core.Path.{◌∙◌, sym}
use Rattle.knowledge.proofs.Keeping.{struck_step}
use Rattle.knowledge.proofs.Bits.{bit_pow, shl_one}
use native.Mathlib.Omega.{arith}
use Rattle.rules.proofs.strike_one.Goals as goal

pub returns : goal.returns
returns c =
    let p = c.args in
    struck_step (λ a g w b. c.requires.marked.means a g.marks (g.code ∙ sym (bit_pow p.v (a p.k) (rw (shl_one p.v 16 (omega arith)) at b)))) c.strike.ensures
