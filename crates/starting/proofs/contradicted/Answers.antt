-- `starting::contradicted` meets its contract: a code of the group would be struck out, or differ from itself.
use mathlib.Core.Path.{refl}
use Rattle.knowledge.proofs.Bits.{bit_full}
use Rattle.starting.proofs.contradicted.Goals as goal

pub returns-then-mask : goal.returns-then-mask
returns-then-mask c =
    let i = c.args.i in
    λ e. record { means = λ a s. c.mask.ensures.means a s.masks (rw c.if-mask.true (bit_full (a i) (s.small i))) }

pub returns : goal.returns
returns c = λ e. record { means = λ a s. (c.marked.ensures e).means a s.marks refl }
