-- `Known::apart` meets its contract.
use borrow.Author.Tests.{eqb-true}
use lib.Bits.{bit_or}
use Rattle.knowledge.proofs.Keeping.{masks_apart}
use Rattle.knowledge.proofs.Known.apart.Goals as goal

pub returns-then-marked : goal.returns-then-marked
returns-then-marked c = λ _. record { means = λ a k. (c.marked.ensures c.if-marked.true).means a k.1.1 }

pub returns : goal.returns
returns c =
    let p = c.args in
    let x = c.mask in
    let y = c.mask-2 in
    λ e. record {
      means = λ a k. masks_apart x.result y.result p.a p.b (eqb-true (bit_or x.result y.result) 65535 e) a k.0 (x.ensures.means a k.1.0) (y.ensures.means a k.1.0);
    }
