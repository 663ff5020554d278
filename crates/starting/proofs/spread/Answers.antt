-- `starting::spread` meets its contract.
use Rattle.knowledge.proofs.Keeping.{label_code}
use Rattle.starting.proofs.Masks.{masks_none, masks_put}
use native.Mathlib.Omega.{arith}
use Rattle.starting.proofs.spread.Goals as goal

pub loop-i-init : goal.loop-i-init
loop-i-init c = record { means = λ a g. masks_none 128 a }

pub loop-i-preserved : goal.loop-i-preserved
loop-i-preserved c =
    let h = c.loop-i in
    let l = c.args.known.now.labels in
    record {
      means = λ a g. masks_put h.out h.i c.mask.result a (h.invariant.means a g) (λ b. c.mask.ensures.means a g.masks (rw ((label_code l h.i _ (omega arith) c.wide.ensures.0).means a g.labels) b));
    }
