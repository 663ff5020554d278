-- `Known::mark` meets its contract.
use Rattle.knowledge.proofs.Keeping.{marked_chain, marked_step, differ_sym}
use Rattle.knowledge.proofs.Known.mark.Goals as goal

pub returns : goal.returns
returns c =
    let p = c.args in
    marked_chain c.mark_one.ensures (marked_step (λ a d m. differ_sym p.a p.b a d) c.mark_one-2.ensures)
