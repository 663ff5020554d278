-- `Known::relabel` meets its contract: a turn stores a label of the same code.
use Rattle.knowledge.proofs.Keeping.{chain, step, in_labels, labels_set}
use mathlib.Core.Path.{◌∙◌}
use Rattle.knowledge.proofs.Known.relabel.Goals as goal

pub loop-k-preserved : goal.loop-k-preserved
loop-k-preserved c =
    let h = c.loop-k in
    chain h.invariant (in_labels (step (λ a e l. c.new_label.ensures.means a e ∙ l h.k c.loop-k-test.true) (labels_set h.self.labels h.k c.new_label.result)))
