-- `propagate::round` meets its contract: one rule after the other.
use Rattle.knowledge.proofs.Keeping.{chain, in_masks}
use Rattle.propagate.proofs.Knowing.{struck, marked}
use Rattle.propagate.proofs.round.Goals as goal

pub returns-then-strike_marked-joins : goal.returns-then-strike_marked-joins
returns-then-strike_marked-joins c = struck c.join_moved-joins.ensures c.join_singles-joins.ensures c.strike_marked.ensures

pub returns-then-mark_arguments : goal.returns-then-mark_arguments
returns-then-mark_arguments c = marked (struck c.join_moved-joins.ensures c.join_singles-joins.ensures c.strike_marked.ensures) c.mark_arguments.ensures

pub returns : goal.returns
returns c =
    chain (marked (struck c.join_moved-joins.ensures c.join_singles-joins.ensures c.strike_marked.ensures) c.mark_arguments.ensures)
    (in_masks (λ _ l k. record { lawful = l; knows = k }) c.strike_crowds.ensures)
