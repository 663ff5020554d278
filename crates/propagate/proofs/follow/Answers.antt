-- `propagate::follow` meets its contract.
use Rattle.knowledge.proofs.Keeping.{step, chain, in_masks}
use Rattle.propagate.proofs.follow.Goals as goal

pub returns : goal.returns
returns c =
    chain (in_masks (λ _ x k. record { small = x.lawful.small; labels = k.labels; range = x.range; fixed = x.fixed }) c.start_masks.ensures)
    (step (λ _ x _. x.lawful) c.rounds.ensures)
