-- `rules::strike_row` meets its contract: the group's code is the one that is left to it, and each k that is handed out is marked against it.
use Rattle.knowledge.proofs.Keeping.{struck_none, struck_step, struck_chain}
use Rattle.knowledge.proofs.Handing.{all_left, handed_marked, handed_left}
use Rattle.rules.proofs.strike_row.Goals as goal

pub loop-k-init : goal.loop-k-init
loop-k-init c = (
  c.in-Some.ensures.0,
  struck_none,
  rw c.into_iter-k-iterator.ensures.into_iter_gives (all_left (c.columns-k-items.ensures.row c.requires) c.columns-k-items.ensures.halves.0 c.columns-k-items.ensures.halves.1),
)

pub strike_one-news-requires : goal.strike_one-news-requires
strike_one-news-requires c =
    let i = c.loop-k.invariant in
    record { code = i.0; marked = rw i.1.marks (handed_marked c.in-Some-k.ensures.steps i.2) }

pub loop-k-preserved : goal.loop-k-preserved
loop-k-preserved c =
    let i = c.loop-k.invariant in
    (i.0, struck_chain i.1 (rw (← i.1.marks) c.strike_one-news.ensures), handed_left c.in-Some-k.ensures.steps i.2)

pub returns : goal.returns
returns c =
    let g = c.args.g in
    let one = c.in-Some.ensures.1 in
    struck_step (λ a t w. record { code = one.only (a g) (t.small g) (c.mask.ensures.means a w); marks = t.marks }) c.loop-k.invariant.1
