-- `walk::stays_in` meets its contract. Each return is one law of proofs/Events.antt.
use mathlib.Core.Path.{sym, ◌∙◌}
use Rattle.walk.proofs.Events.{event_absent, event_gives_other, event_takes_other, event_decides}
use Rattle.walk.proofs.stays_in.Goals as goal

pub returns-then-p-symbol : goal.returns-then-p-symbol
returns-then-p-symbol c = let s = c.args in λ sh k. event_absent sh s.p k s.sort s.symbol c.if-p-symbol.true

pub returns-then-wide-sort : goal.returns-then-wide-sort
returns-then-wide-sort c =
    let s = c.args in
    λ sh k. event_gives_other sh s.p k s.sort s.symbol (λ e. c.if-wide-sort.true (c.wide.ensures.0 ∙ e))

pub returns-then-wide-sort-2 : goal.returns-then-wide-sort-2
returns-then-wide-sort-2 c =
    let s = c.args in
    λ sh k. event_takes_other sh s.p k s.sort s.symbol (λ e. c.if-wide-sort-2.true (c.wide-2.ensures.0 ∙ e))

pub returns : goal.returns
returns c =
    let takes = c in
    let gives = takes in
    let there = gives in
    let s = there.args in
    λ sh k.
    event_decides sh s.p k s.sort s.symbol there.if-p-symbol.false (sym gives.wide.ensures.0 ∙ gives.if-wide-sort.false) (sym takes.wide-2.ensures.0 ∙ takes.if-wide-sort-2.false)
