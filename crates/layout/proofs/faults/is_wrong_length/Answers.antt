-- The table has the shortest and the longest length.
use mathlib.Core.Path.{◌∙◌}
use Rattle.layout.proofs.Causes.{too_short_lem, too_long}
use Rattle.layout.proofs.faults.is_wrong_length.Goals as goal

pub returns-then-len-wide : goal.returns-then-len-wide
returns-then-len-wide c =
    let a = c.args in
    too_short_lem a.kind a.len c.wide.result
    (c.wide.ensures.0 ∙ c.shortest_of.ensures) c.if-len-wide.true

pub returns : goal.returns
returns c =
    let a = c.args in
    too_long a.kind a.len c.wide.result c.wide-2.result
    (c.wide.ensures.0 ∙ c.shortest_of.ensures)
    (c.wide-2.ensures.0 ∙ c.longest_of.ensures) c.if-len-wide.false
