-- `least_sizes::look` meets its contract, way out by way out.
use native.Mathlib.Omega.{arith}
use Rattle.least_sizes.proofs.Regions.{look_past, look_ahead, look_found}
use Rattle.least_sizes.proofs.look.Goals as goal
use Rattle.least_sizes.proofs.look.Goals.{in-Some+else-ahead, in_default}

pub returns-then-bound-sum_of : goal.returns-then-bound-sum_of
returns-then-bound-sum_of c =
    let h = c.if-bound-sum_of.true in
    let e = c.sum_of.ensures in
    look_past _ _ _ _ _ c.requires.contender (omega arith)

pub returns-then-ahead : goal.returns-then-ahead
returns-then-ahead c =
    rw c.in-Some.is
    (look_ahead _ _ _ _ _ (rw c.in-Some.is at c.requires.contender) (c.ahead.ensures.yes c.if-ahead.true))

pub returns-then-probe : goal.returns-then-probe
returns-then-probe c =
    let h = c.if-bound-sum_of.false in
    let e = c.sum_of.ensures in
    look_found _ _ _ _ _ c.requires.region c.requires.bound_le_total (omega arith) (c.probe.ensures.yes c.if-probe.true)
    (elim c.match-best.branch [
      | in-Some+else-ahead w ↦ rw w.in-Some.is (w.ahead.ensures.no w.if-ahead.false)
      | in_default w ↦ rw w.in_default.is tt
    ])

pub widen-requires-clause-barren : goal.widen-requires-clause-barren
widen-requires-clause-barren c = c.probe.ensures.no c.if-probe.false
