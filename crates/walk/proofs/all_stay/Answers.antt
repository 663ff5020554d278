-- `walk::all_stay` meets its contract. Every event so far stays in the sort; the first that does not makes the test false.
use native.Mathlib.Omega.{arith}
use mathlib.Core.Path.{◌≡◌, refl, ap, sym, ◌∙◌}
use lib.ListN.{length}
use Rattle.prelude.proofs.Tests.{false_every, every_more}
use Rattle.walk.specs.Walk.{stays_in}
use Rattle.walk.proofs.all_stay.Goals as goal

pub loop-event-init : goal.loop-event-init
loop-event-init c sh q = refl

pub returns-then-not-stays_in : goal.returns-then-not-stays_in
returns-then-not-stays_in c sh q =
    let l = c.loop-event in
    let s = c.args in
    sym (false_every (length s.events.now) _ l.event-index (omega arith)
    (ap (stays_in sh s.sort) (sym c.wide.ensures.0) ∙ sym (c.stays_in.ensures sh q) ∙ c.if-not-stays_in.true))

pub loop-event-preserved : goal.loop-event-preserved
loop-event-preserved c sh q =
    let l = c.loop-event in
    let s = c.args in
    every_more l.event-index _ (l.invariant sh q)
    (ap (stays_in sh s.sort) (sym c.wide.ensures.0) ∙ sym (c.stays_in.ensures sh q) ∙ c.if-not-stays_in.false)

pub returns : goal.returns
returns c sh q =
    let e : c.loop-event.event-index ≡ length c.args.events.now = omega arith in
    sym (rw e at (c.loop-event.invariant sh q))
