-- `solve::descend` meets its contract.
use mathlib.Core.Path.{sym, ◌∙◌}
use native.Mathlib.Omega.{arith}
use Rattle.logic.proofs.Decided.{decide_fewer}
use Rattle.solve.proofs.Branching.{code_decided, fit_mask, knowing_decided, tried_dead, tried_not, branches_dead, solved_less, solved_none}
use Rattle.solve.proofs.+descend.Goals as goal
use Rattle.solve.proofs.+descend.Goals.{then-worth+else-is_some, else-worth}

pub propagate-requires-clause-fit_mask : goal.propagate-requires-clause-fit_mask
propagate-requires-clause-fit_mask t c = fit_mask _ _ c.requires.searchable.sorted c.requires.small_sizes

pub descend-found-requires : goal.descend-found-requires
descend-found-requires t c =
    let b = c.in-Branch.ensures in
    let fewer = decide_fewer c.args.decided c.in-Branch.plan.term c.loop-v.v b.pending (code_decided _ c.loop-v-test.true b.small) in
    let known = knowing_decided _ _ _ c.args.decided _ c.in-Branch.plan.term c.loop-v.v c.in-Ok.ensures b.pending c.decide-next.ensures in
    (rw (c.decide-next.ensures, ← c.decreases) fewer, (c.requires.searchable, (c.requires.small_sizes, known)))

pub returns-then-is_some : goal.returns-then-is_some
returns-then-is_some t c =
    let b = c.in-Branch.ensures in
    solved_less _ _ c.args.decided _ c.in-Branch.plan.term c.loop-v.v _ b.pending c.decide-next.ensures (sym c.is_some.ensures ∙ c.if-is_some.true) c.descend-found.ensures

pub loop-v-preserved : goal.loop-v-preserved
loop-v-preserved t c =
    let k = c.loop-v.invariant in
    elim c.if-worth.branch [
      | then-worth+else-is_some w ↦ tried_dead _ _ c.args.decided c.in-Branch.plan _ k _ w.decide-next.ensures (solved_none _ _ _ _ (sym w.is_some.ensures ∙ w.if-is_some.false) w.descend-found.ensures)
      | else-worth w ↦ tried_not _ _ c.args.decided c.in-Branch.plan _ k (c.worth.ensures.no w.if-worth.false)
    ]

pub returns-after-loop-v : goal.returns-after-loop-v
returns-after-loop-v t c = branches_dead _ _ c.args.decided c.in-Branch.plan c.in-Branch.ensures (λ u h. let e = c.loop-v-test.false in c.loop-v.invariant u (omega arith))
