-- `congruence::stated` meets its contract. The same statements below k hold of the labels.
use mathlib.Core.Path.{◌≡◌}
use Rattle.layout.specs.Packed.{view}
use Rattle.congruence.proofs.Sweeps.{stated_none, stated_same, stated_differ}
use native.Mathlib.Omega.{arith}
use Rattle.congruence.proofs.stated.Goals as goal
use Rattle.congruence.proofs.stated.Goals.{then-p-k-eq1, else-p-k-eq1}

pub loop-k-init : goal.loop-k-init
loop-k-init c = (omega arith, stated_none _ _)

pub joined-next-requires : goal.joined-next-requires
joined-next-requires c =
    let m = c in
    let k = m.loop-k.k in
    let fits = m.requires in
    let n = fits.terms in
    (omega (arith, fits.left k (omega arith), c.wide-left.ensures.0), omega (arith, fits.right k (omega arith), c.wide-right.ensures.0))

pub loop-k-preserved : goal.loop-k-preserved
loop-k-preserved c =
    let m = c in
    let p = m.args.p in
    let fits = m.requires in
    let k = m.loop-k.k in
    let inv = m.loop-k.invariant in
    elim c.if-p-k-eq1.branch [
      | then-p-k-eq1 w ↦ (omega arith, rw w.out-is (stated_same (view p) fits k (omega arith) _ _ inv.1 _ _ _ w.if-p-k-eq1.true w.wide-left.ensures.0 w.wide-right.ensures.0 w.joined-next.ensures))
      | else-p-k-eq1 w ↦ (omega arith, rw w.out-is (stated_differ (view p) fits k (omega arith) _ _ inv.1 w.if-p-k-eq1.false))
    ]

pub returns : goal.returns
returns c =
    let m = c in
    let full : m.loop-k.k ≡ m.args.p.literals = omega arith in
    (m.loop-k.invariant.1.step, λ k b. m.loop-k.invariant.1.stated k (omega arith))
