-- `congruence::sweep` meets its contract. Where no label has changed, the terms below j have the labels of their twins.
use mathlib.Core.Path.{◌≡◌}
use Rattle.layout.specs.Packed.{view}
use Rattle.congruence.proofs.Sweeps.{swept_none, swept_more, swept_all}
use native.Mathlib.Omega.{arith}
use Rattle.congruence.proofs.sweep.Goals as goal

pub loop-j-init : goal.loop-j-init
loop-j-init c = (omega arith, swept_none _ _)

pub loop-j-preserved : goal.loop-j-preserved
loop-j-preserved c =
    let m = c in
    let p = m.args.p in
    let n = m.requires in
    (omega arith, swept_more (view p) n _ _ _ _ _ (omega arith) m.loop-j.invariant.1 c.twin-t.ensures c.joined-next.ensures)

pub returns : goal.returns
returns c =
    let m = c in
    let p = m.args.p in
    let n = m.requires in
    let full : m.loop-j.j ≡ p.terms = omega arith in
    swept_all (view p) n _ _ (rw full at m.loop-j.invariant.1)
