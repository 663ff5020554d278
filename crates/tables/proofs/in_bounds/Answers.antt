-- `tables::in_bounds` meets its contract. The first s sorts are in bounds, and the sum of their sizes is kept.
use native.Mathlib.Omega.{arith}
use mathlib.Core.Path.{◌≡◌, refl, sym}
use Rattle.prelude.specs.Lists.{at}
use Rattle.tables.proofs.Bounds.{bounds_none, bounds_floor, bounds_ceiling, bounds_more, bounds_all}
use Rattle.tables.proofs.in_bounds.Goals as goal

pub loop-s-init : goal.loop-s-init
loop-s-init c = (omega arith, refl, omega arith, bounds_none c.args.p (at c.args.sizes))

pub returns-then-size-floor : goal.returns-then-size-floor
returns-then-size-floor c =
    let s = c.args in
    let l = c.loop-s in
    λ sh k. sym (bounds_floor sh s.p (at s.sizes) l.s k (omega arith) (omega (arith, c.wide-size.ensures, c.wide-floor.ensures)))

pub returns-then-ceiling-size : goal.returns-then-ceiling-size
returns-then-ceiling-size c =
    let s = c.args in
    let l = c.loop-s in
    λ sh k. sym (bounds_ceiling sh s.p (at s.sizes) l.s k (omega arith) (omega (arith, c.wide-size.ensures, c.wide-ceiling.ensures)))

pub loop-s-preserved : goal.loop-s-preserved
loop-s-preserved c =
    let s = c.args in
    let l = c.loop-s in
    let size = c.wide-size.ensures in
    (omega arith, refl, omega arith, rw size.0 (bounds_more s.p (at s.sizes) l.s l.sum l.invariant.3 (omega arith) (omega (arith, c.wide-floor.ensures)) (omega (arith, c.wide-ceiling.ensures))))

pub returns : goal.returns
returns c =
    let s = c.args in
    let l = c.loop-s in
    let e : l.s ≡ s.p.sorts = omega arith in
    bounds_all s.p (at s.sizes) l.sum (rw e at l.invariant.3)
