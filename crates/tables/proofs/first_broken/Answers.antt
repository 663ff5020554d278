-- `tables::first_broken` meets its contract. The first k statements hold; the first that does not is the reply.
use Prim.Native.Nat.{ℕ}
use native.Mathlib.Nat.{not-suc-le-zero}
use native.Mathlib.Omega.{arith}
use mathlib.Core.Path.{◌≡◌, refl, ap₂, sym, ◌∙◌}
use lib.Dec.{eqb}
use Rattle.prelude.specs.Lists.{at}
use Rattle.tables.specs.Tests.{agree}
use Rattle.tables.proofs.Statements.{hold_broken, hold_more, hold_all}
use Rattle.tables.proofs.first_broken.Goals as goal

pub loop-k-init : goal.loop-k-init
loop-k-init c = (omega arith, refl, λ sh k j h. absurd (not-suc-le-zero h))

pub returns-then-not-agrees : goal.returns-then-not-agrees
returns-then-not-agrees c =
    let s = c.args in
    let l = c.loop-k in
    let r = c.agrees in
    let e = ap₂ (λ (x y : ℕ). agree (eqb (at s.p.equal l.k) 1) (eqb (at s.codes x) (at s.codes y))) (sym c.wide-a.ensures.0) (sym c.wide-b.ensures.0) ∙ sym r.ensures in
    hold_broken s.p (at s.codes) l.k l.invariant.2 (omega arith) (e ∙ c.if-not-agrees.true)

pub loop-k-preserved : goal.loop-k-preserved
loop-k-preserved c =
    let s = c.args in
    let l = c.loop-k in
    let r = c.agrees in
    let e = ap₂ (λ (x y : ℕ). agree (eqb (at s.p.equal l.k) 1) (eqb (at s.codes x) (at s.codes y))) (sym c.wide-a.ensures.0) (sym c.wide-b.ensures.0) ∙ sym r.ensures in
    (omega arith, refl, hold_more s.p (at s.codes) l.k l.invariant.2 (omega arith) (e ∙ c.if-not-agrees.false))

pub returns : goal.returns
returns c =
    let s = c.args in
    let l = c.loop-k in
    let e : l.k ≡ s.p.literals = omega arith in
    hold_all s.p (at s.codes) (rw e at l.invariant.2)
