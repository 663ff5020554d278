-- The invariant: a fill is of the symbol exactly when one from here on is.
use Prim.Native.Nat.{◌+◌}
use native.Mathlib.Omega.{arith}
use mathlib.Core.Path.{refl, ap, sym, ◌∙◌}
use mathlib.Core.Bool.{Bool, ◌||◌}
use lib.ListN.{drop}
use borrow.Author.Tests.{eq-eqb, ne_eqb}
use Rattle.layout.specs.Layout.{is_filled}
use Rattle.layout.proofs.Pack.{contents}
use Rattle.layout.proofs.Terms.{filled_step, filled_end}
use Rattle.layout.proofs.fills.is_filled.Goals as goal

pub loop-k-init : goal.loop-k-init
loop-k-init c = (omega arith, λ q. refl)

pub bounds-p-k : goal.bounds-p-k
bounds-p-k c =
    let m = c in
    let q = m.requires in
    let h = contents m.args.p q.sheet q.same in
    let n = q.sofar.fills in
    omega arith

pub returns-then-p-k : goal.returns-then-p-k
returns-then-p-k c q =
    let l = c in
    let a = l.args in
    sym
    (l.loop-k.invariant.1 q
    ∙ filled_step a.p q a.symbol l.loop-k.k c.loop-k-test.true
    ∙ ap (λ (b : Bool). b || is_filled a.symbol (drop (l.loop-k.k + 1) q.sheet.fills)) (eq-eqb _ _ c.if-p-k.true))

pub loop-k-preserved : goal.loop-k-preserved
loop-k-preserved c = (
  omega arith,
  λ q.
      let l = c in
      let a = l.args in
      l.loop-k.invariant.1 q
      ∙ filled_step a.p q a.symbol l.loop-k.k c.loop-k-test.true
      ∙ ap (λ (b : Bool). b || is_filled a.symbol (drop (l.loop-k.k + 1) q.sheet.fills)) (ne_eqb _ _ c.if-p-k.false),
)

pub returns : goal.returns
returns c q =
    let m = c in
    sym (c.loop-k.invariant.1 q ∙ filled_end m.args.p q m.args.symbol c.loop-k.k c.loop-k-test.false)
