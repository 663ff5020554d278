-- The invariant: the term occurs exactly when it occurs from here on.
use Prim.Native.Nat.{◌+◌}
use native.Mathlib.Omega.{arith}
use mathlib.Core.Path.{refl, ap, sym, ◌∙◌}
use mathlib.Core.Bool.{Bool, ◌||◌}
use lib.ListN.{drop}
use Rattle.layout.specs.Layout.{occurs}
use Rattle.layout.proofs.Pack.{contents}
use Rattle.layout.proofs.AtMostTwo.{args_of, args_pair, args_first, args_second}
use Rattle.layout.proofs.Terms.{occurs_step, occurs_end}
use Rattle.layout.proofs.faults.is_repeated.Goals as goal

pub loop-i-init : goal.loop-i-init
loop-i-init c = (omega arith, λ k. refl)

pub bounds-p-i : goal.bounds-p-i
bounds-p-i c =
    let a = c.args in
    let k = c.requires.part_read in
    let h = contents a.p k.sheet k.same in
    let n = k.sofar.terms in
    omega arith

pub bounds-p-i-in-loop-i : goal.bounds-p-i-in-loop-i
bounds-p-i-in-loop-i c =
    let a = c.args in
    let k = c.requires.part_read in
    let h = contents a.p k.sheet k.same in
    let n = k.sofar.terms in
    omega arith

pub bounds-p-i-in-loop-i-2 : goal.bounds-p-i-in-loop-i-2
bounds-p-i-in-loop-i-2 c =
    let a = c.args in
    let k = c.requires.part_read in
    let h = contents a.p k.sheet k.same in
    let n = k.sofar.terms in
    omega arith

pub returns-then-is_same : goal.returns-then-is_same
returns-then-is_same c k =
    let a = c.args in
    sym
    (c.loop-i.invariant.1 k
    ∙ occurs_step a.p k a.q.b0 (args_of a.q) a.q.b1 a.q.b2 c.is_same.result
    c.loop-i.i
    (args_pair a.q a.p.terms
    (let h = contents a.p k.sheet k.same in let n = k.sofar.terms in omega arith)
    c.requires.q_value)
    (args_first a.q)
    (args_second a.q)
    c.loop-i-test.true c.is_same.ensures
    ∙ ap
    (λ (b : Bool).
    b ||
    (occurs a.q.b0 (args_of a.q)
    (drop (c.loop-i.i + 1) k.sheet.terms))) c.if-is_same.true)

pub loop-i-preserved : goal.loop-i-preserved
loop-i-preserved c = (
  omega arith,
  λ k.
      let a = c.args in
      c.loop-i.invariant.1 k
      ∙ occurs_step a.p k a.q.b0 (args_of a.q) a.q.b1 a.q.b2 c.is_same.result
      c.loop-i.i
      (args_pair a.q a.p.terms
      (let h = contents a.p k.sheet k.same in let n = k.sofar.terms in omega arith)
      c.requires.q_value)
      (args_first a.q)
      (args_second a.q)
      c.loop-i-test.true c.is_same.ensures
      ∙ ap
      (λ (b : Bool).
      b ||
      (occurs a.q.b0 (args_of a.q)
      (drop (c.loop-i.i + 1) k.sheet.terms))) c.if-is_same.false,
)

pub returns : goal.returns
returns c k =
    let a = c.args in
    sym (c.loop-i.invariant.1 k ∙ occurs_end a.p k a.q.b0 (args_of a.q) c.loop-i.i c.loop-i-test.false)
