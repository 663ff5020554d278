-- The sorts of the arguments and the parameters are compared one by one.
use Prim.Native.Nat.{ℕ}
use native.Mathlib.Omega.{arith}
use mathlib.Core.Path.{refl, ap, sym, ◌∙◌}
use mathlib.Core.Bool.{Bool, not, ◌&&◌, cond}
use lib.Dec.{ltb, eqb}
use mathlib.Core.List.{◌∷◌}
use lib.ListN.{get_or}
use borrow.Author.Tests.{eq-eqb, ne_eqb}
use Rattle.layout.specs.Layout.{expression, ill_sorted}
use Rattle.layout.proofs.Pack.{contents}
use Rattle.layout.proofs.AtMostTwo.{args_of, front, args_few, args_first, args_second, all_below}
use Rattle.layout.proofs.Terms.{ill_sorted_by}
use Rattle.layout.proofs.faults.is_ill_sorted.Goals as goal

pub sort_of-requires : goal.sort_of-requires
sort_of-requires c =
    let a = c.args in
    let k = c.requires.part_read in
    let h = contents a.p k.sheet k.same in
    let n = k.sofar.terms in
    let m = k.sofar.symbols in
    omega arith

pub bounds-p-f : goal.bounds-p-f
bounds-p-f c =
    let a = c.args in
    let k = c.requires.part_read in
    let h = contents a.p k.sheet k.same in
    let n = k.sofar.terms in
    let m = k.sofar.symbols in
    omega arith

pub returns-then-sort_of-p : goal.returns-then-sort_of-p
returns-then-sort_of-p c k =
    let a = c.args in
    let t = cond (ltb a.q.b2 a.p.terms) (get_or a.p.sort a.q.b2 0) 255 in
    sym
    (ap (λ (b : Bool). not (b && eqb t (get_or a.p.param1 c.wide-f.result 0)))
    (ne_eqb c.sort_of.result (get_or a.p.param0 c.wide-f.result 0)
    c.if-sort_of-p.true))
    ∙ ill_sorted_by a.p k c.wide-f.result (args_of a.q) a.q.b1 a.q.b2
    c.sort_of.result t (omega arith) (args_few a.q)
    (all_below a.p.terms (args_of a.q) c.requires.b0_lt_symbols.1)
    (args_first a.q)
    (args_second a.q) c.sort_of.ensures refl
    ∙ ap (λ (x : ℕ). ill_sorted k.sheet expression (x ∷ args_of a.q)) c.wide-f.ensures.0
    ∙ sym (ap (ill_sorted k.sheet expression) (front a.q))

pub sort_of-requires-2 : goal.sort_of-requires-2
sort_of-requires-2 c =
    let a = c.args in
    let k = c.requires.part_read in
    let h = contents a.p k.sheet k.same in
    let n = k.sofar.terms in
    let m = k.sofar.symbols in
    omega arith

pub bounds-p-f-2 : goal.bounds-p-f-2
bounds-p-f-2 c =
    let a = c.args in
    let k = c.requires.part_read in
    let h = contents a.p k.sheet k.same in
    let n = k.sofar.terms in
    let m = k.sofar.symbols in
    omega arith

pub returns : goal.returns
returns c k =
    let a = c.args in
    sym
    (ap
    (λ (b : Bool).
    not
    (b && eqb c.sort_of-2.result
    (get_or a.p.param1 c.wide-f.result 0)))
    (eq-eqb c.sort_of.result
    (get_or a.p.param0 c.wide-f.result 0) c.if-sort_of-p.false))
    ∙ ill_sorted_by a.p k c.wide-f.result (args_of a.q) a.q.b1 a.q.b2
    c.sort_of.result c.sort_of-2.result (omega arith)
    (args_few a.q)
    (all_below a.p.terms (args_of a.q) c.requires.b0_lt_symbols.1)
    (args_first a.q)
    (args_second a.q)
    c.sort_of.ensures c.sort_of-2.ensures
    ∙ ap (λ (x : ℕ). ill_sorted k.sheet expression (x ∷ args_of a.q))
    c.wide-f.ensures.0
    ∙ sym (ap (ill_sorted k.sheet expression) (front a.q))
