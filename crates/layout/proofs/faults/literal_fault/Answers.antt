-- Each return is a case of `later`.
use Prim.Native.Nat.{ℕ}
use lib.ListN.{get_or}
use native.Mathlib.Omega.{arith}
use mathlib.Core.Path.{ap, sym, ◌∙◌}
use Rattle.prelude.specs.Causes.{tested}
use Rattle.layout.proofs.Pack.{contents}
use Rattle.layout.proofs.Causes.{literal_many, literal_left, literal_right, literal_fine, literal_sides}
use Rattle.layout.proofs.faults.literal_fault.Goals as goal

pub returns-then-p-ge-MOST_LITERALS : goal.returns-then-p-ge-MOST_LITERALS
returns-then-p-ge-MOST_LITERALS c k =
    ap tested (
    let a = c.args in
    let h = contents a.p k.sheet k.same in literal_many k.sheet a.b0 a.b1 (omega arith))

pub returns-then-p-l : goal.returns-then-p-l
returns-then-p-l c k =
    ap tested (
    let a = c.args in
    let h = contents a.p k.sheet k.same in literal_left k.sheet a.b0 a.b1 (omega arith) (omega arith))

pub returns-then-p-r : goal.returns-then-p-r
returns-then-p-r c k =
    ap tested (
    let a = c.args in
    let h = contents a.p k.sheet k.same in
    literal_right k.sheet a.b0 a.b1 (omega arith) (omega arith) (omega arith))

pub bounds-p-l : goal.bounds-p-l
bounds-p-l c =
    let a = c.args in
    let k = c.requires in
    let h = contents a.p k.sheet k.same in
    let n = k.sofar.terms in
    omega arith

pub bounds-p-r : goal.bounds-p-r
bounds-p-r c =
    let a = c.args in
    let k = c.requires in
    let h = contents a.p k.sheet k.same in
    let n = k.sofar.terms in
    omega arith

pub returns-then-p-l-2 : goal.returns-then-p-l-2
returns-then-p-l-2 c k =
    ap tested (
    let a = c.args in
    let h = contents a.p k.sheet k.same in
    literal_fine k.sheet a.b0 a.b1 (omega arith) (omega arith) (omega arith)
    (sym
    (ap (λ (i : ℕ). get_or a.p.sort i 0) c.wide-l.ensures.0
    ∙ h.sort a.b0 (omega arith))
    ∙ c.if-p-l-2.true
    ∙ (ap (λ (i : ℕ). get_or a.p.sort i 0) c.wide-r.ensures.0
    ∙ h.sort a.b1 (omega arith))))

pub returns : goal.returns
returns c k =
    ap tested (
    let a = c.args in
    let h = contents a.p k.sheet k.same in
    literal_sides k.sheet a.b0 a.b1 (omega arith) (omega arith) (omega arith)
    (λ z.
    c.if-p-l-2.false
    ((ap (λ (i : ℕ). get_or a.p.sort i 0) c.wide-l.ensures.0
    ∙ h.sort a.b0 (omega arith))
    ∙ z
    ∙ sym
    (ap (λ (i : ℕ). get_or a.p.sort i 0) c.wide-r.ensures.0
    ∙ h.sort a.b1 (omega arith)))))
