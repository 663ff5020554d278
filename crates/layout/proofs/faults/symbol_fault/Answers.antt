-- Each return is a case of `later`.
use Prim.Native.Nat.{ℕ}
use native.Mathlib.Omega.{arith}
use mathlib.Core.Path.{ap, sym, ◌∙◌}
use lib.Dec.{ltb}
use Rattle.prelude.specs.Tests.{all}
use Rattle.prelude.specs.Causes.{tested}
use Rattle.layout.specs.Layout.{name}
use Rattle.layout.specs.Parts.{later}
use Rattle.layout.proofs.Causes.{name_many, name_result, name_params, name_fine}
use Rattle.layout.proofs.AtMostTwo.{args_of, front}
use Rattle.layout.proofs.faults.symbol_fault.Goals as goal

pub returns-then-symbols-ge-MOST_SYMBOLS : goal.returns-then-symbols-ge-MOST_SYMBOLS
returns-then-symbols-ge-MOST_SYMBOLS c sh e e' =
    ap tested (
    let a = c.args in
    name_many sh a.q.b0 (args_of a.q) (omega arith) ∙ sym (ap (later sh name) (front a.q)))

pub returns-then-sorts-wide : goal.returns-then-sorts-wide
returns-then-sorts-wide c sh e e' =
    ap tested (
    let a = c.args in
    name_result sh a.q.b0 (args_of a.q) (omega arith) (omega arith)
    ∙ sym (ap (later sh name) (front a.q)))

pub returns-then-not-rest_below : goal.returns-then-not-rest_below
returns-then-not-rest_below c sh e e' =
    ap tested (
    let a = c.args in
    name_params sh a.q.b0 (args_of a.q) (omega arith) (omega arith)
    (ap (λ (n : ℕ). all (λ s. ltb s n) (args_of a.q)) (sym e')
    ∙ sym c.rest_below.ensures
    ∙ c.if-not-rest_below.true)
    ∙ sym (ap (later sh name) (front a.q)))

pub returns : goal.returns
returns c sh e e' =
    ap tested (
    let a = c.args in
    name_fine sh a.q.b0 (args_of a.q) (omega arith) (omega arith)
    (ap (λ (n : ℕ). all (λ s. ltb s n) (args_of a.q)) (sym e')
    ∙ sym c.rest_below.ensures
    ∙ c.if-not-rest_below.false)
    ∙ sym (ap (later sh name) (front a.q)))
