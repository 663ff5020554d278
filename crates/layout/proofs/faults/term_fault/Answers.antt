-- Each return is a case of `later`.
use Prim.Native.Nat.{ℕ}
use native.Mathlib.Omega.{arith}
use mathlib.Core.Path.{ap, sym, ◌∙◌}
use lib.Dec.{ltb}
use Rattle.prelude.specs.Tests.{all}
use Rattle.prelude.specs.Causes.{tested}
use Rattle.layout.specs.Layout.{expression, ill_sorted}
use Rattle.layout.specs.Parts.{later}
use Rattle.layout.proofs.Pack.{contents}
use Rattle.layout.proofs.Causes.{term_many, term_symbol, term_args, term_sorts, term_again, term_fine}
use Rattle.layout.proofs.AtMostTwo.{args_of, front}
use Rattle.layout.proofs.faults.term_fault.Goals as goal

pub returns-then-p-ge-MOST_TERMS : goal.returns-then-p-ge-MOST_TERMS
returns-then-p-ge-MOST_TERMS c k =
    ap tested (
    let a = c.args in
    let h = contents a.p k.sheet k.same in
    term_many k.sheet a.q.b0 (args_of a.q) (omega arith)
    ∙ sym (ap (later k.sheet expression) (front a.q)))

pub returns-then-p-wide : goal.returns-then-p-wide
returns-then-p-wide c k =
    ap tested (
    let a = c.args in
    let h = contents a.p k.sheet k.same in
    term_symbol k.sheet a.q.b0 (args_of a.q) (omega arith) (omega arith)
    ∙ sym (ap (later k.sheet expression) (front a.q)))

pub returns-then-not-rest_below : goal.returns-then-not-rest_below
returns-then-not-rest_below c k =
    ap tested (
    let a = c.args in
    let h = contents a.p k.sheet k.same in
    term_args k.sheet a.q.b0 (args_of a.q) (omega arith) (omega arith)
    (ap (λ (n : ℕ). all (λ x. ltb x n) (args_of a.q)) (sym h.terms)
    ∙ sym c.rest_below.ensures
    ∙ c.if-not-rest_below.true)
    ∙ sym (ap (later k.sheet expression) (front a.q)))

pub is_ill_sorted-requires : goal.is_ill_sorted-requires
is_ill_sorted-requires c =
    record { part_read = c.requires; b0_lt_symbols = (omega arith, sym c.rest_below.ensures ∙ c.if-not-rest_below.false) }

pub returns-then-is_ill_sorted : goal.returns-then-is_ill_sorted
returns-then-is_ill_sorted c k =
    ap tested (
    let a = c.args in
    let h = contents a.p k.sheet k.same in
    term_sorts k.sheet a.q.b0 (args_of a.q) (omega arith) (omega arith)
    (ap (λ (n : ℕ). all (λ x. ltb x n) (args_of a.q)) (sym h.terms)
    ∙ sym c.rest_below.ensures
    ∙ c.if-not-rest_below.false)
    (sym
    (ap (ill_sorted k.sheet expression)
    (front a.q))
    ∙ sym (c.is_ill_sorted.ensures k)
    ∙ c.if-is_ill_sorted.true)
    ∙ sym
    (ap (later k.sheet expression)
    (front a.q)))

pub is_repeated-requires : goal.is_repeated-requires
is_repeated-requires c = record { part_read = c.requires; q_value = sym c.rest_below.ensures ∙ c.if-not-rest_below.false }

pub returns-then-is_repeated : goal.returns-then-is_repeated
returns-then-is_repeated c k =
    ap tested (
    let a = c.args in
    let h = contents a.p k.sheet k.same in
    term_again k.sheet a.q.b0 (args_of a.q) (omega arith) (omega arith)
    (ap (λ (n : ℕ). all (λ x. ltb x n) (args_of a.q)) (sym h.terms)
    ∙ sym c.rest_below.ensures
    ∙ c.if-not-rest_below.false)
    (sym
    (ap (ill_sorted k.sheet expression)
    (front a.q))
    ∙ sym (c.is_ill_sorted.ensures k)
    ∙ c.if-is_ill_sorted.false) (sym (c.is_repeated.ensures k) ∙ c.if-is_repeated.true)
    ∙ sym
    (ap (later k.sheet expression)
    (front a.q)))

pub returns : goal.returns
returns c k =
    ap tested (
    let a = c.args in
    let h = contents a.p k.sheet k.same in
    term_fine k.sheet a.q.b0 (args_of a.q) (omega arith) (omega arith)
    (ap (λ (n : ℕ). all (λ x. ltb x n) (args_of a.q)) (sym h.terms)
    ∙ sym c.rest_below.ensures
    ∙ c.if-not-rest_below.false)
    (sym
    (ap (ill_sorted k.sheet expression)
    (front a.q))
    ∙ sym (c.is_ill_sorted.ensures k)
    ∙ c.if-is_ill_sorted.false) (sym (c.is_repeated.ensures k) ∙ c.if-is_repeated.false)
    ∙ sym
    (ap (later k.sheet expression)
    (front a.q)))
