-- `assembling::cells::cell_term` meets its contract: by the number of parameters that are there.
use native.Mathlib.Omega.{arith}
use mathlib.Core.Path.{refl, ap, ◌∙◌}
use Prim.Native.Nat.{ℕ, ◌+◌}
use Rattle.prelude.specs.Lists.{at}
use Rattle.assembling.proofs.TableCells.{code_fits, first_there, second_there, payload_none, payload_one, payload_two}
use Rattle.assembling.proofs.cells.cell_term.Goals as goal

pub returns-then-first : goal.returns-then-first
returns-then-first c t st h =
    let a = c.args in
    payload_none a.p t (at a.starts) st a.f a.row a.col h a.f refl c.if-first.true

pub code_term-x-requires : goal.code_term-x-requires
code_term-x-requires c =
    let a = c.args in
    let t = c.requires.0 in
    let there = first_there a.p t a.f c.requires.1.1 c.if-first.false in
    rw c.wide.ensures.0 (code_fits a.p t (at a.starts) c.requires.1.0 (at a.p.param0 a.f) a.row there (omega (arith, c.requires.1)))

pub returns-then-second : goal.returns-then-second
returns-then-second c t st h =
    let a = c.args in
    payload_one a.p t (at a.starts) st a.f a.row a.col h a.f refl c.code_term-x.result
    c.if-first.false
    c.if-second.true
    (c.code_term-x.ensures ∙ ap (λ (s : ℕ). at a.starts s + a.row) c.wide.ensures.0)

pub code_term-y-requires : goal.code_term-y-requires
code_term-y-requires c =
    let a = c.args in
    let t = c.requires.0 in
    let there = second_there a.p t a.f c.requires.1.1 c.if-second.false in
    rw c.wide-2.ensures.0 (code_fits a.p t (at a.starts) c.requires.1.0 (at a.p.param1 a.f) a.col there (omega (arith, c.requires.1)))

pub returns : goal.returns
returns c t st h =
    let a = c.args in
    payload_two a.p t (at a.starts) st a.f a.row a.col h a.f refl c.code_term-x.result c.code_term-y.result
    c.if-first.false
    c.if-second.false
    (c.code_term-x.ensures ∙ ap (λ (s : ℕ). at a.starts s + a.row) c.wide.ensures.0)
    (c.code_term-y.ensures ∙ ap (λ (s : ℕ). at a.starts s + a.col) c.wide-2.ensures.0)
