-- `consistency::functional` meets its contract: the table holds the code of every term of the symbol passed, and nothing else.
use Prim.Native.Nat.{ℕ, ◌+◌}
use mathlib.Core.Path.{sym, subst, ◌∙◌}
use mathlib.Core.List.{List}
use native.Mathlib.Omega.{arith}
use Rattle.layout.specs.Packed.{view}
use Rattle.prelude.specs.Lists.{at}
use Rattle.prelude.proofs.Tests.{answer_yes, answer_no}
use Rattle.consistency.proofs.WholeTest.{Entered, entered_none, entered_other, entered_all, step_again, step_more, step_clash}
use Rattle.consistency.proofs.functional.Goals as goal
use Rattle.consistency.proofs.functional.Goals.{then-wide-symbol+then-old, then-wide-symbol+else-old+else-old-code, else-wide-symbol}

pub loop-i-init : goal.loop-i-init
loop-i-init c = (omega arith, entered_none _ _ _)

pub cell_of-old-requires : goal.cell_of-old-requires
cell_of-old-requires c =
    let small = c.requires.by_index in
    (rw c.code_of-row.ensures (small _), rw c.code_of-col.ensures (small _))

pub with_cell-u-requires : goal.with_cell-u-requires
with_cell-u-requires c =
    let m = c in
    let small = m.requires.by_index in
    (rw m.code_of-row.ensures (small _), rw m.code_of-col.ensures (small _))

pub returns-then-old-code : goal.returns-then-old-code
returns-then-old-code c =
    let m = c in
    let s = m in
    answer_no
    (step_clash _ _ _ _ _ _ _ _ s.loop-i.invariant.1 c.code_of-row.ensures c.code_of-col.ensures c.cell_of-old.ensures
    s.requires.by_index m.loop-i-test.true (sym m.wide.ensures.0 ∙ m.if-wide-symbol.true) c.if-old.false c.if-old-code.true)

pub loop-i-preserved : goal.loop-i-preserved
loop-i-preserved c =
    let k = c.loop-i.invariant.1 in
    let sym0 = c.wide.ensures.0 in (
      omega arith,
      elim c.if-wide-symbol.branch [
        | then-wide-symbol+then-old w ↦
            subst (λ (u : List (List ℕ)). Entered (view c.args.p) (at c.args.codes) c.args.symbol (c.loop-i.i + 1) u) (sym w.t-is)
            (step_more _ _ _ _ _ _ _ _ k w.code_of-row.ensures w.code_of-col.ensures w.cell_of-old.ensures _ c.requires.by_index (sym sym0 ∙ w.if-wide-symbol.true) w.if-old.true w.with_cell-u.ensures)
        | then-wide-symbol+else-old+else-old-code w ↦
            subst (λ (u : List (List ℕ)). Entered (view c.args.p) (at c.args.codes) c.args.symbol (c.loop-i.i + 1) u) (sym w.t-is)
            (step_again _ _ _ _ _ _ _ _ k w.code_of-row.ensures w.code_of-col.ensures w.cell_of-old.ensures w.if-old-code.false)
        | else-wide-symbol w ↦
            subst (λ (u : List (List ℕ)). Entered (view c.args.p) (at c.args.codes) c.args.symbol (c.loop-i.i + 1) u) (sym w.t-is)
            (entered_other _ _ _ _ _ k (λ e. w.if-wide-symbol.false (sym0 ∙ e)))
      ],
    )

pub returns : goal.returns
returns c = answer_yes (entered_all _ _ _ _ _ c.loop-i.invariant.1 c.loop-i-test.false)
