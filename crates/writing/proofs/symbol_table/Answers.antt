-- `writing::symbol_table` meets its contract: the terms passed have been put into the table of unforced codes that the loop begins with.
use Prim.Native.Nat.{◌-◌}
use mathlib.Core.Path.{refl, sym, ap, ◌∙◌}
use native.Mathlib.Omega.{arith}
use Rattle.prelude.specs.Lists.{at}
use Rattle.layout.specs.Packed.{view}
use Rattle.tables.specs.Grid.{cell}
use Rattle.writing.specs.Written.{unforced_at}
use Rattle.writing.proofs.Filling.{from_none, from_skip, from_put, from_all, filled_table}
use Rattle.writing.proofs.symbol_table.Goals as goal

pub loop-i-init : goal.loop-i-init
loop-i-init c =
    from_none (view c.args.p) (at c.args.codes) c.args.symbol 16 16 c.unforced_table-t.result

pub with_cell-u-requires : goal.with_cell-u-requires
with_cell-u-requires c =
    (omega (arith, c.wide-then-wide-symbol.ensures.0, c.requires.terms_le_most_terms.2 c.wide-a.result), omega (arith, c.wide-then-wide-symbol-2.ensures.0, c.requires.terms_le_most_terms.2 c.wide-b.result))

pub loop-i-preserved-then-wide-symbol : goal.loop-i-preserved-then-wide-symbol
loop-i-preserved-then-wide-symbol c =
    let arg0 = c.wide-a in
    let arg1 = c.wide-b in
    let row = c.wide-then-wide-symbol in
    let col = c.wide-then-wide-symbol-2 in
    from_put (view c.args.p) (at c.args.codes) c.args.symbol (cell c.unforced_table-t.result) 16 16 c.loop-i.i c.loop-i.t c.loop-i-test.true (omega arith) c.loop-i.invariant
    c.with_cell-u.result row.result col.result (at c.args.codes (c.loop-i.i - 1))
    (sym c.wide.ensures.0 ∙ c.if-wide-symbol.true)
    (row.ensures.0 ∙ ap (at c.args.codes) arg0.ensures.0)
    (col.ensures.0 ∙ ap (at c.args.codes) arg1.ensures.0)
    refl
    c.with_cell-u.ensures

pub loop-i-preserved : goal.loop-i-preserved
loop-i-preserved c =
    from_skip (view c.args.p) (at c.args.codes) c.args.symbol (cell c.unforced_table-t.result) 16 16 c.loop-i.i c.loop-i.t c.loop-i-test.true (omega arith) c.loop-i.invariant
    (λ e. c.if-wide-symbol.false (c.wide.ensures.0 ∙ e))

pub returns : goal.returns
returns c sh size k h =
    let P = view c.args.p in
    let start = c.unforced_table-t in
    filled_table P (at c.args.codes) c.args.symbol P.terms (cell start.result) (unforced_at sh size (at c.args.codes) c.args.symbol) c.args.rows c.args.columns c.loop-i.t
    (omega arith) (omega arith) (start.ensures sh size (at c.args.codes) k h (c.fill_code-fill.ensures sh k))
    (from_all P (at c.args.codes) c.args.symbol (cell start.result) 16 16 c.loop-i.i c.loop-i.t (omega arith) c.loop-i.invariant)
