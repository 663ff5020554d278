-- `tables::write_table` meets its contract. The first rows are the grid so far.
use Prim.Native.Nat.{◌+◌, ◌*◌, ◌≤◌, ◌<◌}
use native.Mathlib.Omega.{arith}
use mathlib.Core.Path.{◌≡◌, ap, sym, ◌∙◌}
use mathlib.Core.List.{[]}
use lib.ListN.{length, take}
use Rattle.std.proofs.lemmas.List.{length-take-le, get_or-take}
use lib.Seq.{take_all}
use Rattle.tables.specs.Grid.{cell}
use Rattle.prelude.proofs.Rows.{next_row, row_start}
use Rattle.tables.proofs.Grids.{row_more, length_row}
use Rattle.tables.proofs.write_table.Goals as goal

pub write_row-requires : goal.write_row-requires
write_row-requires c =
    let s = c.args in
    let l = c.loop-row in
    let before : l.row-index < s.rows = omega (arith, length-take-le s.rows s.cells (omega arith)) in
    omega (arith, next_row l.row-index s.rows s.columns l.start before l.invariant.0)

pub overflow_add-start : goal.overflow_add-start
overflow_add-start c =
    let s = c.args in
    let l = c.loop-row in
    let before : l.row-index < s.rows = omega (arith, length-take-le s.rows s.cells (omega arith)) in
    omega (arith, next_row l.row-index s.rows s.columns l.start before l.invariant.0, c.well_formed.0.0)

pub loop-row-preserved : goal.loop-row-preserved
loop-row-preserved c =
    let s = c.args in
    let l = c.loop-row in
    let before : l.row-index < s.rows = omega (arith, length-take-le s.rows s.cells (omega arith)) in
    let n = next_row l.row-index s.rows s.columns l.start before l.invariant.0 in
    let h : l.start + s.columns ≤ length l.out = omega (arith, c.requires.2) in
    let e = rw (get_or-take s.rows s.cells l.row-index [] before) at c.write_row.ensures in (
      row_start l.row-index s.columns l.start l.invariant.0,
      ap length e ∙ length_row l.out l.start s.columns (cell s.cells l.row-index) h ∙ l.invariant.1,
      ap (take (l.start + s.columns)) e ∙ row_more l.out s.cells l.row-index s.columns l.start h l.invariant.2,
    )

pub returns : goal.returns
returns c =
    let s = c.args in
    let l = c.loop-row in
    let e : l.row-index ≡ s.rows = omega (arith, length-take-le s.rows s.cells (omega arith)) in
    let n : l.start ≡ s.rows * s.columns = rw e at l.invariant.0 in
    sym (take_all l.start l.out (omega (arith, c.requires.2))) ∙ rw e at l.invariant.2
