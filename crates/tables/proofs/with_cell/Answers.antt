-- `tables::with_cell` meets its contract: the array has 16 rows of 16.
use native.Mathlib.Omega.{arith}
use mir.Syntax.{w8}
use borrow.Kind.Array.{e_int}
use Rattle.tables.proofs.Grids.{put_cell, row_length}
use Rattle.tables.proofs.with_cell.Goals as goal

pub returns : goal.returns
returns c =
    let g = c.well_formed.0 in
    let n = g.1.0.1 in
    put_cell c.args.t c.args.row c.args.column c.args.code (omega arith)
    (omega (arith, row_length 16 (e_int w8).ty.own_val c.args.t g.0 g.1.1 c.args.row (omega arith)))
