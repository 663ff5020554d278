-- `text::put_cells` meets its contract.
use native.Mathlib.Omega.{arith}
use mathlib.Core.Path.{refl}
use Rattle.text.specs.Text.{spaced}
use Rattle.text.proofs.Decimal.{spaced_byte, spaced_append}
use Rattle.text.proofs.Entries.{none_written, next_fits, next_written, kept_length, all_written, all_short}
use Rattle.text.proofs.put_cells.Goals as goal

pub loop-i-init : goal.loop-i-init
loop-i-init c =
    none_written spaced 4 refl c.args.out.now c.args.from c.args.cells.now (omega (arith, c.requires))

pub put_spaced-at-requires : goal.put_spaced-at-requires
put_spaced-at-requires c =
    next_fits spaced 4 c.args.out.now c.args.from c.args.cells.now c.loop-i.out c.loop-i.at c.loop-i.i c.loop-i.invariant spaced_append c.requires c.loop-i-test.true (spaced_byte _ (c.type_inv.cells c.loop-i.i).fits)

pub loop-i-preserved : goal.loop-i-preserved
loop-i-preserved c =
    next_written spaced 4 c.args.out.now c.args.from c.args.cells.now c.loop-i.out c.loop-i.at c.loop-i.i c.loop-i.invariant spaced_append c.requires c.loop-i-test.true (spaced_byte _ (c.type_inv.cells c.loop-i.i).fits) c.put_spaced-at.ensures

pub shape_of-out : goal.shape_of-out
shape_of-out c =
    kept_length spaced 4 c.args.out.now c.args.from c.args.cells.now c.loop-i.out c.loop-i.at c.loop-i.i c.loop-i.invariant c.requires

pub returns : goal.returns
returns c =
    record {
      wrote = all_written spaced 4 c.args.out.now c.args.from c.args.cells.now c.loop-i.out c.loop-i.at c.loop-i.i c.loop-i.invariant c.loop-i-test.false;
      short = all_short spaced 4 c.args.out.now c.args.from c.args.cells.now c.loop-i.out c.loop-i.at c.loop-i.i c.loop-i.invariant;
    }
