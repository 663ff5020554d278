-- `tables::extents` meets its contract. The offsets up to table f are right, and each adds the cells of the table before it.
use native.Mathlib.Omega.{arith}
use mathlib.Core.Path.{◌≡◌, refl}
use lib.ListN.{length-set}
use Rattle.prelude.specs.Lists.{at}
use Rattle.tables.proofs.Offsets.{offsets_none, offsets_more, offsets_all}
use Rattle.tables.proofs.extents.Goals as goal

pub loop-f-init : goal.loop-f-init
loop-f-init c = (omega arith, refl, refl, offsets_none c.args.p (at c.args.sizes) (omega arith))

pub loop-f-preserved : goal.loop-f-preserved
loop-f-preserved c =
    let s = c.args in
    let l = c.loop-f in
    (omega arith, refl, simp length-set l.invariant.2, offsets_more s.p (at s.sizes) l.f l.offsets c.cells_of-many.result l.invariant.3 l.invariant.2 (omega arith) (omega arith) c.cells_of-many.ensures)

pub returns : goal.returns
returns c =
    let s = c.args in
    let l = c.loop-f in
    let e : l.f ≡ s.p.symbols = omega arith in
    offsets_all s.p (at s.sizes) l.offsets (rw e at l.invariant.3)
