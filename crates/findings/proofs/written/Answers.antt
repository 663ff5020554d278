-- `findings::written` meets its contract.
use native.Mathlib.Omega.{arith}
use mathlib.Core.Path.{ap, ◌∙◌}
use lib.ListN.{length}
use Rattle.prelude.specs.Lists.{at}
use Rattle.tables.proofs.Packing.{symbols_packed}
use Rattle.tables.proofs.Whole.{laying, laid_offset}
use Rattle.findings.proofs.written.Goals as goal

pub returns : goal.returns
returns c sh k =
    let p = c.args.p in
    let t = c.args.tables.now in
    let sizes = c.sizes_of-sizes in
    let offsets = c.extents-offsets in
    ap (at offsets.result) (symbols_packed sh p k)
    ∙ laid_offset sh p sizes.result offsets.result t (laying sh p sizes.result offsets.result t k sizes.ensures offsets.ensures) (length sh.symbols) (omega arith)
