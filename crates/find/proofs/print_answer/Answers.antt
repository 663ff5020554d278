-- `find::print_answer` meets its contract.
use native.Mathlib.Omega.{arith}
use mathlib.Core.Path.{sym}
use lib.Seq.{length-take-le}
use Rattle.find.proofs.Stretches.{sorts_there, limited, stretches}
use Rattle.find.proofs.print_answer.Goals as goal

pub slice_bounds-print_sorts-end : goal.slice_bounds-print_sorts-end
slice_bounds-print_sorts-end g c =
    sym (length-take-le c.args.p.sorts c.args.buffer.now (sorts_there c.args.p c.args.buffer.now c.requires.printable))

pub sizes_of-sizes-requires : goal.sizes_of-sizes-requires
sizes_of-sizes-requires g c =
    (limited c.args.p c.args.buffer.now c.requires.printable).sorts

pub extents-offsets-requires : goal.extents-offsets-requires
extents-offsets-requires g c =
    let l = limited c.args.p c.args.buffer.now c.requires.printable in
    (l.sorts, l.symbols)

pub print_symbols-requires : goal.print_symbols-requires
print_symbols-requires g c =
    let offsets = c.extents-offsets in
    let sizes = c.sizes_of-sizes in
    record {
      n_le_most_symbols = (limited c.args.p c.args.buffer.now c.requires.printable).symbols;
      stretches = stretches c.args.p c.args.buffer.now c.requires.printable sizes.result offsets.result sizes.ensures offsets.ensures;
      in_bounds = omega (arith, c.requires.in_bounds, c.found_line-k.auto.out, c.print_sorts.auto.line);
    }
