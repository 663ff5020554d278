-- `writing::write_answer` meets its contract: the codes, then the sizes, then over them the tables.
use native.Mathlib.Omega.{arith}
use mathlib.Core.Path.{sym, ◌∙◌}
use lib.ListN.{take}
use lib.Seq.{length-take-le, take-length}
use Rattle.prelude.specs.Lists.{at}
use Rattle.writing.proofs.Writing.{limits, sizes_fit}
use Rattle.prelude.proofs.Fronted.{copied_front}
use Rattle.writing.proofs.Answering.{sizes_front, answer_written}
use Rattle.writing.proofs.write_answer.Goals as goal

pub slice_bounds-codes-end : goal.slice_bounds-codes-end
slice_bounds-codes-end c =
    let l = limits c.args.p (at c.args.sizes) (at c.args.codes) c.args.table_out.now c.requires.0 in
    omega (arith, l.terms)

pub slice_bounds-copy-end : goal.slice_bounds-copy-end
slice_bounds-copy-end c =
    let l = limits c.args.p (at c.args.sizes) (at c.args.codes) c.args.table_out.now c.requires.0 in
    sym (length-take-le c.args.p.terms c.args.codes (omega (arith, l.terms)))

pub copy-requires : goal.copy-requires
copy-requires c =
    let l = limits c.args.p (at c.args.sizes) (at c.args.codes) c.args.table_out.now c.requires.0 in
    rw (length-take-le c.args.p.terms c.args.codes (omega (arith, l.terms))) c.requires.1

pub slice_bounds-sizes-end : goal.slice_bounds-sizes-end
slice_bounds-sizes-end c =
    let l = limits c.args.p (at c.args.sizes) (at c.args.codes) c.args.table_out.now c.requires.0 in
    omega (arith, l.sorts)

pub slice_bounds-copy-end-2 : goal.slice_bounds-copy-end-2
slice_bounds-copy-end-2 c =
    let l = limits c.args.p (at c.args.sizes) (at c.args.codes) c.args.table_out.now c.requires.0 in
    sym (length-take-le c.args.p.sorts c.args.sizes (omega (arith, l.sorts)))

pub copy-requires-2 : goal.copy-requires-2
copy-requires-2 c =
    let l = limits c.args.p (at c.args.sizes) (at c.args.codes) c.args.table_out.now c.requires.0 in
    rw (length-take-le c.args.p.sorts c.args.sizes (omega (arith, l.sorts)))
    (sizes_fit c.args.p (at c.args.sizes) (at c.args.codes) c.args.table_out.now c.requires.0)

pub write_tables-requires : goal.write_tables-requires
write_tables-requires c = rw c.copy-2.auto.dst c.requires.0

pub sum_of-requires : goal.sum_of-requires
sum_of-requires c =
    let l = limits c.args.p (at c.args.sizes) (at c.args.codes) c.args.table_out.now c.requires.0 in
    l.sorts

pub returns : goal.returns
returns c sh k =
    let l = limits c.args.p (at c.args.sizes) (at c.args.codes) c.args.table_out.now c.requires.0 in
    let sized = c.copy-2.ensures.1 ∙ (rw (take-length (take c.args.p.sorts c.args.sizes)) at (copied_front c.args.p.sorts c.args.sizes c.args.table_out.now (omega (arith, l.sorts)))) in
    answer_written c.args.p c.args.sizes c.args.codes sh k c.args.code_out.now c.args.table_out.now _ _ _ _
    (c.copy.ensures.1 ∙ (rw (take-length (take c.args.p.terms c.args.codes)) at (copied_front c.args.p.terms c.args.codes c.args.code_out.now (omega (arith, l.terms)))))
    sized
    (c.write_tables.ensures sh k (sizes_front c.args.p c.args.sizes c.args.codes sh k c.args.table_out.now _ (omega (arith, l.sorts)) sized))
    c.sum_of.ensures
