-- `writing::write_tables` meets its contract: the tables of the symbols passed stand in the buffer, each in its stretch.
use Prim.Native.Nat.{ℕ, ◌+◌, ◌*◌, ◌<◌}
use mathlib.Core.Path.{◌≡◌, refl, ap, ap₂, sym, ◌∙◌}
use borrow.Rule.Slice.PartMut.{mid_len}
use native.Mathlib.Omega.{arith}
use Rattle.prelude.specs.Lists.{at}
use Rattle.tables.specs.Parts.{width}
use Rattle.writing.proofs.Writing.{limits, tables_none, rows_fit, next_offset, stretch_within, tables_more, tables_all}
use Rattle.writing.proofs.write_tables.Goals as goal

-- rows and columns of a table, by the widths of the symbol's first and second parameter
width_at : (size : ℕ → ℕ) (r w n : ℕ) → r ≡ width size w → w ≡ n → r ≡ width size n
width_at size r w n e i = e ∙ ap (width size) i

pub extents-offsets-requires : goal.extents-offsets-requires
extents-offsets-requires c =
    let l = limits c.args.p (at c.args.sizes) (at c.args.codes) c.args.out.now c.requires in
    (l.sorts, l.symbols)

pub loop-f-init : goal.loop-f-init
loop-f-init c = (
  tables_none c.args.p (at c.args.sizes) (at c.args.codes) c.args.out.now c.requires c.extents-offsets.result c.extents-offsets.ensures,
  refl,
  (limits c.args.p (at c.args.sizes) (at c.args.codes) c.args.out.now c.requires).symbols,
)

pub symbol_table-t-requires : goal.symbol_table-t-requires
symbol_table-t-requires c =
    let more : c.loop-f.f < c.args.p.symbols = omega arith in
    let rows : c.width_of-rows.result ≡ width (at c.args.sizes) (at c.args.p.param0 c.loop-f.f) =
    width_at (at c.args.sizes) c.width_of-rows.result c.wide.result (at c.args.p.param0 c.loop-f.f) c.width_of-rows.ensures.0 c.wide.ensures.0 in
    let columns : c.width_of-columns.result ≡ width (at c.args.sizes) (at c.args.p.param1 c.loop-f.f) =
    width_at (at c.args.sizes) c.width_of-columns.result c.wide-in-loop-f.result (at c.args.p.param1 c.loop-f.f) c.width_of-columns.ensures.0 c.wide-in-loop-f.ensures.0 in
    let fit = rows_fit c.args.p (at c.args.sizes) (at c.args.codes) c.args.out.now c.requires c.extents-offsets.result c.loop-f.out c.loop-f.f c.loop-f.invariant.0 more in
    let few = limits c.args.p (at c.args.sizes) (at c.args.codes) c.args.out.now c.requires in
    record {
      terms_le_most_terms = (few.terms, few.fills, c.requires.codes);
      symbol_lt_most_symbols = (omega arith, omega (arith, fit.0, rows), omega (arith, fit.1, columns));
    }

pub slice_bounds-write_table-count : goal.slice_bounds-write_table-count
slice_bounds-write_table-count c =
    omega (arith, next_offset c.args.p (at c.args.sizes) (at c.args.codes) c.args.out.now c.requires c.extents-offsets.result c.loop-f.out c.loop-f.f c.loop-f.invariant.0 (omega arith))

pub slice_bounds-write_table-start : goal.slice_bounds-write_table-start
slice_bounds-write_table-start c =
    omega (arith, next_offset c.args.p (at c.args.sizes) (at c.args.codes) c.args.out.now c.requires c.extents-offsets.result c.loop-f.out c.loop-f.f c.loop-f.invariant.0 (omega arith))

pub slice_bounds-write_table-end : goal.slice_bounds-write_table-end
slice_bounds-write_table-end c =
    stretch_within c.args.p (at c.args.sizes) (at c.args.codes) c.args.out.now c.requires c.extents-offsets.result c.loop-f.out c.loop-f.f c.loop-f.invariant.0 (omega arith)

pub write_table-requires : goal.write_table-requires
write_table-requires c =
    let more : c.loop-f.f < c.args.p.symbols = omega arith in
    let rows : c.width_of-rows.result ≡ width (at c.args.sizes) (at c.args.p.param0 c.loop-f.f) =
    width_at (at c.args.sizes) c.width_of-rows.result c.wide.result (at c.args.p.param0 c.loop-f.f) c.width_of-rows.ensures.0 c.wide.ensures.0 in
    let columns : c.width_of-columns.result ≡ width (at c.args.sizes) (at c.args.p.param1 c.loop-f.f) =
    width_at (at c.args.sizes) c.width_of-columns.result c.wide-in-loop-f.result (at c.args.p.param1 c.loop-f.f) c.width_of-columns.ensures.0 c.wide-in-loop-f.ensures.0 in
    let fit = rows_fit c.args.p (at c.args.sizes) (at c.args.codes) c.args.out.now c.requires c.extents-offsets.result c.loop-f.out c.loop-f.f c.loop-f.invariant.0 more in (
      omega (arith, fit.0, rows),
      omega (arith, fit.1, columns),
      mid_len (at c.extents-offsets.result c.loop-f.f) (at c.extents-offsets.result (c.loop-f.f + 1)) c.loop-f.out (stretch_within c.args.p (at c.args.sizes) (at c.args.codes) c.args.out.now c.requires c.extents-offsets.result c.loop-f.out c.loop-f.f c.loop-f.invariant.0 more)
          ∙ omega (arith, next_offset c.args.p (at c.args.sizes) (at c.args.codes) c.args.out.now c.requires c.extents-offsets.result c.loop-f.out c.loop-f.f c.loop-f.invariant.0 more)
          ∙ sym (ap₂ (λ (a b : ℕ). a * b) rows columns),
    )

pub loop-f-preserved : goal.loop-f-preserved
loop-f-preserved c =
    let more : c.loop-f.f < c.args.p.symbols = omega arith in (
      tables_more c.args.p (at c.args.sizes) (at c.args.codes) c.args.out.now c.requires c.extents-offsets.result c.loop-f.out c.loop-f.f c.loop-f.invariant.0 more
          c.symbol_table-t.result c.write_table.new.out c.width_of-rows.result c.width_of-columns.result
          c.symbol_table-t.ensures
          (width_at (at c.args.sizes) c.width_of-rows.result c.wide.result (at c.args.p.param0 c.loop-f.f) c.width_of-rows.ensures.0 c.wide.ensures.0)
          (width_at (at c.args.sizes) c.width_of-columns.result c.wide-in-loop-f.result (at c.args.p.param1 c.loop-f.f) c.width_of-columns.ensures.0 c.wide-in-loop-f.ensures.0)
          c.write_table.ensures,
      c.loop-f.invariant.1,
      c.loop-f.invariant.2,
    )

pub shape_of-out : goal.shape_of-out
shape_of-out c = c.loop-f.invariant.0.long

pub returns : goal.returns
returns c =
    tables_all c.args.p (at c.args.sizes) (at c.args.codes) c.args.out.now c.requires c.extents-offsets.result c.loop-f.out c.loop-f.f c.loop-f.invariant.0 (omega arith)
