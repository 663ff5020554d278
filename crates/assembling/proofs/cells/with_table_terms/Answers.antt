-- `assembling::cells::with_table_terms` meets its contract: the expressions of the cells passed stand behind those that were there.
use Prim.Native.Nat.{ℕ, ◌*◌, ◌/◌, ◌%◌, ◌<◌}
use native.Mathlib.Omega.{arith}
use mathlib.Core.Path.{◌≡◌, ap, ap₂, sym, ◌∙◌}
use mathlib.Core.List.{List, [], ◌∷◌}
use lib.ListN.{length}
use Rattle.prelude.specs.Lists.{at, collect}
use Rattle.prelude.proofs.Collect.{length_singles}
use Rattle.logic.specs.Sheet.{Term, symbol_at}
use Rattle.layout.specs.Packed.{packed, second}
use Rattle.layout.specs.declared.Parsed.{Parsed}
use Rattle.tables.specs.Layout.{cells}
use Rattle.tables.specs.Parts.{width}
use Rattle.tables.proofs.Widths.{product_small}
use Rattle.assembling.specs.Parts.{Source, SizesOf, more_terms}
use Rattle.assembling.proofs.Growing.{terms_none, terms_next, terms_count, name_there}
use Rattle.assembling.proofs.TableCells.{cell_term_at, table_terms_lem, table_widths, in_table, payload_term}
use Rattle.assembling.proofs.cells.with_table_terms.Goals as goal

-- the rows and columns of the table, once the widths are known, and row and column of a place
module _ (p : Parsed) (size : ℕ → ℕ) (f rows columns : ℕ) (rows_are : rows ≡ width size (at p.param0 f)) (columns_are : columns ≡ width size (at p.param1 f)) (t : Source p) (sz : SizesOf t size) (h : f < length t.sheet.symbols) where
  cells_are : rows * columns ≡ cells t.structure.size (symbol_at t.sheet f).params
  cells_are = ap₂ (λ (a b : ℕ). a * b) rows_are columns_are ∙ (table_widths p t size sz f h).many

  same_columns : columns ≡ width t.structure.size (second (symbol_at t.sheet f).params)
  same_columns = columns_are ∙ (table_widths p t size sz f h).same

  inside : (k : ℕ) → k < rows * columns → (k / columns < 16) × (k % columns < 16) × (0 < columns)
  inside k l =
      let ws = table_widths p t size sz f h in
      in_table k rows columns l (omega (arith, rows_are, ws.rows)) (omega (arith, columns_are, ws.columns))

pub overflow_mul-many : goal.overflow_mul-many
overflow_mul-many c = omega (arith, product_small c.width_of-rows.result c.width_of-columns.result (omega arith) (omega arith))

pub loop-k-init : goal.loop-k-init
loop-k-init c =
    (omega arith, λ t st h. terms_none c.args.q (λ i. cell_term_at t.sheet t.structure c.args.f (i / c.width_of-columns.result) (i % c.width_of-columns.result) ∷ []))

pub nonzero_div-k : goal.nonzero_div-k
nonzero_div-k c =
    let t = c.requires.sizes_of in
    (inside c.args.p (at c.args.sizes) c.args.f c.width_of-rows.result c.width_of-columns.result (c.width_of-rows.ensures.0 ∙ ap (width (at c.args.sizes)) c.wide.ensures.0) (c.width_of-columns.ensures.0 ∙ ap (width (at c.args.sizes)) c.wide-2.ensures.0) t.0 t.1.0 t.1.2 c.loop-k.k (omega arith)).2

pub nonzero_rem-k : goal.nonzero_rem-k
nonzero_rem-k c =
    let t = c.requires.sizes_of in
    (inside c.args.p (at c.args.sizes) c.args.f c.width_of-rows.result c.width_of-columns.result (c.width_of-rows.ensures.0 ∙ ap (width (at c.args.sizes)) c.wide.ensures.0) (c.width_of-columns.ensures.0 ∙ ap (width (at c.args.sizes)) c.wide-2.ensures.0) t.0 t.1.0 t.1.2 c.loop-k.k (omega arith)).2

pub cell_term-term-requires : goal.cell_term-term-requires
cell_term-term-requires c =
    let t = c.requires.sizes_of in
    let i = inside c.args.p (at c.args.sizes) c.args.f c.width_of-rows.result c.width_of-columns.result (c.width_of-rows.ensures.0 ∙ ap (width (at c.args.sizes)) c.wide.ensures.0) (c.width_of-columns.ensures.0 ∙ ap (width (at c.args.sizes)) c.wide-2.ensures.0) t.0 t.1.0 t.1.2 c.loop-k.k (omega arith) in
    (t.0, (t.1.1, t.1.2, omega (arith, i), omega (arith, i)))

pub with_term-out-requires : goal.with_term-out-requires
with_term-out-requires c =
    let t = c.requires.sizes_of.0 in
    let given = c.requires.sizes_of.1 in
    let x = c.cell_term-term.ensures t given.1 given.2 in
    let cell : ℕ → Term = λ i. cell_term_at t.sheet t.structure c.args.f (i / c.width_of-columns.result) (i % c.width_of-columns.result) in
    let many = (terms_count c.args.q (λ i. cell i ∷ []) c.loop-k.k c.loop-k.out c.requires.building.0 (c.loop-k.invariant.1 t given.1 given.2)).0 in (
      omega (arith, many, length_singles c.loop-k.k cell, cells_are c.args.p (at c.args.sizes) c.args.f c.width_of-rows.result c.width_of-columns.result (c.width_of-rows.ensures.0 ∙ ap (width (at c.args.sizes)) c.wide.ensures.0) (c.width_of-columns.ensures.0 ∙ ap (width (at c.args.sizes)) c.wide-2.ensures.0) t given.0 given.2, given.3, c.loop-k-test.true),
      omega (arith, x.symbol, c.requires.building),
    )

pub loop-k-preserved : goal.loop-k-preserved
loop-k-preserved c = (
  omega arith,
  λ t st h.
      terms_next c.args.q (λ i. cell_term_at t.sheet t.structure c.args.f (i / c.width_of-columns.result) (i % c.width_of-columns.result) ∷ []) c.loop-k.k c.loop-k.out c.with_term-out.result (c.loop-k.invariant.1 t st h)
      (λ b.
      let x = c.cell_term-term.ensures t st h in
      let names =
      (terms_count c.args.q (λ i. cell_term_at t.sheet t.structure c.args.f (i / c.width_of-columns.result) (i % c.width_of-columns.result) ∷ []) c.loop-k.k c.loop-k.out c.requires.building.0 (c.loop-k.invariant.1 t st h)).1 in
      c.with_term-out.ensures b.sheet b.same (name_there c.loop-k.out b c.cell_term-term.result.b0 (omega (arith, x.symbol, names, c.requires.building)))
      ∙ ap (λ (y : Term). packed (more_terms b.sheet (y ∷ []))) (payload_term _ t _ _ _ _ x)),
)

pub returns : goal.returns
returns c b t sz st h =
    let last : c.loop-k.k ≡ c.width_of-rows.result * c.width_of-columns.result = omega arith in
    c.loop-k.invariant.1 t st h b
    ∙ ap₂ (λ (n m : ℕ). packed (more_terms b.sheet (collect n (λ i. cell_term_at t.sheet t.structure c.args.f (i / m) (i % m) ∷ [])))) (last ∙ cells_are c.args.p (at c.args.sizes) c.args.f c.width_of-rows.result c.width_of-columns.result (c.width_of-rows.ensures.0 ∙ ap (width (at c.args.sizes)) c.wide.ensures.0) (c.width_of-columns.ensures.0 ∙ ap (width (at c.args.sizes)) c.wide-2.ensures.0) t sz h) (same_columns c.args.p (at c.args.sizes) c.args.f c.width_of-rows.result c.width_of-columns.result (c.width_of-rows.ensures.0 ∙ ap (width (at c.args.sizes)) c.wide.ensures.0) (c.width_of-columns.ensures.0 ∙ ap (width (at c.args.sizes)) c.wide-2.ensures.0) t sz h)
    ∙ ap (λ (x : List Term). packed (more_terms b.sheet x)) (sym (table_terms_lem t.sheet c.args.p t.packs t.structure c.args.f h))
