-- `assembling::cells::with_cell_terms` meets its contract: the expressions of the tables passed stand behind those that were there.
use Prim.Native.Nat.{ℕ, suc, ◌<◌}
use native.Mathlib.Omega.{arith}
use mathlib.Core.Path.{◌≡◌, refl, ap, ◌∙◌}
use lib.ListN.{length}
use Rattle.prelude.specs.Lists.{collect}
use Rattle.prelude.proofs.Lists.{sum_to_grows}
use Rattle.layout.specs.Packed.{packed}
use Rattle.tables.specs.Layout.{cells}
use Rattle.tables.proofs.Packing.{symbols_packed}
use Rattle.logic.specs.Sheet.{symbol_at}
use Rattle.fitted_sheet.specs.FittedSheet.{cell_expression, table_terms}
use Rattle.fitted_sheet.proofs.Lengths.{length_cells}
use Rattle.assembling.specs.Parts.{more_terms}
use Rattle.assembling.proofs.Growing.{terms_none, terms_next, terms_building, terms_count}
use Rattle.assembling.proofs.cells.with_cell_terms.Goals as goal

pub loop-f-init : goal.loop-f-init
loop-f-init c = (omega arith, refl, λ t sz st. terms_none c.args.q (table_terms t.sheet t.structure))

pub with_table_terms-out-requires : goal.with_table_terms-out-requires
with_table_terms-out-requires c =
    let l = c.loop-f in
    let t = c.requires.sizes_of.0 in
    let given = c.requires.sizes_of.1 in
    let there : l.f < length t.sheet.symbols = omega (arith, l.invariant.1, symbols_packed t.sheet _ t.packs) in
    let so_far = l.invariant.2 t given.0 given.1 in
    let many = terms_count c.args.q (table_terms t.sheet t.structure) l.f l.out c.requires.building.0 so_far in
    record {
      building = (terms_building c.args.q (table_terms t.sheet t.structure) l.f l.out c.requires.building.0 so_far, omega (arith, l.invariant.1, many.1, c.requires.building), omega (arith, many.1, c.requires.building));
      sizes_of = (
        t,
        (
          given.0,
          given.1,
          there,
          omega (
            arith,
            many.0,
            given.2,
            length_cells t.sheet t.structure l.f (cell_expression t.sheet t.structure),
            sum_to_grows (suc l.f) c.args.p.symbols (λ g. cells t.structure.size (symbol_at t.sheet g).params) (omega (arith, l.invariant.1)),
          ),
        ),
      );
    }

pub loop-f-preserved : goal.loop-f-preserved
loop-f-preserved c =
    let l = c.loop-f in (
      omega arith,
      l.invariant.1,
      λ t sz st.
          terms_next c.args.q (table_terms t.sheet t.structure) l.f l.out c.with_table_terms-out.result (l.invariant.2 t sz st)
          (λ b. c.with_table_terms-out.ensures b t sz st (omega (arith, l.invariant.1, symbols_packed t.sheet _ t.packs))),
    )

pub returns : goal.returns
returns c b t sz st =
    let l = c.loop-f in
    let last : l.f ≡ length t.sheet.symbols = omega (arith, l.invariant.1, symbols_packed t.sheet _ t.packs) in
    l.invariant.2 t sz st b ∙ ap (λ (n : ℕ). packed (more_terms b.sheet (collect n (table_terms t.sheet t.structure)))) last
