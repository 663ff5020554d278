-- `assembling::cells::with_sames` meets its contract: the statements of the tables passed stand behind those that were there.
use Prim.Native.Nat.{ℕ, ◌+◌, ◌≤◌, ◌<◌}
use native.Mathlib.Omega.{arith}
use mathlib.Core.Path.{◌≡◌, refl, ap, sym, subst, ◌∙◌}
use mathlib.Core.List.{List}
use lib.ListN.{length}
use Rattle.prelude.specs.Lists.{at, collect}
use Rattle.layout.specs.Packed.{packed}
use Rattle.layout.specs.declared.Parsed.{Parsed}
use Rattle.tables.proofs.Packing.{symbols_packed}
use Rattle.tables.proofs.Whole.{packs_limited}
use Rattle.fitted_sheet.proofs.Lengths.{length_cells}
use Rattle.logic.specs.Sheet.{Literal, symbol_at}
use Rattle.tables.specs.Layout.{cells}
use Rattle.fitted_sheet.specs.FittedSheet.{code_term, cell_term, same, table_sames}
use Rattle.assembling.specs.Parts.{cells_before, Source, OffsetsOf, more_literals}
use Rattle.assembling.proofs.Growing.{literals_none, literals_next, literals_building, literals_count}
use Rattle.assembling.proofs.Stretches.{starts_at, ends_at, before_all, within_tables, stretch_length, field_small, entry_fits, sames_said}
use Rattle.assembling.proofs.cells.with_sames.Goals as goal

-- a turn of the loop: the parsed sheet, and the old sheet and its structure; that there is a name left, and its number
module _ (p : Parsed) (t : Source p) (from : ℕ → ℕ) (offsets_are : OffsetsOf t from) (f : ℕ) (more : f < p.symbols) where
  there : f < length t.sheet.symbols
  there = omega (arith, symbols_packed t.sheet p t.packs)

  begins : from f ≡ p.sorts + cells_before t f
  begins = starts_at p t from offsets_are f there

  ends : from (f + 1) ≡ from f + cells t.structure.size (symbol_at t.sheet f).params
  ends = ends_at p t from offsets_are f there

  all : cells_before t f + cells t.structure.size (symbol_at t.sheet f).params ≤ cells_before t p.symbols
  all =
      subst (λ (n : ℕ). cells_before t f + cells t.structure.size (symbol_at t.sheet f).params ≤ cells_before t n) (sym (symbols_packed t.sheet p t.packs))
      (before_all p t from offsets_are f there)

pub loop-f-init : goal.loop-f-init
loop-f-init c =
    let given = c.requires.starts_of in
    (omega arith, (packs_limited given.0.sheet c.args.p given.0.packs).symbols, refl, refl, λ t st o w e. literals_none c.args.q (table_sames t.sheet t.structure))

pub overflow_sub-first : goal.overflow_sub-first
overflow_sub-first c = omega (arith, begins c.args.p c.requires.starts_of.0 (at c.args.offsets) c.requires.starts_of.1.1 c.loop-f.f (omega arith))

pub overflow_add-first : goal.overflow_add-first
overflow_add-first c =
    let more : c.loop-f.f < c.args.p.symbols = omega arith in
    omega (arith, begins c.args.p c.requires.starts_of.0 (at c.args.offsets) c.requires.starts_of.1.1 c.loop-f.f more, all c.args.p c.requires.starts_of.0 (at c.args.offsets) c.requires.starts_of.1.1 c.loop-f.f more, c.requires.starts_of.1.4)

pub slice_bounds-with_table_sames-count : goal.slice_bounds-with_table_sames-count
slice_bounds-with_table_sames-count c = omega (arith, ends c.args.p c.requires.starts_of.0 (at c.args.offsets) c.requires.starts_of.1.1 c.loop-f.f (omega arith))

pub slice_bounds-with_table_sames-start : goal.slice_bounds-with_table_sames-start
slice_bounds-with_table_sames-start c = omega (arith, ends c.args.p c.requires.starts_of.0 (at c.args.offsets) c.requires.starts_of.1.1 c.loop-f.f (omega arith))

pub slice_bounds-with_table_sames-end : goal.slice_bounds-with_table_sames-end
slice_bounds-with_table_sames-end c =
    within_tables c.args.p c.requires.starts_of.0 (at c.args.offsets) c.requires.starts_of.1.1 c.loop-f.f (there c.args.p c.requires.starts_of.0 (at c.args.offsets) c.requires.starts_of.1.1 c.loop-f.f (omega arith)) c.args.tables.now c.requires.starts_of.1.2

pub with_table_sames-out-requires : goal.with_table_sames-out-requires
with_table_sames-out-requires c =
    let more : c.loop-f.f < c.args.p.symbols = omega arith in
    let t = c.requires.starts_of.0 in
    let given = c.requires.starts_of.1 in
    let so_far = c.loop-f.invariant.4 t given.0 given.1 given.2 given.3 in
    let many = literals_count c.args.q (table_sames t.sheet t.structure) c.loop-f.f c.loop-f.out c.requires.building so_far in
    let long = stretch_length c.args.p c.requires.starts_of.0 (at c.args.offsets) c.requires.starts_of.1.1 c.loop-f.f (there c.args.p c.requires.starts_of.0 (at c.args.offsets) c.requires.starts_of.1.1 c.loop-f.f more) c.args.tables.now given.2 in
    let s = c.wide-result in (
      literals_building c.args.q (table_sames t.sheet t.structure) c.loop-f.f c.loop-f.out c.requires.building so_far,
      field_small c.args.p c.requires.starts_of.0 (at c.args.offsets) c.requires.starts_of.1.1 c.loop-f.f (there c.args.p c.requires.starts_of.0 (at c.args.offsets) c.requires.starts_of.1.1 c.loop-f.f more) c.args.tables.now given.2 (at c.args.starts) given.0 s.result s.ensures.0,
      omega (arith, long, begins c.args.p c.requires.starts_of.0 (at c.args.offsets) c.requires.starts_of.1.1 c.loop-f.f more, all c.args.p c.requires.starts_of.0 (at c.args.offsets) c.requires.starts_of.1.1 c.loop-f.f more, given.4),
      omega (
        arith,
        long,
        many,
        all c.args.p c.requires.starts_of.0 (at c.args.offsets) c.requires.starts_of.1.1 c.loop-f.f more,
        given.5,
        length_cells t.sheet t.structure {A = Literal} c.loop-f.f
            (λ g cs. same (cell_term t.sheet t.structure g cs) (code_term t.structure (symbol_at t.sheet g).result (t.structure.table g cs))),
      ),
      entry_fits c.args.p c.requires.starts_of.0 (at c.args.offsets) c.requires.starts_of.1.1 c.loop-f.f (there c.args.p c.requires.starts_of.0 (at c.args.offsets) c.requires.starts_of.1.1 c.loop-f.f more) c.args.tables.now given.2 (at c.args.starts) given.0 s.result s.ensures.0,
    )

pub loop-f-preserved : goal.loop-f-preserved
loop-f-preserved c = (
  omega arith,
  c.loop-f.invariant.1,
  refl,
  refl,
  λ t st o w e.
      literals_next c.args.q (table_sames t.sheet t.structure) c.loop-f.f c.loop-f.out c.with_table_sames-out.result (c.loop-f.invariant.4 t st o w e)
      (λ b.
      c.with_table_sames-out.ensures b
      ∙ ap (λ (x : List Literal). packed (more_literals b.sheet x))
      (sames_said c.args.p t (at c.args.offsets) o c.loop-f.f (omega (arith, symbols_packed t.sheet c.args.p t.packs)) c.args.tables.now w (at c.args.starts) st c.wide-result.result c.wide-result.ensures.0 c.args.codes e)),
)

pub returns : goal.returns
returns c b t st o w e =
    let l = c.loop-f in
    let last : l.f ≡ length t.sheet.symbols = omega (arith, symbols_packed t.sheet c.args.p t.packs) in
    l.invariant.4 t st o w e b ∙ ap (λ (n : ℕ). packed (more_literals b.sheet (collect n (table_sames t.sheet t.structure)))) last
