-- `fitted::file_tables` meets its contract: the limits are tested by counting, and what is written is the fitted sheet of the answer.
use Prim.Native.Nat.{ℕ, ◌<◌}
use mathlib.Core.Path.{◌≡◌, sym, ◌∙◌}
use mathlib.Core.Bool.{Bool, false}
use mathlib.Core.List.{List}
use Rattle.prelude.specs.Lists.{at}
use Rattle.logic.specs.Order.{sum_of}
use Rattle.layout.specs.declared.Parsed.{Parsed}
use Rattle.layout.specs.Packed.{packed}
use Rattle.layout.proofs.Pack.{contents}
use Rattle.tables.specs.Parts.{Packs, Limited, Extents}
use Rattle.tables.proofs.Whole.{packs_limited}
use Rattle.answer.specs.Answer.{structure_of}
use Rattle.fitted_sheet.specs.FittedSheet.{too_many, fitted_sheet}
use Rattle.fitted_sheet.specs.Kept.{fitted_to}
use Rattle.fitted_sheet.proofs.Entries.{no_fills}
use Rattle.fitted_sheet.proofs.Formed.{fitted_formed}
use Rattle.assembling.specs.Parts.{Source, SizesOf, OffsetsOf, TablesOf}
use Rattle.fitted.specs.Parts.{Answered}
use Rattle.fitted.proofs.Sources.{source, source_sizes, source_offsets, source_tables}
use Rattle.fitted.proofs.Filings.{passed_files, few_files}
use Rattle.fitted.proofs.file_tables.Goals as goal

module _ (p : Parsed) (n : ℕ) (tables : List ℕ) (a : Answered p n tables) where
  limits : Limited p
  limits = packs_limited a.sheet p a.packs

  -- the sizes and offsets are those of the answer

  module _ (sizes : List ℕ) (read : (s : ℕ) → s < p.sorts → at sizes s ≡ at tables s) where
    sizes_are : SizesOf (source p n tables a) (at sizes)
    sizes_are = source_sizes p n tables a (at sizes) read

    offsets_are : (offsets : List ℕ) → Extents p (at sizes) offsets → OffsetsOf (source p n tables a) (at offsets)
    offsets_are offsets x = source_offsets p n tables a (at sizes) sizes_are offsets x

    -- what the test of the limits says, and that no limit is passed

    module _ (offsets : List ℕ) (x : Extents p (at sizes) offsets) (r : Bool) (told : (t : Source p) → SizesOf t (at sizes) → OffsetsOf t (at offsets) → n ≡ sum_of t.structure t.sheet → r ≡ too_many (fitted_sheet t.sheet t.structure)) where
      passed : r ≡ too_many (fitted_to a.sheet a.entry)
      passed = told (source p n tables a) sizes_are (offsets_are offsets x) a.sum

      few : r ≡ false → too_many (fitted_to a.sheet a.entry) ≡ false
      few e = sym passed ∙ e

      -- the new parsed sheet stands for the fitted sheet
      new_packs : (new : Parsed) → r ≡ false → ((t : Source p) → SizesOf t (at sizes) → OffsetsOf t (at offsets) → TablesOf t tables → n ≡ sum_of t.structure t.sheet → new ≡ packed (fitted_sheet t.sheet t.structure)) → Packs (fitted_to a.sheet a.entry) new
      new_packs new e built =
          record {
            formed = fitted_formed a.sheet a.packs.formed a.entry a.answers (few e);
            same = built (source p n tables a) sizes_are (offsets_are offsets x) (source_tables p n tables a) a.sum;
          }

pub sizes_of-sizes-requires : goal.sizes_of-sizes-requires
sizes_of-sizes-requires c = (limits c.args.p c.args.sum c.args.tables.now c.requires.0).sorts

pub extents-offsets-requires : goal.extents-offsets-requires
extents-offsets-requires c =
    let l = limits c.args.p c.args.sum c.args.tables.now c.requires.0 in
    (l.sorts, l.symbols)

pub are_passed-requires : goal.are_passed-requires
are_passed-requires c =
    let a = c.requires.0 in
    (c.extents-offsets.ensures.small, (source c.args.p c.args.sum c.args.tables.now a, (offsets_are c.args.p c.args.sum c.args.tables.now a c.sizes_of-sizes.result c.sizes_of-sizes.ensures c.extents-offsets.result c.extents-offsets.ensures, a.sum)))

pub returns-then-are_passed : goal.returns-then-are_passed
returns-then-are_passed c a =
    rw c.at.ensures
    (passed_files a.sheet a.entry c.args.out.now
    (sym c.if-are_passed.true ∙ passed c.args.p c.args.sum c.args.tables.now a c.sizes_of-sizes.result c.sizes_of-sizes.ensures c.extents-offsets.result c.extents-offsets.ensures c.are_passed.result c.are_passed.ensures))

pub fitted_sheet-new-requires : goal.fitted_sheet-new-requires
fitted_sheet-new-requires c =
    let a = c.requires.0 in (
      source c.args.p c.args.sum c.args.tables.now a,
      (
        sizes_are c.args.p c.args.sum c.args.tables.now a c.sizes_of-sizes.result c.sizes_of-sizes.ensures,
        offsets_are c.args.p c.args.sum c.args.tables.now a c.sizes_of-sizes.result c.sizes_of-sizes.ensures c.extents-offsets.result c.extents-offsets.ensures,
        source_tables c.args.p c.args.sum c.args.tables.now a,
        a.sum,
        few c.args.p c.args.sum c.args.tables.now a c.sizes_of-sizes.result c.sizes_of-sizes.ensures c.extents-offsets.result c.extents-offsets.ensures c.are_passed.result c.are_passed.ensures c.if-are_passed.false,
      ),
    )

pub write_sheet-length-requires : goal.write_sheet-length-requires
write_sheet-length-requires c =
    let a = c.requires.0 in
    let k = new_packs c.args.p c.args.sum c.args.tables.now a c.sizes_of-sizes.result c.sizes_of-sizes.ensures c.extents-offsets.result c.extents-offsets.ensures c.are_passed.result c.are_passed.ensures c.fitted_sheet-new.result c.if-are_passed.false c.fitted_sheet-new.ensures in
    (record { sheet = fitted_to a.sheet a.entry; packs = k }, (contents c.fitted_sheet-new.result (fitted_to a.sheet a.entry) k.same).fills ∙ no_fills a.sheet (structure_of a.sheet a.entry), c.requires.1)

pub returns : goal.returns
returns c a =
    let k = new_packs c.args.p c.args.sum c.args.tables.now a c.sizes_of-sizes.result c.sizes_of-sizes.ensures c.extents-offsets.result c.extents-offsets.ensures c.are_passed.result c.are_passed.ensures c.fitted_sheet-new.result c.if-are_passed.false c.fitted_sheet-new.ensures in
    let w = c.write_sheet-length.ensures (fitted_to a.sheet a.entry) k in
    few_files a.sheet a.entry c.args.out.now _ _
    (few c.args.p c.args.sum c.args.tables.now a c.sizes_of-sizes.result c.sizes_of-sizes.ensures c.extents-offsets.result c.extents-offsets.ensures c.are_passed.result c.are_passed.ensures c.if-are_passed.false)
    w.length w.bytes
