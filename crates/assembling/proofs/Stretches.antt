-- The stretch of one table in the tables of an answer, and the same statements that it gives.
use Prim.Native.Nat.{ℕ, suc, ◌+◌, ◌-◌, ◌≤◌, ◌<◌}
use native.Mathlib.Numerals.{add-one}
use native.Mathlib.Omega.{arith}
use mathlib.Core.Path.{◌≡◌, ap, sym, ◌∙◌}
use mathlib.Core.List.{List}
use lib.ListN.{length, take, drop, length-drop}
use lib.Seq.{length-take-le, get_or-take, get_or-drop}
use Rattle.prelude.specs.Lists.{at, sum_to}
use Rattle.prelude.proofs.Lists.{sum_to_grows}
use Rattle.logic.specs.Sheet.{symbol_at}
use Rattle.logic.specs.Order.{sum_of}
use Rattle.layout.specs.declared.Parsed.{Parsed}
use Rattle.tables.specs.Layout.{cells, table_bytes}
use Rattle.tables.proofs.Packing.{packs_views, result_packed}
use Rattle.tables.proofs.Tables.{codes_at, table_at_place}
use Rattle.fitted_sheet.specs.FittedSheet.{table_sames}
use Rattle.assembling.specs.Parts.{Source, StartsOf, OffsetsOf, TablesOf, cells_before, sames_of}
use Rattle.assembling.proofs.TableCells.{table_sames_lem, code_fits}

-- where it starts, that the next one follows it, and that it lies in the tables
module _ (p : Parsed) (t : Source p) (from : ℕ → ℕ) (o : OffsetsOf t from) (f : ℕ) (h : f < length t.sheet.symbols) where
  pub starts_at : from f ≡ p.sorts + cells_before t f
  starts_at = o f (omega arith) ∙ ap (λ (n : ℕ). n + cells_before t f) (sym (packs_views t.sheet p t.packs).sorts)

  pub ends_at : from (f + 1) ≡ from f + cells t.structure.size (symbol_at t.sheet f).params
  ends_at = ap from (add-one f) ∙ o (suc f) h ∙ omega (arith, o f (omega arith))

  pub before_all : cells_before t f + cells t.structure.size (symbol_at t.sheet f).params ≤ cells_before t (length t.sheet.symbols)
  before_all = sum_to_grows (suc f) (length t.sheet.symbols) (λ g. cells t.structure.size (symbol_at t.sheet g).params) h

  pub within_tables : (tables : List ℕ) → TablesOf t tables → from (f + 1) ≤ length tables
  within_tables tables w = omega (arith, ends_at, o f (omega arith), before_all, w.room)

  module _ (tables : List ℕ) (w : TablesOf t tables) where
    abbrev pub stretch : List ℕ
    stretch = take (from (f + 1) - from f) (drop (from f) tables)

    pub stretch_length : length stretch ≡ cells t.structure.size (symbol_at t.sheet f).params
    stretch_length =
        length-take-le (from (f + 1) - from f) (drop (from f) tables) (omega (arith, length-drop (from f) tables, within_tables tables w, ends_at)) ∙ omega (arith, ends_at)

    stretch_at : (i : ℕ) → i < length stretch → at stretch i ≡ at (table_bytes t.structure f (symbol_at t.sheet f).params) i
    stretch_at i l =
        get_or-take (from (f + 1) - from f) (drop (from f) tables) i 0 (omega (arith, stretch_length, ends_at))
        ∙ get_or-drop (from f) tables i 0
        ∙ ap (λ (n : ℕ). at tables (n + i)) (o f (omega arith))
        ∙ w.bytes f i h (omega (arith, stretch_length))

    -- each entry is a code of the name's field
    entry_below : (i : ℕ) → i < length stretch → at stretch i < t.structure.size (symbol_at t.sheet f).result
    entry_below i l =
        let ps = (symbol_at t.sheet f).params in
        let x = codes_at t.structure.size ps i (omega (arith, stretch_length)) in
        let e : at stretch i ≡ t.structure.table f x.codes =
        stretch_at i l ∙ ap (at (table_bytes t.structure f ps)) (sym x.there) ∙ table_at_place t.structure f ps x.codes x.in_sorts in
        rw e (t.interprets.complete f h x.codes x.in_sorts)

    module _ (starts : ℕ → ℕ) (st : StartsOf t starts) (s : ℕ) (is : s ≡ at p.result f) where
      own_field : s ≡ (symbol_at t.sheet f).result
      own_field = is ∙ result_packed t.sheet p t.packs f h

      field_there : s < length t.sheet.bounds
      field_there = omega (arith, own_field, t.packs.formed.result f h)

      pub field_small : s < 8
      field_small = omega (arith, field_there, t.packs.formed.sorts)

      pub entry_fits : (i : ℕ) → i < length stretch → starts s + at stretch i < 256
      entry_fits i l =
          let below : at stretch i < t.structure.size s = rw own_field (entry_below i l) in
          (code_fits p t starts st s (at stretch i) field_there (omega (arith, below, t.small s field_there))).1

      -- the same statements of the table, from its stretch
      pub sames_said : (codes : ℕ) → codes ≡ sum_of t.structure t.sheet → sames_of (codes + (from f - p.sorts)) (starts s) stretch ≡ table_sames t.sheet t.structure f
      sames_said codes e =
          sym
          (table_sames_lem t.sheet p t.packs t.structure f h (codes + (from f - p.sorts)) (starts s) stretch
          (omega (arith, e, starts_at))
          (st s field_there ∙ ap (λ (n : ℕ). sum_to n t.structure.size) own_field)
          stretch_length
          stretch_at)
