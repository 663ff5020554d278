-- Cause 14 by counting: the three counts decide whether the fitted sheet passes a limit.
use Prim.Native.Nat.{ℕ, ◌+◌, ◌≤◌, ◌<◌}
use native.Mathlib.Omega.{arith}
use mathlib.Core.Path.{◌≡◌, refl, ap, ap₂, sym, ◌∙◌}
use mathlib.Core.Bool.{true}
use lib.ListN.{length}
use lib.Dec.{ltb}
use borrow.Author.Tests.{lt-ltb, le-ltb}
use Rattle.prelude.specs.Lists.{sum_to}
use Rattle.prelude.proofs.Lists.{sum_to_same}
use Rattle.logic.specs.Sheet.{Sheet}
use Rattle.logic.specs.Order.{sum_of}
use Rattle.layout.specs.declared.Parsed.{Parsed}
use Rattle.tables.proofs.Packing.{packs_views, symbols_packed}
use Rattle.fitted_sheet.specs.FittedSheet.{fitted_sheet, too_many}
use Rattle.fitted_sheet.proofs.Lengths.{many_symbols, many_terms, many_literals}
use Rattle.assembling.specs.Parts.{Source, SizesOf, OffsetsOf, cells_before, pairs}

module _ (p : Parsed) (t : Source p) (size : ℕ → ℕ) (sizes : SizesOf t size) where
  abbrev new : Sheet
  new = fitted_sheet t.sheet t.structure

  abbrev all : ℕ
  all = cells_before t (length t.sheet.symbols)

  pub symbols_passed : 64 < length t.sheet.symbols + sum_of t.structure t.sheet → true ≡ too_many new
  symbols_passed h = rw (lt-ltb 64 (length new.symbols) (omega (arith, many_symbols t.sheet t.structure))) refl

  pub terms_passed : length t.sheet.symbols + sum_of t.structure t.sheet ≤ 64 → 128 < sum_of t.structure t.sheet + all → true ≡ too_many new
  terms_passed a h =
      rw (le-ltb 64 (length new.symbols) (omega (arith, many_symbols t.sheet t.structure)), lt-ltb 128 (length new.terms) (omega (arith, many_terms t.sheet t.structure))) refl

  pub literals_tested :
      (n : ℕ) → n ≡ sum_to (length t.sheet.bounds) (λ s. pairs (size s)) + all
      → length t.sheet.symbols + sum_of t.structure t.sheet ≤ 64 → sum_of t.structure t.sheet + all ≤ 128 → ltb 128 n ≡ too_many new
  literals_tested n e a b =
      let same : n ≡ length new.literals =
      e
      ∙ ap₂ (λ (x y : ℕ). x + y) (sum_to_same (length t.sheet.bounds) (λ s. pairs (size s)) (λ s. pairs (t.structure.size s)) (λ s h. ap pairs (sizes s h))) refl
      ∙ sym (many_literals t.sheet t.structure) in
      rw (← same, le-ltb 64 (length new.symbols) (omega (arith, many_symbols t.sheet t.structure)), le-ltb 128 (length new.terms) (omega (arith, many_terms t.sheet t.structure))) refl

-- the end of the tables tells how many cells there are
pub cells_counted : (p : Parsed) (t : Source p) (from : ℕ → ℕ) → OffsetsOf t from → from p.symbols ≡ p.sorts + cells_before t (length t.sheet.symbols)
cells_counted p t from o =
    ap from (symbols_packed t.sheet p t.packs)
    ∙ o (length t.sheet.symbols) (omega arith)
    ∙ ap (λ (n : ℕ). n + cells_before t (length t.sheet.symbols)) (sym (packs_views t.sheet p t.packs).sorts)
