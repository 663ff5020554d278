-- How many names, expressions and statements the fitted sheet has.
use Prim.Native.Nat.{ℕ, suc, ◌+◌, ◌-◌}
use mathlib.Core.Path.{◌≡◌, ap, ap₂, ◌∙◌}
use mathlib.Core.List.{List, [], ◌∷◌, map}
use lib.ListN.{length, length-append, length-map}
use Rattle.prelude.specs.Lists.{sum_to, collect}
use Rattle.prelude.proofs.Lists.{sum_to_same}
use Rattle.prelude.proofs.Collect.{length_collect, length_singles}
use Rattle.logic.specs.Sheet.{Sheet, symbol_at}
use Rattle.logic.specs.Structure.{Structure}
use Rattle.logic.specs.Order.{sum_of}
use Rattle.tables.specs.Layout.{cells}
use Rattle.tables.proofs.Tables.{length_box}
use Rattle.fitted_sheet.specs.FittedSheet.{code_symbol, code_symbols, code_terms, code_term, table_cells, cell_expression, cell_terms, differ, differs, sames, fitted_sheet}

-- lists of single entries, one after the other
pub length_nested : {A : Type 0} (n : ℕ) (many : ℕ → ℕ) (x : ℕ → ℕ → A) → length (collect n (λ i. collect (many i) (λ j. x i j ∷ []))) ≡ sum_to n many
length_nested n many x =
    length_collect n (λ i. collect (many i) (λ j. x i j ∷ [])) ∙ sum_to_same n _ many (λ i h. length_singles (many i) (x i))

module _ (sh : Sheet) (M : Structure) where
  many_code_symbols : length (code_symbols sh M) ≡ sum_of M sh
  many_code_symbols = length_nested (length sh.bounds) M.size (λ s c. code_symbol s)

  pub many_code_terms : length (code_terms sh M) ≡ sum_of M sh
  many_code_terms = length_singles (sum_of M sh) (λ k. record { symbol = length sh.symbols + k; args = [] })

  -- one entry for each cell of the first n tables
  pub length_cells : {A : Type 0} (n : ℕ) (g : ℕ → List ℕ → A) → length (collect n (λ f. map (g f) (table_cells sh M f))) ≡ sum_to n (λ f. cells M.size (symbol_at sh f).params)
  length_cells n g =
      length_collect n (λ f. map (g f) (table_cells sh M f))
      ∙ sum_to_same n _ (λ f. cells M.size (symbol_at sh f).params) (λ f h. length-map (table_cells sh M f) (g f) ∙ length_box M.size (symbol_at sh f).params)

  many_cell_terms : length (cell_terms sh M) ≡ sum_to (length sh.symbols) (λ f. cells M.size (symbol_at sh f).params)
  many_cell_terms = length_cells (length sh.symbols) (cell_expression sh M)

  many_sames : length (sames sh M) ≡ sum_to (length sh.symbols) (λ f. cells M.size (symbol_at sh f).params)
  many_sames = length_cells (length sh.symbols) _

  many_differs : length (differs sh M) ≡ sum_to (length sh.bounds) (λ s. sum_to (M.size s) (λ c. M.size s - suc c))
  many_differs =
      length_collect (length sh.bounds) _
      ∙ sum_to_same (length sh.bounds) _ _
      (λ s h. length_nested (M.size s) (λ c. M.size s - suc c) (λ c k. differ (code_term M s c) (code_term M s (suc c + k))))

  pub many_symbols : length (fitted_sheet sh M).symbols ≡ length sh.symbols + sum_of M sh
  unfolding fitted_sheet
  many_symbols = length-append sh.symbols (code_symbols sh M) ∙ ap (λ (n : ℕ). length sh.symbols + n) many_code_symbols

  pub many_terms : length (fitted_sheet sh M).terms ≡ sum_of M sh + sum_to (length sh.symbols) (λ f. cells M.size (symbol_at sh f).params)
  unfolding fitted_sheet
  many_terms = length-append (code_terms sh M) (cell_terms sh M) ∙ ap₂ (λ (a b : ℕ). a + b) many_code_terms many_cell_terms

  pub many_literals :
      length (fitted_sheet sh M).literals
      ≡ sum_to (length sh.bounds) (λ s. sum_to (M.size s) (λ c. M.size s - suc c)) + sum_to (length sh.symbols) (λ f. cells M.size (symbol_at sh f).params)
  unfolding fitted_sheet
  many_literals = length-append (differs sh M) (sames sh M) ∙ ap₂ (λ (a b : ℕ). a + b) many_differs many_sames
