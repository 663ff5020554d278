-- The fitted sheet list by list: how many records stand in a parsed sheet after each list, and that all of them are the fitted sheet.
use Prim.Native.Nat.{ℕ, suc, ◌+◌, ◌-◌, ◌≤◌, ◌<◌}
use native.Mathlib.Omega.{arith}
use mathlib.Core.Path.{◌≡◌, refl, ap, ap₂, sym, ◌∙◌}
use mathlib.Core.Bool.{false, ◌||◌}
use mathlib.Core.List.{[], ◌∷◌}
use lib.ListN.{length, length-append}
use lib.Dec.{ltb}
use borrow.Author.Tests.{ltb-false}
use Rattle.prelude.specs.Lists.{sum_to, collect}
use Rattle.prelude.proofs.Tests.{or_both}
use Rattle.prelude.proofs.Lists.{sum_to_same, sum_to_grows}
use Rattle.prelude.proofs.Collect.{length_collect, length_singles, collect_same}
use Rattle.logic.specs.Sheet.{Sheet, Bound}
use Rattle.logic.specs.Order.{sum_of}
use Rattle.layout.specs.Layout.{with_total}
use Rattle.layout.specs.Packed.{packed}
use Rattle.layout.specs.declared.Parsed.{Parsed}
use Rattle.layout.proofs.Pack.{contents}
use Rattle.tables.proofs.Packing.{packs_views, symbols_packed}
use Rattle.fitted_sheet.specs.FittedSheet.{sized_bounds, code_symbols, code_terms, code_term, cell_terms, differs, sames, fitted_sheet, too_many, code_symbol, differ}
use Rattle.fitted_sheet.proofs.Lengths.{length_nested, many_symbols, many_terms, many_literals}
use Rattle.assembling.specs.Parts.{Source, SizesOf, StartsOf, cells_before, pairs, bare_term, differs_of, sized, with_names_of, more_symbols, more_terms, more_literals}

module _ (p : Parsed) (t : Source p) where
  -- where no limit is passed
  pub record Few : Type 0 where
    pub symbols : p.symbols + sum_of t.structure t.sheet ≤ 64
    pub terms : sum_of t.structure t.sheet + cells_before t p.symbols ≤ 128
    pub literals : sum_to p.sorts (λ s. pairs (t.structure.size s)) + cells_before t p.symbols ≤ 128

  pub few : too_many (fitted_sheet t.sheet t.structure) ≡ false → Few
  few e =
      let new = fitted_sheet t.sheet t.structure in
      let names = symbols_packed t.sheet p t.packs in
      let cells = ap (cells_before t) names in
      let fields = ap (λ (n : ℕ). sum_to n (λ s. pairs (t.structure.size s))) (packs_views t.sheet p t.packs).sorts in
      let x = or_both (ltb 64 (length new.symbols) || ltb 128 (length new.terms)) (ltb 128 (length new.literals)) e in
      let y = or_both (ltb 64 (length new.symbols)) (ltb 128 (length new.terms)) x.0 in
      record {
        symbols = omega (arith, names, many_symbols t.sheet t.structure, ltb-false 64 (length new.symbols) y.0);
        terms = omega (arith, cells, many_terms t.sheet t.structure, ltb-false 128 (length new.terms) y.1);
        literals = omega (arith, cells, fields, many_literals t.sheet t.structure, ltb-false 128 (length new.literals) x.1);
      }

  module _ (size : ℕ → ℕ) (sz : SizesOf t size) where
    fields : p.sorts ≡ length t.sheet.bounds
    fields = (packs_views t.sheet p t.packs).sorts

    -- the sum and the pairs by the sizes
    pub same_sum : sum_to p.sorts size ≡ sum_of t.structure t.sheet
    same_sum = ap (λ (n : ℕ). sum_to n size) fields ∙ sum_to_same (length t.sheet.bounds) size t.structure.size sz

    pub same_pairs : sum_to p.sorts (λ s. pairs (size s)) ≡ sum_to p.sorts (λ s. pairs (t.structure.size s))
    same_pairs = sum_to_same p.sorts (λ s. pairs (size s)) (λ s. pairs (t.structure.size s)) (λ s h. ap pairs (sz s (omega (arith, fields))))

    pub starts_are : (start : ℕ → ℕ) → ((s : ℕ) → s < p.sorts → start s ≡ sum_to s size) → StartsOf t start
    starts_are start e s h = e s (omega (arith, fields)) ∙ sum_to_same s size t.structure.size (λ i l. sz i (omega arith))

    -- ---- one list after the other
    abbrev pub with_fields : Sheet
    with_fields = with_names_of t.sheet (sized p.sorts size)

    abbrev pub with_code_symbols : Sheet
    with_code_symbols = more_symbols with_fields (collect p.sorts (λ s. collect (size s) (λ c. code_symbol s ∷ [])))

    abbrev pub with_code_terms : ℕ → Sheet
    with_code_terms sum = more_terms with_code_symbols (collect sum (λ c. bare_term (p.symbols + c) ∷ []))

    abbrev pub with_cells : ℕ → Sheet
    with_cells sum = more_terms (with_code_terms sum) (cell_terms t.sheet t.structure)

    abbrev pub with_differs : ℕ → (ℕ → ℕ) → Sheet
    with_differs sum start = more_literals (with_cells sum) (collect p.sorts (λ s. differs_of (start s) (size s)))

    abbrev pub with_sames : ℕ → (ℕ → ℕ) → Sheet
    with_sames sum start = more_literals (with_differs sum start) (sames t.sheet t.structure)

    -- how many names, expressions and statements there are after some of them
    pub fields_counts : (q : Parsed) → q ≡ packed with_fields → (q.symbols ≡ p.symbols) × (q.terms ≡ 0)
    fields_counts q e = let x = contents q with_fields e in (x.symbols ∙ sym (symbols_packed t.sheet p t.packs), x.terms)

    pub symbols_counts : (q : Parsed) → q ≡ packed with_code_symbols → (q.symbols ≡ p.symbols + sum_of t.structure t.sheet) × (q.terms ≡ 0)
    symbols_counts q e =
        let x = contents q with_code_symbols e in
        let codes = collect p.sorts (λ s. collect (size s) (λ c. code_symbol s ∷ [])) in (
          omega (arith, x.symbols, symbols_packed t.sheet p t.packs, length-append t.sheet.symbols codes, length_nested p.sorts size (λ s c. code_symbol s), same_sum),
          x.terms,
        )

    pub terms_counts : (sum : ℕ) (q : Parsed) → q ≡ packed (with_code_terms sum) → (q.symbols ≡ p.symbols + sum_of t.structure t.sheet) × (q.terms ≡ sum)
    terms_counts sum q e =
        let x = contents q (with_code_terms sum) e in
        (x.symbols ∙ sym (contents (packed with_code_symbols) with_code_symbols refl).symbols ∙ (symbols_counts (packed with_code_symbols) refl).0, x.terms ∙ length_singles sum (λ c. bare_term (p.symbols + c)))

    pub cells_counts : (sum : ℕ) (q : Parsed) → q ≡ packed (with_cells sum) → q.literals ≡ 0
    cells_counts sum q e = (contents q (with_cells sum) e).literals

    pub differs_counts : (sum : ℕ) (start : ℕ → ℕ) (q : Parsed) → q ≡ packed (with_differs sum start) → q.literals ≡ sum_to p.sorts (λ s. pairs (size s))
    differs_counts sum start q e =
        (contents q (with_differs sum start) e).literals
        ∙ length_collect p.sorts (λ s. differs_of (start s) (size s))
        ∙ sum_to_same p.sorts _ (λ s. pairs (size s)) (λ s h. length_nested (size s) (λ c. size s - suc c) (λ c k. differ (start s + c) (start s + c + suc k)))

    module _ (start : ℕ → ℕ) (st : StartsOf t start) where
      -- the numbers of a field's codes are bytes
      pub codes_small : (s : ℕ) → s < p.sorts → start s + size s < 256
      codes_small s h =
          let there : s < length t.sheet.bounds = omega (arith, fields) in
          omega (arith, st s there, sz s there, t.most, sum_to_grows (suc s) (length t.sheet.bounds) t.structure.size there)

      -- ---- each list is that of the fitted sheet
      own_bounds : (sized p.sorts size).bounds ≡ sized_bounds t.sheet t.structure
      own_bounds =
          ap (λ (n : ℕ). collect n (λ s. record { floor = size s; ceiling = size s } ∷ [])) fields
          ∙ collect_same (length t.sheet.bounds) _ _ (λ s h. ap (λ (n : ℕ). bound n ∷ []) (sz s h))
        where
          bound : ℕ → Bound
          bound n = record { floor = n; ceiling = n }

      own_symbols : collect p.sorts (λ s. collect (size s) (λ c. code_symbol s ∷ [])) ≡ code_symbols t.sheet t.structure
      own_symbols =
          ap (λ (n : ℕ). collect n (λ s. collect (size s) (λ c. code_symbol s ∷ []))) fields
          ∙ collect_same (length t.sheet.bounds) _ _ (λ s h. ap (λ (n : ℕ). collect n (λ c. code_symbol s ∷ [])) (sz s h))

      own_terms : (sum : ℕ) → sum ≡ sum_of t.structure t.sheet → collect sum (λ c. bare_term (p.symbols + c) ∷ []) ≡ code_terms t.sheet t.structure
      own_terms sum e = ap₂ (λ (n f : ℕ). collect n (λ c. bare_term (f + c) ∷ [])) e (symbols_packed t.sheet p t.packs)

      own_differs : collect p.sorts (λ s. differs_of (start s) (size s)) ≡ differs t.sheet t.structure
      own_differs =
          ap (λ (n : ℕ). collect n (λ s. differs_of (start s) (size s))) fields
          ∙ collect_same (length t.sheet.bounds) _ _
          (λ s h.
          ap₂ differs_of (st s h) (sz s h)
          ∙ collect_same (t.structure.size s) _ _
          (λ c l. collect_same (t.structure.size s - suc c) _ _ (λ k i. ap (λ (n : ℕ). differ (code_term t.structure s c) n ∷ []) (omega arith))))

      pub assembled : (sum : ℕ) → sum ≡ sum_of t.structure t.sheet → packed (with_total (with_sames sum start) sum) ≡ packed (fitted_sheet t.sheet t.structure)
      unfolding fitted_sheet
      assembled sum e = ap packed (cc (own_bounds, own_symbols, own_terms sum e, own_differs, e))
