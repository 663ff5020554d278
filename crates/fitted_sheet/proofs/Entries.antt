-- What stands where in the fitted sheet, and that nothing else does: its fields, its names old and new, the expressions of codes and cells, and the
-- statements about them.
use Prim.Native.Nat.{ℕ, suc, ◌+◌, ◌-◌, ◌<◌}
use native.Mathlib.Decide.{dec_lt}
use native.Mathlib.Omega.{arith}
use mathlib.Core.Path.{◌≡◌, refl, ap, sym, ◌∙◌, subst}
use mathlib.Core.Logic.{inl, inr}
use mathlib.Core.List.{List, [], ◌∷◌, ◌++◌, map}
use lib.ListN.{length, get_or, length-map, get_or-append}
use lib.Seq.{get_or-append-add}
use Rattle.prelude.specs.Tests.{Each}
use Rattle.prelude.specs.Lists.{sum_to, collect}
use Rattle.prelude.proofs.Lists.{get_d_map}
use Rattle.prelude.proofs.Collect.{in_sum, below_sum, length_singles, get_d_singles}
use Rattle.logic.specs.Sheet.{Sheet, Bound, Symbol, Term, Literal, no_bound, no_symbol, no_term, no_literal, bound_at, symbol_at, term_at, literal_at, sort_at}
use Rattle.logic.specs.Structure.{Structure, InSorts}
use Rattle.logic.specs.Order.{sum_of}
use Rattle.tables.specs.Layout.{cells, place}
use Rattle.tables.proofs.Cells.{place_below}
use Rattle.tables.proofs.Tables.{length_box, box_at_place, codes_at}
use Rattle.answer.proofs.Lists.{Mem, mem_left, mem_right, mem_either, mem_map, map_mem}
use Rattle.fitted_sheet.specs.FittedSheet.{fitted_sheet, code_symbol, code_symbols, code_terms, code_term, table_cells, code_args, cell_expression, table_terms, cell_terms, cell_term, differ, differs, same, table_sames, sames}
use Rattle.fitted_sheet.proofs.Members.{mem_at, place_of, mem_only, mem_collect, collect_mem, entry_of_lists}
use Rattle.fitted_sheet.proofs.Lengths.{many_symbols, many_code_terms, many_terms}

-- c is a code of field s; the table of the old name f has a cell at the codes cs, and how many it has
abbrev pub IsCode : Sheet → Structure → ℕ → ℕ → Type 0
IsCode sh M s c = (s < length sh.bounds) × (c < M.size s)

abbrev pub IsCell : Sheet → Structure → ℕ → List ℕ → Type 0
IsCell sh M f cs = (f < length sh.symbols) × InSorts M.size (symbol_at sh f).params cs

abbrev cells_of : Sheet → Structure → ℕ → ℕ
cells_of sh M f = cells M.size (symbol_at sh f).params

-- the entries of the fitted sheet's lists
abbrev sized_bound : Structure → ℕ → Bound
sized_bound M s = record { floor = M.size s; ceiling = M.size s }

abbrev pub code_expression : Sheet → ℕ → Term
code_expression sh k = record { symbol = length sh.symbols + k; args = [] }

abbrev pub codes_differ : Structure → ℕ → ℕ → ℕ → Literal
codes_differ M s c d = differ (code_term M s c) (code_term M s d)

abbrev pub cell_same : Sheet → Structure → ℕ → List ℕ → Literal
cell_same sh M f cs = same (cell_term sh M f cs) (code_term M (symbol_at sh f).result (M.table f cs))

module _ (sh : Sheet) (M : Structure) where
  -- ---- the fields, the total and that there are no fills
  pub many_bounds : length (fitted_sheet sh M).bounds ≡ length sh.bounds
  unfolding fitted_sheet
  many_bounds = length_singles (length sh.bounds) _

  pub bound_of : (s : ℕ) → s < length sh.bounds → bound_at (fitted_sheet sh M) s ≡ sized_bound M s
  unfolding fitted_sheet
  bound_of s h = get_d_singles no_bound (length sh.bounds) (sized_bound M) s h

  pub total_of : (fitted_sheet sh M).total ≡ sum_of M sh
  unfolding fitted_sheet
  total_of = refl

  pub no_fills : length (fitted_sheet sh M).fills ≡ 0
  unfolding fitted_sheet
  no_fills = refl

  -- ---- the names
  abbrev symbols_of : ℕ → List Symbol
  symbols_of s = collect (M.size s) (λ c. code_symbol s ∷ [])

  many_symbols_of : (s : ℕ) → length (symbols_of s) ≡ M.size s
  many_symbols_of s = length_singles (M.size s) (λ c. code_symbol s)

  pub old_symbol : (f : ℕ) → f < length sh.symbols → symbol_at (fitted_sheet sh M) f ≡ symbol_at sh f
  unfolding fitted_sheet
  old_symbol f h = get_or-append sh.symbols (code_symbols sh M) no_symbol f h

  pub code_symbol_lem : (s c : ℕ) → IsCode sh M s c → symbol_at (fitted_sheet sh M) (length sh.symbols + code_term M s c) ≡ code_symbol s
  unfolding fitted_sheet
  code_symbol_lem s c k =
      get_or-append-add sh.symbols (code_symbols sh M) (code_term M s c) no_symbol
      ∙ entry_of_lists (length sh.bounds) symbols_of M.size many_symbols_of no_symbol s c k.0 k.1
      ∙ get_d_singles no_symbol (M.size s) (λ x. code_symbol s) c k.1

  -- a name is an old one, or that of a code
  pub by_symbol : (P : ℕ → Type 0) → ((f : ℕ) → f < length sh.symbols → P f) → ((s c : ℕ) → IsCode sh M s c → P (length sh.symbols + code_term M s c)) → (f : ℕ) → f < length (fitted_sheet sh M).symbols → P f
  by_symbol P old new f h =
      elim (dec_lt f (length sh.symbols)) [
        | yes l ↦ old f l
        | no l ↦
            let r = in_sum (length sh.bounds) M.size (f - length sh.symbols) (omega (arith, many_symbols sh M)) in
            let e : length sh.symbols + code_term M r.which r.rest ≡ f = omega (arith, r.there) in
            subst P e (new r.which r.rest (r.below, r.within))
      ]

  -- ---- the expressions
  many_table_terms : (f : ℕ) → length (table_terms sh M f) ≡ cells_of sh M f
  many_table_terms f = length-map (table_cells sh M f) (cell_expression sh M f) ∙ length_box M.size (symbol_at sh f).params

  pub code_inside : (s c : ℕ) → IsCode sh M s c → code_term M s c < sum_of M sh
  code_inside s c k = below_sum (length sh.bounds) M.size s c k.0 k.1

  pub code_there : (s c : ℕ) → IsCode sh M s c → code_term M s c < length (fitted_sheet sh M).terms
  code_there s c k = omega (arith, many_terms sh M, code_inside s c k)

  pub cell_there : (f : ℕ) (cs : List ℕ) → IsCell sh M f cs → cell_term sh M f cs < length (fitted_sheet sh M).terms
  cell_there f cs k =
      omega (
        arith,
        many_terms sh M,
        below_sum (length sh.symbols) (cells_of sh M) f (place M.size (symbol_at sh f).params cs) k.0 (place_below M.size (symbol_at sh f).params cs k.1),
      )

  pub code_term_lem : (s c : ℕ) → IsCode sh M s c → term_at (fitted_sheet sh M) (code_term M s c) ≡ code_expression sh (code_term M s c)
  unfolding fitted_sheet
  code_term_lem s c k =
      let h = code_inside s c k in
      get_or-append (code_terms sh M) (cell_terms sh M) no_term (code_term M s c) (omega (arith, many_code_terms sh M))
      ∙ get_d_singles no_term (sum_of M sh) (code_expression sh) (code_term M s c) h

  pub cell_term_lem : (f : ℕ) (cs : List ℕ) → IsCell sh M f cs → term_at (fitted_sheet sh M) (cell_term sh M f cs) ≡ cell_expression sh M f cs
  unfolding fitted_sheet
  cell_term_lem f cs k =
      let params = (symbol_at sh f).params in
      let p = place M.size params cs in
      let h : p < cells M.size params = place_below M.size params cs k.1 in
      ap (λ (n : ℕ). get_or (code_terms sh M ++ cell_terms sh M) (n + (sum_to f (cells_of sh M) + p)) no_term) (sym (many_code_terms sh M))
      ∙ get_or-append-add (code_terms sh M) (cell_terms sh M) (sum_to f (cells_of sh M) + p) no_term
      ∙ entry_of_lists (length sh.symbols) (table_terms sh M) (cells_of sh M) many_table_terms no_term f p k.0 h
      ∙ get_d_map (cell_expression sh M f) [] no_term (table_cells sh M f) p (omega (arith, length_box M.size params))
      ∙ ap (cell_expression sh M f) (box_at_place M.size params cs k.1)

  -- an expression is that of a code, or that of a cell
  pub by_term : (P : ℕ → Type 0) → ((s c : ℕ) → IsCode sh M s c → P (code_term M s c)) → ((f : ℕ) (cs : List ℕ) → IsCell sh M f cs → P (cell_term sh M f cs)) → (i : ℕ) → i < length (fitted_sheet sh M).terms → P i
  by_term P code cell i h =
      elim (dec_lt i (sum_of M sh)) [
        | yes l ↦
            let r = in_sum (length sh.bounds) M.size i l in
            subst P (sym r.there) (code r.which r.rest (r.below, r.within))
        | no l ↦
            let r = in_sum (length sh.symbols) (cells_of sh M) (i - sum_of M sh) (omega (arith, many_terms sh M)) in
            let x = codes_at M.size (symbol_at sh r.which).params r.rest r.within in
            let e : cell_term sh M r.which x.codes ≡ i = omega (arith, r.there, x.there) in
            subst P {x = cell_term sh M r.which x.codes} e (cell r.which x.codes (r.below, x.in_sorts))
      ]

  -- ---- their sorts
  pub code_sort : (s c : ℕ) → IsCode sh M s c → sort_at (fitted_sheet sh M) (code_term M s c) ≡ s
  code_sort s c k =
      ap (λ (t : Term). (symbol_at (fitted_sheet sh M) t.symbol).result) (code_term_lem s c k) ∙ ap (λ (g : Symbol). g.result) (code_symbol_lem s c k)

  pub cell_sort : (f : ℕ) (cs : List ℕ) → IsCell sh M f cs → sort_at (fitted_sheet sh M) (cell_term sh M f cs) ≡ (symbol_at sh f).result
  cell_sort f cs k =
      ap (λ (t : Term). (symbol_at (fitted_sheet sh M) t.symbol).result) (cell_term_lem f cs k) ∙ ap (λ (g : Symbol). g.result) (old_symbol f k.0)

  -- ---- the arguments of a cell's expression: what holds of the expressions of codes holds of each; what gives each its field, or its code, gives all
  pub args_each : (p : ℕ → Type 0) → ((s c : ℕ) → IsCode sh M s c → p (code_term M s c)) → (ss cs : List ℕ) → Each (λ s. s < length sh.bounds) ss → InSorts M.size ss cs → Each p (code_args M ss cs)
  args_each p h [] cs e i = tt
  args_each p h (s ∷ ss) [] e i = tt
  args_each p h (s ∷ ss) (c ∷ cs) e i = (h s c (e.0, i.0), args_each p h ss cs e.1 i.1)

  pub args_sorts : (g : ℕ → ℕ) → ((s c : ℕ) → IsCode sh M s c → g (code_term M s c) ≡ s) → (ss cs : List ℕ) → Each (λ s. s < length sh.bounds) ss → InSorts M.size ss cs → map g (code_args M ss cs) ≡ ss
  args_sorts g h [] cs e i = refl
  args_sorts g h (s ∷ ss) [] e i = absurd i
  args_sorts g h (s ∷ ss) (c ∷ cs) e i = cc (h s c (e.0, i.0), args_sorts g h ss cs e.1 i.1)

  pub args_codes : (g : ℕ → ℕ) → ((s c : ℕ) → IsCode sh M s c → g (code_term M s c) ≡ c) → (ss cs : List ℕ) → Each (λ s. s < length sh.bounds) ss → InSorts M.size ss cs → map g (code_args M ss cs) ≡ cs
  args_codes g h [] [] e i = refl
  args_codes g h [] (c ∷ cs) e i = absurd i
  args_codes g h (s ∷ ss) [] e i = absurd i
  args_codes g h (s ∷ ss) (c ∷ cs) e i = cc (h s c (e.0, i.0), args_codes g h ss cs e.1 i.1)

  -- ---- the statements
  abbrev differs_at : ℕ → ℕ → List Literal
  differs_at s c = collect (M.size s - suc c) (λ k. codes_differ M s c (suc c + k) ∷ [])

  abbrev differs_of : ℕ → List Literal
  differs_of s = collect (M.size s) (differs_at s)

  pub differ_stated : (s c d : ℕ) → s < length sh.bounds → c < d → d < M.size s → Mem (codes_differ M s c d) (fitted_sheet sh M).literals
  unfolding fitted_sheet
  differ_stated s c d h l b =
      let e : suc c + (d - suc c) ≡ d = omega arith in
      mem_left (codes_differ M s c d) (differs sh M) (sames sh M)
      (mem_collect (length sh.bounds) differs_of s (codes_differ M s c d) h
      (mem_collect (M.size s) (differs_at s) c (codes_differ M s c d) (omega arith)
      (mem_collect (M.size s - suc c) (λ k. codes_differ M s c (suc c + k) ∷ []) (d - suc c) (codes_differ M s c d) (omega arith) (inl (ap (codes_differ M s c) (sym e))))))

  pub same_stated : (f : ℕ) (cs : List ℕ) → IsCell sh M f cs → Mem (cell_same sh M f cs) (fitted_sheet sh M).literals
  unfolding fitted_sheet
  same_stated f cs k =
      let params = (symbol_at sh f).params in
      let there : Mem cs (table_cells sh M f) =
      subst (λ (x : List ℕ). Mem x (table_cells sh M f)) (box_at_place M.size params cs k.1)
      (mem_at [] (table_cells sh M f) (place M.size params cs) (omega (arith, length_box M.size params, place_below M.size params cs k.1))) in
      mem_right (cell_same sh M f cs) (differs sh M) (sames sh M)
      (mem_collect (length sh.symbols) (table_sames sh M) f (cell_same sh M f cs) k.0 (mem_map (cell_same sh M f) cs (table_cells sh M f) there))

  -- an entry of a box lies in the sorts
  pub cell_listed : (f : ℕ) (cs : List ℕ) → Mem cs (table_cells sh M f) → InSorts M.size (symbol_at sh f).params cs
  cell_listed f cs m =
      let params = (symbol_at sh f).params in
      let r : (k : ℕ) × (k < length (table_cells sh M f)) × (get_or (table_cells sh M f) k [] ≡ cs) = place_of [] cs (table_cells sh M f) m in
      let x = codes_at M.size params r.0 (omega (arith, r.1, length_box M.size params)) in
      let e : x.codes ≡ cs =
      sym (box_at_place M.size params x.codes x.in_sorts) ∙ ap (λ (k : ℕ). get_or (table_cells sh M f) k []) x.there ∙ r.2 in
      subst (InSorts M.size params) e x.in_sorts

  module _ (P : Literal → Type 0) (ofDiffer : (s c d : ℕ) → s < length sh.bounds → c < d → d < M.size s → P (codes_differ M s c d)) (ofSame : (f : ℕ) (cs : List ℕ) → IsCell sh M f cs → P (cell_same sh M f cs)) where
    of_differs : (l : Literal) → Mem l (differs sh M) → P l
    of_differs l m =
        let a : (s : ℕ) × (s < length sh.bounds) × Mem l (differs_of s) = collect_mem (length sh.bounds) differs_of l m in
        let b : (c : ℕ) × (c < M.size a.0) × Mem l (differs_at a.0 c) = collect_mem (M.size a.0) (differs_at a.0) l a.2 in
        let x : (k : ℕ) × (k < M.size a.0 - suc b.0) × Mem l (codes_differ M a.0 b.0 (suc b.0 + k) ∷ []) =
        collect_mem (M.size a.0 - suc b.0) (λ k. codes_differ M a.0 b.0 (suc b.0 + k) ∷ []) l b.2 in
        subst P (sym (mem_only l (codes_differ M a.0 b.0 (suc b.0 + x.0)) x.2))
        (ofDiffer a.0 b.0 (suc b.0 + x.0) a.1 (omega arith) (omega (arith, x.1)))

    of_sames : (l : Literal) → Mem l (sames sh M) → P l
    of_sames l m =
        let a : (f : ℕ) × (f < length sh.symbols) × Mem l (table_sames sh M f) = collect_mem (length sh.symbols) (table_sames sh M) l m in
        let b : (cs : List ℕ) × Mem cs (table_cells sh M a.0) × (l ≡ cell_same sh M a.0 cs) = map_mem (cell_same sh M a.0) l (table_cells sh M a.0) a.2 in
        subst P (sym b.2) (ofSame a.0 b.0 (a.1, cell_listed a.0 b.0 b.1))

    -- a statement is the differ of two codes of one field, or the same of a cell and its code
    pub by_literal : (k : ℕ) → k < length (fitted_sheet sh M).literals → P (literal_at (fitted_sheet sh M) k)
    unfolding fitted_sheet
    by_literal k h = step (literal_at (fitted_sheet sh M) k) (mem_at no_literal (differs sh M ++ sames sh M) k h)
      where
        step : (l : Literal) → Mem l (differs sh M ++ sames sh M) → P l
        step l m = elim (mem_either l (differs sh M) (sames sh M) m) [ inl x ↦ of_differs l x | inr x ↦ of_sames l x ]
