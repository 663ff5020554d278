-- A table after one cell was set; a table written row by row holds the cells of its grid.
use Prim.Native.Nat.{ℕ, zero, suc, ◌+◌, ◌*◌, ◌≤◌, ◌<◌}
use native.Mathlib.Nat.{not-suc-le-zero, suc-mul, mul-one}
use native.Mathlib.Decide.{dec_lt, ℕ_discrete}
use native.Mathlib.Numerals.{add-one}
use native.Mathlib.Omega.{arith}
use mathlib.Core.Path.{◌≡◌, refl, ap, ap₂, sym, subst, ◌∙◌}
use mathlib.Core.List.{List, [], ◌∷◌, ◌++◌}
use lib.ListN.{length, get_or, set, take, length-append, get_or-append}
use lib.Seq.{paste, length-paste, take-paste, take_all, get_or-append-add, get_or-set_same, get_or-set_other, ext_get_or}
use mir.Val.{Val}
use base.Fml.{Fml}
use denote.Shadow.{shadow}
use denote.Array.{each, in_array}
use Rattle.prelude.specs.Tests.{Each}
use Rattle.prelude.specs.Lists.{at, firsts}
use Rattle.prelude.proofs.Lists.{length_firsts, at_firsts}
use Rattle.logic.specs.Structure.{Structure, InSorts}
use Rattle.layout.specs.Packed.{first, second}
use Rattle.tables.specs.Layout
use Rattle.tables.specs.Layout.{place, table_bytes}
use Rattle.tables.specs.Parts.{width}
use Rattle.tables.proofs.Cells.{row_below}
use Rattle.tables.proofs.Widths.{width_there, cells_by_width}
use Rattle.tables.proofs.Tables.{codes_at, length_table, table_at_place}
use Rattle.tables.specs.Grid.{cell, Put, grid}

-- a cell of a table after one cell was set
pub put_cell : (t : List (List ℕ)) (row col code : ℕ) → row < length t → col < length (get_or t row []) → Put t (set t row (set (get_or t row []) col code)) row col code
put_cell t row col code hr hc =
    record {
      here = rw (get_or-set_same t row (set (get_or t row []) col code) [] hr) (get_or-set_same (get_or t row []) col code 0 hc);
      elsewhere = λ a b ne.
          elim (ℕ_discrete a row) [
            | yes e ↦
                subst (λ (x : ℕ). cell (set t row (set (get_or t row []) col code)) x b ≡ cell t x b) (sym e)
                (rw (get_or-set_same t row (set (get_or t row []) col code) [] hr) (get_or-set_other (get_or t row []) col b code 0 (ne e)))
            | no e ↦ ap (λ (l : List ℕ). get_or l b 0) (get_or-set_other t row a (set (get_or t row []) col code) [] e)
          ];
    }

-- each row of a table that is owned has its length
pub row_length : (n : ℕ) (own : ℕ → List Val → Fml) (t : List (List ℕ)) (us : List Val) → shadow (each (List ℕ) (in_array ℕ own n) t us) → (i : ℕ) → i < length t → length (get_or t i []) ≡ n
row_length n own [] us s i h = omega arith
row_length n own (x ∷ xs) [] s i h = absurd s
row_length n own (x ∷ xs) (u ∷ us) s zero h = s.0.1.0.1
row_length n own (x ∷ xs) (u ∷ us) s (suc i) h = row_length n own xs us s.1 i (omega arith)

pub length_row : (d : List ℕ) (start n : ℕ) (f : ℕ → ℕ) → start + n ≤ length d → length (paste d start (firsts n f) n) ≡ length d
length_row d start n f h = length-paste d start (firsts n f) n h (omega (arith, length_firsts n f))

-- one more row is written
pub row_more : (d : List ℕ) (cells : List (List ℕ)) (r columns start : ℕ) → start + columns ≤ length d → take start d ≡ grid cells r columns → take (start + columns) (paste d start (firsts columns (cell cells r)) columns) ≡ grid cells (r + 1) columns
row_more d cells r columns start h e =
    let s = firsts columns (cell cells r) in
    let n : length s ≡ columns = length_firsts columns (cell cells r) in
    take-paste d start s columns (omega arith) (omega arith)
    ∙ ap₂ ◌++◌ e (take_all columns s (omega arith))
    ∙ ap (λ (k : ℕ). grid cells k columns) (sym (add-one r))

pub length_grid : (cells : List (List ℕ)) (rows columns : ℕ) → length (grid cells rows columns) ≡ rows * columns
length_grid cells zero columns = omega arith
length_grid cells (suc rows) columns =
    length-append (grid cells rows columns) (firsts columns (cell cells rows))
    ∙ omega (arith, length_grid cells rows columns, length_firsts columns (cell cells rows), suc-mul rows columns)

-- the cell of a row and a column stands at its place
pub grid_at : (cells : List (List ℕ)) (rows columns r c : ℕ) → r < rows → c < columns → at (grid cells rows columns) (r * columns + c) ≡ cell cells r c
grid_at cells zero columns r c h l = absurd (not-suc-le-zero h)
grid_at cells (suc rows) columns r c h l =
    let front = grid cells rows columns in
    let row = firsts columns (cell cells rows) in
    let n : length front ≡ rows * columns = length_grid cells rows columns in
    elim (dec_lt r rows) [
      | yes b ↦ get_or-append front row 0 (r * columns + c) (rw n (row_below r rows c columns b l)) ∙ grid_at cells rows columns r c b l
      | no b ↦
          let q : r ≡ rows = omega arith in
          let e : r * columns + c ≡ length front + c = ap (λ (x : ℕ). x * columns + c) q ∙ ap (λ (x : ℕ). x + c) (sym n) in
          ap (at (front ++ row)) e ∙ get_or-append-add front row c 0 ∙ at_firsts columns (cell cells rows) c l ∙ ap (λ (x : ℕ). cell cells x c) (sym q)
    ]

-- where a list of at most two argument codes stands: its row, its column and its place
pub record InGrid (size : ℕ → ℕ) (params cs : List ℕ) : Type 0 where
  pub row : at cs 0 < width size (first params)
  pub column : at cs 1 < width size (second params)
  pub there : place size params cs ≡ at cs 0 * width size (second params) + at cs 1

pub in_grid : (size : ℕ → ℕ) (params cs : List ℕ) → length params ≤ 2 → Each (λ s. s < 8) params → InSorts size params cs → InGrid size params cs
in_grid size [] [] h e i = record { row = omega arith; column = omega arith; there = refl }
in_grid size [] (c ∷ cs) h e i = absurd i
in_grid size (s ∷ ss) [] h e i = absurd i
in_grid size (s ∷ []) (c ∷ []) h e i = record { row = rw (width_there size s e.0) i.0; column = omega arith; there = refl }
in_grid size (s ∷ []) (c ∷ (d ∷ ds)) h e i = absurd i.1
in_grid size (s ∷ (u ∷ [])) (c ∷ []) h e i = absurd i.1
in_grid size (s ∷ (u ∷ [])) (c ∷ (d ∷ [])) h e i =
    record {
      row = rw (width_there size s e.0) i.0;
      column = rw (width_there size u e.1.0) i.1.0;
      there = rw (width_there size u e.1.0) (omega (arith, ap (λ (x : ℕ). c * x) (mul-one (size u))));
    }
in_grid size (s ∷ (u ∷ [])) (c ∷ (d ∷ (x ∷ xs))) h e i = absurd i.1.1
in_grid size (s ∷ (u ∷ (v ∷ vs))) (c ∷ cs) h e i = absurd (omega arith)

-- as many argument codes as parameters
pub in_sorts_length : (size : ℕ → ℕ) (params xs : List ℕ) → InSorts size params xs → length xs ≡ length params
in_sorts_length size [] [] i = refl
in_sorts_length size [] (x ∷ xs) i = absurd i
in_sorts_length size (s ∷ ss) [] i = absurd i
in_sorts_length size (s ∷ ss) (x ∷ xs) i = ap suc (in_sorts_length size ss xs i.1)

-- the argument codes of a cell from its row and its column
pub cell_codes_lem : (params xs : List ℕ) → length xs ≡ length params → length params ≤ 2 → take (length params) (at xs 0 ∷ at xs 1 ∷ []) ≡ xs
cell_codes_lem [] [] e h = refl
cell_codes_lem [] (x ∷ xs) e h = absurd (omega arith)
cell_codes_lem (s ∷ ss) [] e h = absurd (omega arith)
cell_codes_lem (s ∷ []) (x ∷ []) e h = refl
cell_codes_lem (s ∷ []) (x ∷ y ∷ xs) e h = absurd (omega arith)
cell_codes_lem (s ∷ r ∷ ss) (x ∷ []) e h = absurd (omega arith)
cell_codes_lem (s ∷ r ∷ []) (x ∷ y ∷ []) e h = refl
cell_codes_lem (s ∷ r ∷ []) (x ∷ y ∷ z ∷ xs) e h = absurd (omega arith)
cell_codes_lem (s ∷ r ∷ q ∷ ss) (x ∷ y ∷ xs) e h = absurd (omega arith)

-- a grid that holds a structure's cells is the structure's table
pub grid_is_table : (M : Structure) (f : ℕ) (params : List ℕ) (cells : List (List ℕ)) → length params ≤ 2 → Each (λ s. s < 8) params → ((cs : List ℕ) → InSorts M.size params cs → cell cells (at cs 0) (at cs 1) ≡ M.table f cs) → grid cells (width M.size (first params)) (width M.size (second params)) ≡ table_bytes M f params
grid_is_table M f params cells h e holds =
    let rows = width M.size (first params) in
    let columns = width M.size (second params) in
    let many : rows * columns ≡ Layout.cells M.size params = cells_by_width M.size params h e in
    let n : length (grid cells rows columns) ≡ Layout.cells M.size params = length_grid cells rows columns ∙ many in
    ext_get_or 0 (grid cells rows columns) (table_bytes M f params) (n ∙ sym (length_table M f params))
    (λ k l.
    let x = codes_at M.size params k (rw n at l) in
    let g = in_grid M.size params x.codes h e x.in_sorts in
    ap (at (grid cells rows columns)) (sym x.there ∙ g.there)
    ∙ grid_at cells rows columns (at x.codes 0) (at x.codes 1) g.row g.column
    ∙ holds x.codes x.in_sorts
    ∙ sym (table_at_place M f params x.codes x.in_sorts)
    ∙ ap (at (table_bytes M f params)) x.there)
