-- The cells of a table one after the other: the codes of each by row and column, its expression and its same statement.
use Prim.Native.Nat.{ℕ, ◌+◌, ◌*◌, ◌/◌, ◌%◌, ◌≤◌, ◌<◌}
use native.Mathlib.Nat.{not-suc-le-zero, mul-zero, mul-add-div_right, mul-add-mod_self_right, div-eq_of_lt, mod-eq_of_lt, div-lt_iff_lt-mul, mod-lt}
use native.Mathlib.Decide.{dec_lt}
use native.Mathlib.Omega.{arith}
use mathlib.Core.Path.{◌≡◌, refl, ap, ap₂, sym, subst, ◌∙◌}
use mathlib.Core.List.{List, [], ◌∷◌}
use lib.ListN.{length, get_or, take, drop}
use Rattle.prelude.specs.Lists.{at, sum_to, collect}
use Rattle.prelude.specs.Tests.{Each}
use Rattle.prelude.specs.Limits.{missing}
use Rattle.prelude.proofs.Lists.{at_map, each_more, sum_to_grows}
use Rattle.prelude.proofs.Collect.{collect_same, map_singles}
use Rattle.logic.specs.Sheet.{Sheet, Term, Literal, symbol_at, no_term, no_literal}
use Rattle.logic.specs.Structure.{Structure}
use Rattle.logic.specs.Order.{sum_of}
use Rattle.layout.specs.Packed.{first, second}
use Rattle.layout.specs.Parts.{payload_bytes}
use Rattle.layout.specs.Payloads.{Short}
use Rattle.layout.specs.declared.Parsed.{Parsed}
use Rattle.layout.specs.declared.Payload.{Payload}
use Rattle.tables.specs.Layout.{cells, table_bytes}
use Rattle.tables.specs.Parts.{Packs, width}
use Rattle.tables.proofs.Packing.{params_below_8, param0_packed, param1_packed, cells_packed}
use Rattle.tables.proofs.Cells.{cells_same}
use Rattle.tables.proofs.Widths.{widths_same, width_small}
use Rattle.tables.proofs.Tables.{codes_at, length_box, box_at_place}
use Rattle.tables.proofs.Grids.{in_grid, in_sorts_length, cell_codes_lem}
use Rattle.fitted_sheet.specs.FittedSheet.{code_term, table_cells, code_args, cell_term, same, table_terms, table_sames}
use Rattle.assembling.specs.Parts.{Source, SizesOf, StartsOf, CellPayload, sames_of}

-- row and column of a place
row_and_column : (k x y n : ℕ) → k ≡ x * n + y → y < n → (k / n ≡ x) × (k % n ≡ y)
row_and_column k x y n e h = (
  ap (λ (m : ℕ). m / n) e ∙ mul-add-div_right (omega arith) x y ∙ ap (λ (z : ℕ). x + z) (div-eq_of_lt h) ∙ omega arith,
  ap (λ (m : ℕ). m % n) e ∙ mul-add-mod_self_right x n y ∙ mod-eq_of_lt h,
)

-- an expression of symbol f at the codes of a row and a column
abbrev pub cell_term_at : Sheet → Structure → ℕ → ℕ → ℕ → Term
cell_term_at sh M f row col =
    record { symbol = f; args = code_args M (symbol_at sh f).params (take (length (symbol_at sh f).params) (row ∷ col ∷ [])) }

module _ (sh : Sheet) (p : Parsed) (k : Packs sh p) (M : Structure) (f : ℕ) (h : f < length sh.symbols) where
  abbrev params : List ℕ
  params = (symbol_at sh f).params

  abbrev columns : ℕ
  columns = width M.size (second params)

  -- the codes of the cell at a place
  at_place : (i : ℕ) → (l : i < cells M.size params) → get_or (table_cells sh M f) i [] ≡ (codes_at M.size params i l).codes
  at_place i l =
      let x = codes_at M.size params i l in
      ap (λ (j : ℕ). get_or (table_cells sh M f) j []) (sym x.there) ∙ box_at_place M.size params x.codes x.in_sorts

  by_row_and_column : (i : ℕ) → i < cells M.size params → get_or (table_cells sh M f) i [] ≡ take (length params) (i / columns ∷ i % columns ∷ [])
  by_row_and_column i l =
      let x = codes_at M.size params i l in
      let g = in_grid M.size params x.codes (k.formed.arity f h) (params_below_8 sh p k f h) x.in_sorts in
      let rc = row_and_column i (at x.codes 0) (at x.codes 1) columns (sym x.there ∙ g.there) g.column in
      at_place i l
      ∙ sym (cell_codes_lem params x.codes (in_sorts_length M.size params x.codes x.in_sorts) (k.formed.arity f h))
      ∙ ap₂ (λ (a b : ℕ). take (length params) (a ∷ b ∷ [])) (sym rc.0) (sym rc.1)

  -- the expressions of a table's cells, by row and column
  pub table_terms_lem : table_terms sh M f ≡ collect (cells M.size params) (λ i. cell_term_at sh M f (i / columns) (i % columns) ∷ [])
  table_terms_lem =
      map_singles (λ cs. record { symbol = f; args = code_args M params cs }) [] no_term (table_cells sh M f)
      ∙ ap (λ (n : ℕ). collect n (λ i. record { symbol = f; args = code_args M params (get_or (table_cells sh M f) i []) } ∷ [])) (length_box M.size params)
      ∙ collect_same (cells M.size params) _ _
      (λ i l. ap (λ (cs : List ℕ). record { symbol = f; args = code_args M params cs } ∷ []) (by_row_and_column i l))

  -- the same statements of a table's cells, from its bytes
  pub table_sames_lem : (number start : ℕ) (l : List ℕ) → number ≡ sum_of M sh + sum_to f (λ g. cells M.size (symbol_at sh g).params)
      → start ≡ sum_to (symbol_at sh f).result M.size → length l ≡ cells M.size params
      → ((i : ℕ) → i < length l → at l i ≡ at (table_bytes M f params) i) → table_sames sh M f ≡ sames_of number start l
  table_sames_lem number start l en es long holds =
      map_singles statement [] no_literal (table_cells sh M f)
      ∙ ap (λ (n : ℕ). collect n (λ i. statement (get_or (table_cells sh M f) i []) ∷ [])) (length_box M.size params ∙ sym long)
      ∙ collect_same (length l) _ _ (λ i b. ap₂ (λ (x y : ℕ). same x y ∷ []) (left i b) (right i b))
    where
      statement : List ℕ → Literal
      statement cs = same (cell_term sh M f cs) (code_term M (symbol_at sh f).result (M.table f cs))

      inside : (i : ℕ) → i < length l → i < cells M.size params
      inside i b = omega arith

      left : (i : ℕ) → i < length l → cell_term sh M f (get_or (table_cells sh M f) i []) ≡ number + i
      left i b =
          let x = codes_at M.size params i (inside i b) in
          ap (cell_term sh M f) (at_place i (inside i b)) ∙ omega (arith, x.there)

      right : (i : ℕ) → i < length l → code_term M (symbol_at sh f).result (M.table f (get_or (table_cells sh M f) i [])) ≡ start + at l i
      right i b =
          let e = at_map (M.table f) (table_cells sh M f) [] i (omega (arith, inside i b, length_box M.size params)) in
          ap₂ (λ (x y : ℕ). x + y) (sym es) (sym e ∙ sym (holds i b))

-- ---- the payload of a cell's expression
-- parameters by their number; none has the number of a missing one
no_params : (params : List ℕ) → Each (λ s. s < 8) params → first params ≡ missing → params ≡ []
no_params [] b e = refl
no_params (s ∷ l) b e = absurd (omega (arith, b.0))

one_param : (params : List ℕ) → Each (λ s. s < 8) params → (first params ≡ missing → ⊥) → second params ≡ missing → params ≡ first params ∷ []
one_param [] b d e = absurd (d refl)
one_param (s ∷ []) b d e = refl
one_param (s ∷ r ∷ l) b d e = absurd (omega (arith, b.1.0))

two_params : (params : List ℕ) → length params < 3 → (first params ≡ missing → ⊥) → (second params ≡ missing → ⊥) → params ≡ first params ∷ second params ∷ []
two_params [] n d e = absurd (d refl)
two_params (s ∷ []) n d e = absurd (e refl)
two_params (s ∷ r ∷ []) n d e = refl
two_params (s ∷ r ∷ q ∷ l) n d e = absurd (omega arith)

-- a parameter that is there has what each has
first_each : (P : ℕ → Type 0) (params : List ℕ) → Each P params → (first params ≡ missing → ⊥) → P (first params)
first_each P [] e d = absurd (d refl)
first_each P (s ∷ l) e d = e.0

second_each : (P : ℕ → Type 0) (params : List ℕ) → Each P params → (second params ≡ missing → ⊥) → P (second params)
second_each P [] e d = absurd (d refl)
second_each P (s ∷ []) e d = absurd (d refl)
second_each P (s ∷ r ∷ l) e d = e.1.0

-- the expression of a code of a field that is there has a number of one byte
pub code_fits : (p : Parsed) (t : Source p) (starts : ℕ → ℕ) → StartsOf t starts → (s code : ℕ) → s < length t.sheet.bounds → code < 16 → (s < 8) × (starts s + code < 256)
code_fits p t starts st s code h l = (
  omega (arith, t.packs.formed.sorts),
  omega (arith, st s h, t.most, sum_to_grows s (length t.sheet.bounds) t.structure.size (omega arith)),
)

module _ (p : Parsed) (t : Source p) (f : ℕ) (h : f < length t.sheet.symbols) where
  pub first_there : (at p.param0 f ≡ missing → ⊥) → at p.param0 f < length t.sheet.bounds
  first_there d =
      let e = param0_packed t.sheet p t.packs f h in
      rw e (first_each (λ s. s < length t.sheet.bounds) (symbol_at t.sheet f).params (t.packs.formed.params f h) (λ z. d (e ∙ z)))

  pub second_there : (at p.param1 f ≡ missing → ⊥) → at p.param1 f < length t.sheet.bounds
  second_there d =
      let e = param1_packed t.sheet p t.packs f h in
      rw e (second_each (λ s. s < length t.sheet.bounds) (symbol_at t.sheet f).params (t.packs.formed.params f h) (λ z. d (e ∙ z)))

-- rows and columns of a table at the sizes of the structure
pub record TableWidths (p : Parsed) (t : Source p) (size : ℕ → ℕ) (f : ℕ) : Type 0 where
  pub rows : width size (at p.param0 f) ≤ 16
  pub columns : width size (at p.param1 f) ≤ 16
  pub same : width size (at p.param1 f) ≡ width t.structure.size (second (symbol_at t.sheet f).params)
  pub many : width size (at p.param0 f) * width size (at p.param1 f) ≡ cells t.structure.size (symbol_at t.sheet f).params

pub table_widths : (p : Parsed) (t : Source p) (size : ℕ → ℕ) → SizesOf t size → (f : ℕ) → f < length t.sheet.symbols → TableWidths p t size f
table_widths p t size sizes f h =
    let sh = t.sheet in
    let ps = (symbol_at sh f).params in
    let there = t.packs.formed.params f h in
    let below = params_below_8 sh p t.packs f h in
    let e0 = param0_packed sh p t.packs f h in
    let e1 = param1_packed sh p t.packs f h in
    let small = width_small size ps below (each_more {q = λ s. size s ≤ 16} ps (λ s l. omega (arith, sizes s l, t.small s l)) there) in
    record {
      rows = rw e0 small.0;
      columns = rw e1 small.1;
      same = ap (width size) e1 ∙ (widths_same (length sh.bounds) size t.structure.size ps there sizes).1;
      many = cells_packed sh p t.packs size f h ∙ cells_same (length sh.bounds) size t.structure.size ps there sizes;
    }

-- row and column of a place in a table of at most 16 rows and columns
pub in_table : (k m n : ℕ) → k < m * n → m ≤ 16 → n ≤ 16 → (k / n < 16) × (k % n < 16) × (0 < n)
in_table k m n h r c =
    let pos : 0 < n = elim (dec_lt 0 n) [ yes l ↦ l | no l ↦ let e : n ≡ 0 = omega arith in absurd (not-suc-le-zero (rw (e, mul-zero m) at h)) ] in
    let row : k / n < m = (div-lt_iff_lt-mul pos).1 h in
    (omega (arith, row), omega (arith, mod-lt k pos), pos)

module _ (p : Parsed) (t : Source p) (starts : ℕ → ℕ) (st : StartsOf t starts) (f row col : ℕ) (h : f < length t.sheet.symbols) (name : ℕ) (is : name ≡ f) where
  abbrev ps : List ℕ
  ps = (symbol_at t.sheet f).params

  first_is : at p.param0 f ≡ first ps
  first_is = param0_packed t.sheet p t.packs f h

  second_is : at p.param1 f ≡ second ps
  second_is = param1_packed t.sheet p t.packs f h

  few : Each (λ s. s < 8) ps
  few = params_below_8 t.sheet p t.packs f h

  pub payload_none : {z : Short 1 missing missing} → at p.param0 f ≡ missing → CellPayload t f row col (record { len = 1; b0 = name; b1 = missing; b2 = missing; short = z })
  payload_none e =
      let none : ps ≡ [] = no_params ps few (sym first_is ∙ e) in
      record {
        symbol = is;
        args = ap (λ (l : List ℕ). code_args t.structure l (take (length l) (row ∷ col ∷ []))) (sym none);
      }

  pub payload_one :
      (x : ℕ) → {z : Short 2 x missing} → (at p.param0 f ≡ missing → ⊥) → at p.param1 f ≡ missing → x ≡ starts (at p.param0 f) + row
      → CellPayload t f row col (record { len = 2; b0 = name; b1 = x; b2 = missing; short = z })
  payload_one x d e q =
      let one : ps ≡ first ps ∷ [] = one_param ps few (λ z. d (first_is ∙ z)) (sym second_is ∙ e) in
      let there : first ps < length t.sheet.bounds = (subst (λ (l : List ℕ). Each (λ s. s < length t.sheet.bounds) l) one (t.packs.formed.params f h)).0 in
      record {
        symbol = is;
        args =
            ap (λ (y : ℕ). y ∷ []) (q ∙ ap (λ (s : ℕ). starts s + row) first_is ∙ ap (λ (y : ℕ). y + row) (st (first ps) there))
            ∙ ap (λ (l : List ℕ). code_args t.structure l (take (length l) (row ∷ col ∷ []))) (sym one);
      }

  pub payload_two :
      (x y : ℕ) → {z : Short 3 x y} → (at p.param0 f ≡ missing → ⊥) → (at p.param1 f ≡ missing → ⊥) → x ≡ starts (at p.param0 f) + row → y ≡ starts (at p.param1 f) + col
      → CellPayload t f row col (record { len = 3; b0 = name; b1 = x; b2 = y; short = z })
  payload_two x y d e q r =
      let two : ps ≡ first ps ∷ second ps ∷ [] = two_params ps (omega (arith, t.packs.formed.arity f h)) (λ z. d (first_is ∙ z)) (λ z. e (second_is ∙ z)) in
      let there = subst (λ (l : List ℕ). Each (λ s. s < length t.sheet.bounds) l) two (t.packs.formed.params f h) in
      record {
        symbol = is;
        args =
            ap₂ (λ (a b : ℕ). a ∷ b ∷ [])
            (q ∙ ap (λ (s : ℕ). starts s + row) first_is ∙ ap (λ (z : ℕ). z + row) (st (first ps) there.0))
            (r ∙ ap (λ (s : ℕ). starts s + col) second_is ∙ ap (λ (z : ℕ). z + col) (st (second ps) there.1.0))
            ∙ ap (λ (l : List ℕ). code_args t.structure l (take (length l) (row ∷ col ∷ []))) (sym two);
      }

-- the expression that such a payload says
pub payload_term : (p : Parsed) (t : Source p) (f row col : ℕ) (r : Payload) → CellPayload t f row col r → record { symbol = r.b0; args = drop 1 (payload_bytes r) } ≡ cell_term_at t.sheet t.structure f row col
payload_term p t f row col r c = ap₂ term c.symbol c.args
  where
    term : ℕ → List ℕ → Term
    term s l = record { symbol = s; args = l }
