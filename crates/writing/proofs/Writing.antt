-- The tables of an answer written one stretch after the other: each is the whole table of its symbol. Throughout, the buffer holds the answer's bytes
-- up to the offset of the next table and behind it what stood there.
use Prim.Native.Nat.{ℕ, ◌+◌, ◌-◌, ◌*◌, ◌≤◌, ◌<◌}
use native.Mathlib.Omega.{arith}
use native.Mathlib.Decide.{dec_lt}
use native.Mathlib.Nat.{add-zero}
use native.Mathlib.Numerals.{add-one}
use mathlib.Core.Path.{◌≡◌, refl, ap, ap₂, sym, ◌∙◌, fun_ext}
use mathlib.Core.List.{List, ◌∷◌, ◌++◌, append_assoc}
use mathlib.Core.Option.{get_or}
use lib.ListN.{length, take, drop, take-append-drop, get_or-eq_default}
use lib.Seq.{take_at, drop_at, drop-drop, length-take-le}
use borrow.Rule.Slice.PartMut.{put_mid, same_len_mid, mid_len}
use Rattle.logic.specs.Sheet.{Sheet, symbol_at}
use Rattle.prelude.specs.Tests.{Each}
use Rattle.prelude.specs.Lists.{at, firsts, fronted}
use Rattle.prelude.proofs.Lists.{length_firsts, at_firsts, firsts_same, sum_to_grows, each_more}
use Rattle.logic.specs.Structure.{Structure, InSorts}
use Rattle.logic.specs.WellFormed.{WellFormed}
use Rattle.layout.specs.Packed.{first, second, view}
use Rattle.layout.specs.declared.Parsed.{Parsed}
use Rattle.tables.specs.Layout.{cells, offset, extent, table_bytes}
use Rattle.tables.specs.Grid.{grid, cell}
use Rattle.tables.specs.Parts.{Packs, Extents, Limited, width}
use Rattle.tables.proofs.Whole.{packs_limited}
use Rattle.tables.proofs.Grids.{length_grid, in_grid, in_sorts_length, cell_codes_lem, grid_is_table}
use Rattle.tables.proofs.Tables.{length_encoded, encoded_sizes, encoded_more, encoded_whole}
use Rattle.tables.proofs.Packing.{packs_views, param0_packed, param1_packed, params_below_8, cells_packed, symbols_packed}
use Rattle.tables.proofs.Offsets.{offset_same}
use Rattle.tables.proofs.Widths.{widths_same, width_small}
use Rattle.answer.specs.Answer.{Entry, entry_of, structure_of, cells_from, unforced}
use Rattle.answer.specs.Answer as Answer
use Rattle.writing.specs.Written.{unforced_at, Writable, answer_bytes}
use Rattle.writing.specs.Parts.{row_of, column_of, Filled, held}
use Rattle.writing.proofs.Reach.{cell_held}

module _ (sh : Sheet) (p : Parsed) (k : Packs sh p) (size c : ℕ → ℕ) (sixteen : (s : ℕ) → s < length sh.bounds → size s ≤ 16) (past : (i : ℕ) → length sh.terms ≤ i → c i ≡ 0) where
  abbrev w : WellFormed sh
  w = k.formed

  abbrev e : Entry
  e = entry_of sh size c

  abbrev M : Structure
  M = structure_of sh e

  own_size : (s : ℕ) → s < length sh.bounds → M.size s ≡ size s
  own_size s h = at_firsts (length sh.bounds) size s h

  own_codes : at e.codes ≡ c
  own_codes = fun_ext (λ i. by i (dec_lt i (length sh.terms)))
    where
      by : (i : ℕ) → Dec (i < length sh.terms) → at e.codes i ≡ c i
      by i (yes h) = at_firsts (length sh.terms) c i h
      by i (no h) =
          get_or-eq_default e.codes 0 {n = i} (omega (arith, length_firsts (length sh.terms) c)) ∙ sym (past i (omega arith))

  small_params : (f : ℕ) → f < length sh.symbols → Each (λ s. size s ≤ 16) (symbol_at sh f).params
  small_params f h = each_more (symbol_at sh f).params sixteen (w.params f h)

  -- the rows and columns of a symbol's table
  pub widths_small : (f : ℕ) → f < length sh.symbols → (width size (at p.param0 f) ≤ 16) × (width size (at p.param1 f) ≤ 16)
  widths_small f h =
      let both = width_small size (symbol_at sh f).params (params_below_8 sh p k f h) (small_params f h) in
      (rw (param0_packed sh p k f h) both.0, rw (param1_packed sh p k f h) both.1)

  -- the rows and columns of a symbol's table at the answer's own sizes
  own_widths : (f : ℕ) → f < length sh.symbols → (width size (at p.param0 f) ≡ width M.size (first (symbol_at sh f).params)) × (width size (at p.param1 f) ≡ width M.size (second (symbol_at sh f).params))
  own_widths f h =
      let same = widths_same (length sh.bounds) size M.size (symbol_at sh f).params (w.params f h) (λ s l. sym (own_size s l)) in
      (ap (width size) (param0_packed sh p k f h) ∙ same.0, ap (width size) (param1_packed sh p k f h) ∙ same.1)

  -- a table filled for symbol f
  abbrev Full : ℕ → List (List ℕ) → Type 0
  Full f t =
      Filled (view p) c f (unforced_at sh size c f) (width size (at p.param0 f)) (width size (at p.param1 f)) 0 p.terms t

  -- what stands in a cell of the filled table
  filled_cell : (f : ℕ) → f < length sh.symbols → (t : List (List ℕ)) → Full f t → (xs : List ℕ) → InSorts M.size (symbol_at sh f).params xs → cell t (row_of xs) (column_of xs) ≡ M.table f xs
  filled_cell f h t filled xs i =
      let params = (symbol_at sh f).params in
      let v = packs_views sh p k in
      let widths = own_widths f h in
      let inside = in_grid M.size params xs (w.arity f h) (params_below_8 sh p k f h) i in
      let many = in_sorts_length M.size params xs i in
      filled (row_of xs) (column_of xs) (rw widths.0 inside.row) (rw widths.1 inside.column)
      ∙ ap (held (view p) c f (row_of xs) (column_of xs) (unforced_at sh size c f (row_of xs) (column_of xs)) 0) v.terms
      ∙ sym (cell_held sh (view p) w v c (past 255 (omega (arith, w.terms))) f xs many (unforced_at sh size c f (row_of xs) (column_of xs)))
      ∙ ap₂ (λ (g : ℕ → ℕ) (ys : List ℕ). get_or (Answer.cell_at (f ∷ xs) (cells_from g 0 sh.terms)) (unforced sh e f ys)) (sym own_codes) (cell_codes_lem params xs many (w.arity f h))

  -- THE TABLE of a symbol, as it is written
  pub table_written :
      (f : ℕ) → f < length sh.symbols → (t : List (List ℕ)) → Full f t
      → grid t (width size (at p.param0 f)) (width size (at p.param1 f)) ≡ table_bytes M f (symbol_at sh f).params
  table_written f h t filled =
      ap₂ (grid t) (own_widths f h).0 (own_widths f h).1
      ∙ grid_is_table M f (symbol_at sh f).params t (w.arity f h) (params_below_8 sh p k f h) (filled_cell f h t filled)

  -- the stretch of a table, and the stretches before it
  pub stretch : (offsets : List ℕ) → Extents p size offsets → (f : ℕ) → f < length sh.symbols → at offsets (f + 1) ≡ at offsets f + width size (at p.param0 f) * width size (at p.param1 f)
  stretch offsets x f h =
      x.offset sh k (f + 1) (omega arith)
      ∙ ap (offset sh size) (add-one f)
      ∙ omega (arith, x.offset sh k f (omega arith), cells_packed sh p k size f h)

  -- THE BUFFER after the tables of the first f symbols: the answer's bytes up to the next offset, then what was there
  abbrev pub WrittenTo : List ℕ → ℕ → List ℕ → Type 0
  WrittenTo d f d' = d' ≡ take (offset sh M.size f) (answer_bytes sh size c) ++ drop (offset sh M.size f) d

  pub same_offset : (f : ℕ) → f ≤ length sh.symbols → offset sh M.size f ≡ offset sh size f
  same_offset f h = offset_same sh w M.size size own_size f h

  offset_within : (f : ℕ) → f ≤ length sh.symbols → offset sh M.size f ≤ length (answer_bytes sh size c)
  offset_within f h = omega (arith, length_encoded M sh w, sum_to_grows f (length sh.symbols) (λ g. cells M.size (symbol_at sh g).params) h)

  pub written_none : (d : List ℕ) → length sh.bounds ≤ length d → take (length sh.bounds) d ≡ firsts (length sh.bounds) size → WrittenTo d 0 d
  written_none d h s =
      let n = length sh.bounds in
      sym (take-append-drop n d)
      ∙ ap (λ (l : List ℕ). l ++ drop n d) (s ∙ firsts_same n size M.size (λ i l. sym (own_size i l)) ∙ sym (encoded_sizes M sh w))
      ∙ ap (λ (m : ℕ). take m (answer_bytes sh size c) ++ drop m d) (sym (add-zero n))

  pub written_more :
      (d d' : List ℕ) (f start many : ℕ) (bytes : List ℕ) → WrittenTo d f d' → f < length sh.symbols → extent sh size ≤ length d
      → start ≡ offset sh size f → many ≡ cells size (symbol_at sh f).params → bytes ≡ table_bytes M f (symbol_at sh f).params
      → WrittenTo d (f + 1) (put_mid start many d' bytes)
  written_more d d' f start many bytes so_far h room at-start so-many right =
      let B = answer_bytes sh size c in
      let o = offset sh M.size f in
      let here : start ≡ o = at-start ∙ sym (same_offset f (omega arith)) in
      let long : length (take o B) ≡ o = length-take-le o B (offset_within f (omega arith)) in
      let next : o + many ≡ offset sh M.size (f + 1) =
      omega (arith, same_offset f (omega arith), same_offset (f + 1) (omega arith), so-many, ap (offset sh size) (add-one f)) in
      ap (λ (l : List ℕ). take start l ++ (bytes ++ drop many (drop start l))) so_far
      ∙ ap₂ (λ (a b : List ℕ). a ++ (bytes ++ drop many b)) (take_at (take o B) (drop o d) start (long ∙ sym here)) (drop_at (take o B) (drop o d) start (long ∙ sym here))
      ∙ ap₂ (λ (a b : List ℕ). take o B ++ (a ++ b)) right (drop-drop many o d ∙ ap (λ (n : ℕ). drop n d) next)
      ∙ sym (append_assoc (take o B) (table_bytes M f (symbol_at sh f).params) (drop (offset sh M.size (f + 1)) d))
      ∙ ap (λ (l : List ℕ). l ++ drop (offset sh M.size (f + 1)) d) (sym (ap (λ (n : ℕ). take (offset sh M.size n) B) (add-one f) ∙ encoded_more M sh w f h))

  pub written_all : (d d' : List ℕ) → WrittenTo d (length sh.symbols) d' → d' ≡ answer_bytes sh size c ++ drop (length (answer_bytes sh size c)) d
  written_all d d' so_far =
      so_far
      ∙ ap₂ (λ (l : List ℕ) (n : ℕ). l ++ drop n d) (encoded_whole M sh w) (sym (length_encoded M sh w))

-- What the loop over the symbols keeps.
pub record TablesTo (p : Parsed) (size c : ℕ → ℕ) (offsets d : List ℕ) (f : ℕ) (d' : List ℕ) : Type 0 where
  pub within : f ≤ p.symbols
  pub long : length d' ≡ length d
  pub laid : Extents p size offsets
  pub wrote :
      (sh : Sheet) (k : Packs sh p) (sixteen : (s : ℕ) → s < length sh.bounds → size s ≤ 16) (past : (i : ℕ) → length sh.terms ≤ i → c i ≡ 0)
      → take (length sh.bounds) d ≡ firsts (length sh.bounds) size → WrittenTo sh p k size c sixteen past d f d'

module _ (p : Parsed) (size c : ℕ → ℕ) (d : List ℕ) (w : Writable p size c (length d)) where
  -- what is asked of one sheet holds of every sheet that the parsed sheet stands for
  same_sorts : (sh : Sheet) → Packs sh p → length sh.bounds ≡ length w.sheet.bounds
  same_sorts sh k = sym (packs_views sh p k).sorts ∙ (packs_views w.sheet p w.packs).sorts

  pub every_size : (sh : Sheet) → Packs sh p → (s : ℕ) → s < length sh.bounds → size s ≤ 16
  every_size sh k s h = w.sizes s (omega (arith, same_sorts sh k))

  pub every_past : (sh : Sheet) → Packs sh p → (i : ℕ) → length sh.terms ≤ i → c i ≡ 0
  every_past sh k i h = w.past i (omega (arith, (packs_views sh p k).terms, (packs_views w.sheet p w.packs).terms))

  pub limits : Limited p
  limits = packs_limited w.sheet p w.packs

  pub sizes_fit : p.sorts ≤ length d
  sizes_fit = omega (arith, (packs_views w.sheet p w.packs).sorts, w.room)

  pub tables_none : (offsets : List ℕ) → Extents p size offsets → TablesTo p size c offsets d 0 d
  tables_none offsets x =
      record {
        within = omega arith;
        long = refl;
        laid = x;
        wrote = λ sh k six past s. written_none sh p k size c six past d (omega (arith, same_sorts sh k, w.room)) s;
      }

  module _ (offsets d' : List ℕ) (f : ℕ) (so_far : TablesTo p size c offsets d f d') (more : f < p.symbols) where
    symbols_there : f < length w.sheet.symbols
    symbols_there = omega (arith, symbols_packed w.sheet p w.packs)

    pub rows_fit : (width size (at p.param0 f) ≤ 16) × (width size (at p.param1 f) ≤ 16)
    rows_fit = widths_small w.sheet p w.packs size c w.sizes w.past f symbols_there

    pub next_offset : at offsets (f + 1) ≡ at offsets f + width size (at p.param0 f) * width size (at p.param1 f)
    next_offset = stretch w.sheet p w.packs size c w.sizes w.past offsets so_far.laid f symbols_there

    pub stretch_within : at offsets (f + 1) ≤ length d'
    stretch_within =
        omega (
          arith,
          so_far.laid.offset w.sheet w.packs (f + 1) (omega (arith, symbols_there)),
          so_far.long,
          w.room,
          sum_to_grows (f + 1) (length w.sheet.symbols) (λ g. cells size (symbol_at w.sheet g).params) (omega (arith, symbols_there)),
        )

    -- the end of all tables is that of one sheet as of the other
    room_for : (sh : Sheet) → Packs sh p → extent sh size ≤ length d
    room_for sh k =
        let here : at offsets p.symbols ≡ extent w.sheet size =
        ap (at offsets) (symbols_packed w.sheet p w.packs) ∙ so_far.laid.offset w.sheet w.packs (length w.sheet.symbols) (omega arith) in
        let there : at offsets p.symbols ≡ extent sh size =
        ap (at offsets) (symbols_packed sh p k) ∙ so_far.laid.offset sh k (length sh.symbols) (omega arith) in
        omega (arith, w.room)

    pub tables_more :
        (t : List (List ℕ)) (bytes : List ℕ) (rows columns : ℕ)
        → ((sh : Sheet) (size' : ℕ → ℕ) → Packs sh p → f < length sh.symbols → Filled (view p) c f (unforced_at sh size' c f) rows columns 0 p.terms t)
        → rows ≡ width size (at p.param0 f) → columns ≡ width size (at p.param1 f) → bytes ≡ grid t rows columns
        → TablesTo p size c offsets d (f + 1) (put_mid (at offsets f) (at offsets (f + 1) - at offsets f) d' bytes)
    tables_more t bytes rows columns filled r s b =
        let many = at offsets (f + 1) - at offsets f in
        let so-many : rows * columns ≡ many = ap₂ (λ (x y : ℕ). x * y) r s ∙ omega (arith, next_offset) in
        record {
          within = omega arith;
          long =
              same_len_mid (at offsets f) many d' bytes
              (ap length b ∙ length_grid t rows columns ∙ so-many ∙ sym (mid_len (at offsets f) (at offsets (f + 1)) d' stretch_within))
              ∙ so_far.long;
          laid = so_far.laid;
          wrote = λ sh k six past z.
              let h : f < length sh.symbols = omega (arith, symbols_packed sh p k) in
              written_more sh p k size c six past d d' f (at offsets f) many bytes (so_far.wrote sh k six past z) h (room_for sh k)
              (so_far.laid.offset sh k f (omega arith))
              (omega (arith, next_offset, cells_packed sh p k size f h))
              (b ∙ ap₂ (grid t) r s ∙ table_written sh p k size c six past f h t (rw (← r, ← s) (filled sh size k h)));
        }

  pub tables_all :
      (offsets d' : List ℕ) (f : ℕ) → TablesTo p size c offsets d f d' → p.symbols ≤ f → (sh : Sheet) → Packs sh p
      → take (length sh.bounds) d ≡ firsts (length sh.bounds) size → d' ≡ fronted (answer_bytes sh size c) d
  tables_all offsets d' f so_far done sh k s =
      let last : f ≡ length sh.symbols = omega (arith, so_far.within, symbols_packed sh p k) in
      written_all sh p k size c (every_size sh k) (every_past sh k) d d'
      (rw (← last) (so_far.wrote sh k (every_size sh k) (every_past sh k) s))
