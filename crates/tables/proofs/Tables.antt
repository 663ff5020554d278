-- The tables of a structure: cell by cell they hold the structure, they are well laid, and their length is the extent at its sizes.
use Prim.Native.Nat.{ℕ, zero, suc, ◌+◌, ◌*◌, ◌-◌, ◌/◌, ◌%◌, ◌≤◌, ◌<◌}
use native.Mathlib.Nat.{not-suc-le-zero, le_of_suc-le-suc, suc-mul, mul-zero, div-add-mod', div-lt_iff_lt-mul, mod-lt}
use native.Mathlib.Decide.{dec_lt}
use native.Mathlib.Omega.{arith}
use mathlib.Core.Path.{◌≡◌, refl, ap, ap₂, sym, ◌∙◌}
use mathlib.Core.List.{List, [], ◌∷◌, ◌++◌, map, append_assoc}
use lib.ListN.{length, get_or, take, length-append, length-map, get_or-append}
use lib.Seq.{get_or-append-add, take-append-add, take_at, take_all, ext_get_or}
use Rattle.logic.specs.Sheet.{Sheet, Symbol, bound_at, symbol_at, term_at, no_symbol}
use Rattle.prelude.specs.Lists.{at, sum_to, firsts, run}
use Rattle.prelude.proofs.Lists.{length_firsts, at_firsts, sum_to_monotone, get_d_map, at_map}
use Rattle.logic.specs.Structure.{Structure, InSorts, Interprets, code, Satisfies, Bounded}
use Rattle.logic.specs.WellFormed.{WellFormed}
use Rattle.logic.specs.Box.{Range, fronts, box}
use Rattle.logic.proofs.Codes.{reached_in_params, same_code, satisfies_same}
use Rattle.tables.specs.Layout.{cells, place, offset, extent, decoded, table_bytes, tables_from, encoded, WellLaid}
use Rattle.tables.proofs.Cells.{place_below, place_same, cells_same, cells_monotone}
use Rattle.tables.proofs.Offsets.{offset_same}

-- the ranges of the argument codes
abbrev ranges : (ℕ → ℕ) → List ℕ → List Range
ranges size params = map (λ s. record { least = 0; many = size s }) params

length_fronts : (least many : ℕ) (tails : List (List ℕ)) → length (fronts (run least many) tails) ≡ many * length tails
length_fronts least zero tails = omega arith
length_fronts least (suc many) tails =
    length-append (map (λ (l : List ℕ). least ∷ l) tails) (fronts (run (suc least) many) tails)
    ∙ omega (arith, length-map tails (λ (l : List ℕ). least ∷ l), length_fronts (suc least) many tails, suc-mul many (length tails))

-- a box of argument codes has as many entries as the table has cells
pub length_box : (size : ℕ → ℕ) (params : List ℕ) → length (box (ranges size params)) ≡ cells size params
length_box size [] = refl
length_box size (s ∷ ss) = length_fronts 0 (size s) (box (ranges size ss)) ∙ ap (λ (n : ℕ). size s * n) (length_box size ss)

fronts_at : (least many : ℕ) (tails : List (List ℕ)) (c p : ℕ) → c < many → p < length tails → get_or (fronts (run least many) tails) (c * length tails + p) [] ≡ (least + c) ∷ get_or tails p []
fronts_at least zero tails c p h l = absurd (not-suc-le-zero h)
fronts_at least (suc many) tails zero p h l =
    let front = map (λ (y : List ℕ). least ∷ y) tails in
    let rest = fronts (run (suc least) many) tails in
    let e : 0 * length tails + p ≡ p = omega arith in
    let x : least ≡ least + 0 = omega arith in
    ap (λ (k : ℕ). get_or (front ++ rest) k []) e
    ∙ get_or-append front rest [] p (rw length-map l)
    ∙ get_d_map (λ (y : List ℕ). least ∷ y) [] [] tails p l
    ∙ ap (λ (z : ℕ). z ∷ get_or tails p []) x
fronts_at least (suc many) tails (suc c) p h l =
    let front = map (λ (y : List ℕ). least ∷ y) tails in
    let rest = fronts (run (suc least) many) tails in
    let e : suc c * length tails + p ≡ length front + (c * length tails + p) = omega (arith, suc-mul c (length tails), length-map tails (λ (y : List ℕ). least ∷ y)) in
    let x : suc least + c ≡ least + suc c = omega arith in
    ap (λ (k : ℕ). get_or (front ++ rest) k []) e
    ∙ get_or-append-add front rest (c * length tails + p) []
    ∙ fronts_at (suc least) many tails c p (le_of_suc-le-suc h) l
    ∙ ap (λ (z : ℕ). z ∷ get_or tails p []) x

-- the entry at a cell's place is the list of its argument codes
pub box_at_place : (size : ℕ → ℕ) (params cs : List ℕ) → InSorts size params cs → get_or (box (ranges size params)) (place size params cs) [] ≡ cs
box_at_place size [] [] i = refl
box_at_place size [] (c ∷ cs) i = absurd i
box_at_place size (s ∷ ss) [] i = absurd i
box_at_place size (s ∷ ss) (c ∷ cs) i =
    let tails = box (ranges size ss) in
    let n : length tails ≡ cells size ss = length_box size ss in
    let h : place size ss cs < length tails = rw n (place_below size ss cs i.1) in
    let z : 0 + c ≡ c = omega arith in
    ap (λ (m : ℕ). get_or (fronts (run 0 (size s)) tails) (c * m + place size ss cs) []) (sym n)
    ∙ fronts_at 0 (size s) tails c (place size ss cs) i.0 h
    ∙ ap₂ (λ (x : ℕ) (xs : List ℕ). x ∷ xs) z (box_at_place size ss cs i.1)

-- a place in a table is that of a list of argument codes
pub record CodesAt (size : ℕ → ℕ) (params : List ℕ) (k : ℕ) : Type 0 where
  pub codes : List ℕ
  pub in_sorts : InSorts size params codes
  pub there : place size params codes ≡ k

pub codes_at : (size : ℕ → ℕ) (params : List ℕ) (k : ℕ) → k < cells size params → CodesAt size params k
codes_at size [] k h = record { codes = []; in_sorts = tt; there = omega arith }
codes_at size (s ∷ ss) k h =
    let n = cells size ss in
    let pos : 0 < n = elim (dec_lt 0 n) [ yes l ↦ l | no l ↦ let e : n ≡ 0 = omega arith in absurd (not-suc-le-zero (rw (e, mul-zero (size s)) at h)) ] in
    let rest = codes_at size ss (k % n) (mod-lt k pos) in
    record {
      codes = k / n ∷ rest.codes;
      in_sorts = ((div-lt_iff_lt-mul pos).1 h, rest.in_sorts);
      there = ap (λ (x : ℕ). k / n * n + x) rest.there ∙ div-add-mod' k n;
    }

module _ (M : Structure) (f : ℕ) (params : List ℕ) where
  pub length_table : length (table_bytes M f params) ≡ cells M.size params
  length_table = length-map (box (ranges M.size params)) (M.table f) ∙ length_box M.size params

  -- the byte at a cell's place is what the table holds
  pub table_at_place : (cs : List ℕ) → InSorts M.size params cs → at (table_bytes M f params) (place M.size params cs) ≡ M.table f cs
  table_at_place cs i =
      at_map (M.table f) (box (ranges M.size params)) [] (place M.size params cs) (rw (length_box M.size params) (place_below M.size params cs i))
      ∙ ap (M.table f) (box_at_place M.size params cs i)

-- the first value of a sum apart
sum_to_front : (n : ℕ) (f : ℕ → ℕ) → sum_to (suc n) f ≡ f 0 + sum_to n (λ i. f (suc i))
sum_to_front zero f = omega arith
sum_to_front (suc n) f = omega (arith, sum_to_front n f)

module _ (M : Structure) (d : Symbol) where
  -- how many cells the tables of a list of symbols have
  abbrev sizes_from : List Symbol → ℕ → ℕ
  sizes_from gs i = cells M.size (get_or gs i d).params

  pub length_tables_from : (f : ℕ) (gs : List Symbol) → length (tables_from M f gs) ≡ sum_to (length gs) (sizes_from gs)
  length_tables_from f [] = refl
  length_tables_from f (g ∷ gs) =
      length-append (table_bytes M f g.params) (tables_from M (suc f) gs)
      ∙ omega (arith, length_table M f g.params, length_tables_from (suc f) gs, sum_to_front (length gs) (sizes_from (g ∷ gs)))

  -- the bytes of a symbol's table follow those of the symbols before it
  pub tables_from_at : (f : ℕ) (gs : List Symbol) (j k : ℕ) → j < length gs → k < sizes_from gs j → at (tables_from M f gs) (sum_to j (sizes_from gs) + k) ≡ at (table_bytes M (f + j) (get_or gs j d).params) k
  tables_from_at f [] j k h l = absurd (not-suc-le-zero h)
  tables_from_at f (g ∷ gs) zero k h l =
      let e : 0 + k ≡ k = omega arith in
      let z : f ≡ f + 0 = omega arith in
      ap (at (tables_from M f (g ∷ gs))) e
      ∙ get_or-append (table_bytes M f g.params) (tables_from M (suc f) gs) 0 k (rw (length_table M f g.params) l)
      ∙ ap (λ (x : ℕ). at (table_bytes M x g.params) k) z
  tables_from_at f (g ∷ gs) (suc j) k h l =
      let n = length (table_bytes M f g.params) in
      let e : sum_to (suc j) (sizes_from (g ∷ gs)) + k ≡ n + (sum_to j (sizes_from gs) + k) = omega (arith, length_table M f g.params, sum_to_front j (sizes_from (g ∷ gs))) in
      let z : suc f + j ≡ f + suc j = omega arith in
      ap (at (tables_from M f (g ∷ gs))) e
      ∙ get_or-append-add (table_bytes M f g.params) (tables_from M (suc f) gs) (sum_to j (sizes_from gs) + k) 0
      ∙ tables_from_at (suc f) gs j k (le_of_suc-le-suc h) l
      ∙ ap (λ (x : ℕ). at (table_bytes M x (get_or gs j d).params) k) z

  -- the tables of the first j + 1 symbols are those of the first j, and one more
  pub tables_from_more : (f : ℕ) (gs : List Symbol) (j m : ℕ) → j < length gs → m ≡ f + j → take (sum_to (suc j) (sizes_from gs)) (tables_from M f gs) ≡ take (sum_to j (sizes_from gs)) (tables_from M f gs) ++ table_bytes M m (get_or gs j d).params
  tables_from_more f [] j m h e = absurd (not-suc-le-zero h)
  tables_from_more f (g ∷ gs) zero m h e =
      let same : m ≡ f = omega arith in
      take_at (table_bytes M f g.params) (tables_from M (suc f) gs) (sum_to 1 (sizes_from (g ∷ gs))) (omega (arith, length_table M f g.params))
      ∙ ap (λ (x : ℕ). table_bytes M x g.params) (sym same)
  tables_from_more f (g ∷ gs) (suc j) m h e =
      let front : List ℕ = table_bytes M f g.params in
      let after : (i : ℕ) → take (sum_to (suc i) (sizes_from (g ∷ gs))) (tables_from M f (g ∷ gs)) ≡ front ++ take (sum_to i (sizes_from gs)) (tables_from M (suc f) gs) =
      λ i.
      let behind : sum_to (suc i) (sizes_from (g ∷ gs)) ≡ length front + sum_to i (sizes_from gs) = omega (arith, length_table M f g.params, sum_to_front i (sizes_from (g ∷ gs))) in
      ap (λ (n : ℕ). take n (front ++ tables_from M (suc f) gs)) behind ∙ take-append-add front (tables_from M (suc f) gs) (sum_to i (sizes_from gs)) in
      after (suc j)
      ∙ ap (λ (l : List ℕ). front ++ l) (tables_from_more (suc f) gs j m (omega arith) (omega arith))
      ∙ sym (append_assoc front (take (sum_to j (sizes_from gs)) (tables_from M (suc f) gs)) (table_bytes M m (get_or gs j d).params))
      ∙ ap (λ (l : List ℕ). l ++ table_bytes M m (get_or gs j d).params) (sym (after j))

-- equal sizes give tables of one length
pub extent_same : (sh : Sheet) → WellFormed sh → (size other : ℕ → ℕ) → ((s : ℕ) → s < length sh.bounds → size s ≡ other s) → extent sh size ≡ extent sh other
extent_same sh w size other h = offset_same sh w size other h (length sh.symbols) (omega arith)

-- larger sizes give no shorter tables; those of a candidate are no longer than at the ceilings
pub offset_monotone : (sh : Sheet) → WellFormed sh → (size other : ℕ → ℕ) → ((s : ℕ) → s < length sh.bounds → size s ≤ other s) → (f : ℕ) → f ≤ length sh.symbols → offset sh size f ≤ offset sh other f
offset_monotone sh w size other h f l =
    omega (
      arith,
      sum_to_monotone f (λ g. cells size (symbol_at sh g).params) (λ g. cells other (symbol_at sh g).params)
          (λ g b. cells_monotone (length sh.bounds) size other (symbol_at sh g).params (w.params g (omega arith)) h),
    )

pub extent_monotone : (sh : Sheet) → WellFormed sh → (size other : ℕ → ℕ) → ((s : ℕ) → s < length sh.bounds → size s ≤ other s) → extent sh size ≤ extent sh other
extent_monotone sh w size other h = offset_monotone sh w size other h (length sh.symbols) (omega arith)

pub extent_at_ceilings : (sh : Sheet) → WellFormed sh → (size : ℕ → ℕ) → Bounded sh size → extent sh size ≤ extent sh (λ s. (bound_at sh s).ceiling)
extent_at_ceilings sh w size b = extent_monotone sh w size (λ s. (bound_at sh s).ceiling) b.ceiling

-- The tables of a structure, for a well-formed sheet.
module _ (M : Structure) (sh : Sheet) (w : WellFormed sh) where
  pub length_encoded : length (encoded M sh) ≡ extent sh M.size
  length_encoded =
      length-append (firsts (length sh.bounds) M.size) (tables_from M 0 sh.symbols)
      ∙ omega (arith, length_firsts (length sh.bounds) M.size, length_tables_from M no_symbol 0 sh.symbols)

  -- the sizes stand first
  pub encoded_size : (s : ℕ) → s < length sh.bounds → at (encoded M sh) s ≡ M.size s
  encoded_size s h =
      get_or-append (firsts (length sh.bounds) M.size) (tables_from M 0 sh.symbols) 0 s (omega (arith, length_firsts (length sh.bounds) M.size))
      ∙ at_firsts (length sh.bounds) M.size s h

  pub encoded_offset : (f : ℕ) → f ≤ length sh.symbols → offset sh (at (encoded M sh)) f ≡ offset sh M.size f
  encoded_offset f h = offset_same sh w (at (encoded M sh)) M.size encoded_size f h

  pub encoded_cells : (f : ℕ) → f < length sh.symbols → cells (at (encoded M sh)) (symbol_at sh f).params ≡ cells M.size (symbol_at sh f).params
  encoded_cells f h = cells_same (length sh.bounds) (at (encoded M sh)) M.size (symbol_at sh f).params (w.params f h) encoded_size

  -- each symbol's table stands at its offset
  pub encoded_table : (f k : ℕ) → f < length sh.symbols → k < cells M.size (symbol_at sh f).params → at (encoded M sh) (offset sh M.size f + k) ≡ at (table_bytes M f (symbol_at sh f).params) k
  encoded_table f k h l =
      let front = firsts (length sh.bounds) M.size in
      let e : offset sh M.size f + k ≡ length front + (sum_to f (λ g. cells M.size (symbol_at sh g).params) + k) = omega (arith, length_firsts (length sh.bounds) M.size) in
      let z : 0 + f ≡ f = omega arith in
      ap (at (encoded M sh)) e
      ∙ get_or-append-add front (tables_from M 0 sh.symbols) (sum_to f (λ g. cells M.size (symbol_at sh g).params) + k) 0
      ∙ tables_from_at M no_symbol 0 sh.symbols f k h l
      ∙ ap (λ (x : ℕ). at (table_bytes M x (symbol_at sh f).params) k) z

  -- The bytes one stretch after the other: the sizes, then the table of each symbol at its offset, up to the extent.
  taken : (k : ℕ) → take (length sh.bounds + k) (encoded M sh) ≡ firsts (length sh.bounds) M.size ++ take k (tables_from M 0 sh.symbols)
  taken k =
      ap (λ (i : ℕ). take (i + k) (encoded M sh)) (sym (length_firsts (length sh.bounds) M.size))
      ∙ take-append-add (firsts (length sh.bounds) M.size) (tables_from M 0 sh.symbols) k

  pub encoded_sizes : take (length sh.bounds) (encoded M sh) ≡ firsts (length sh.bounds) M.size
  encoded_sizes = take_at (firsts (length sh.bounds) M.size) (tables_from M 0 sh.symbols) (length sh.bounds) (length_firsts (length sh.bounds) M.size)

  pub encoded_more : (f : ℕ) → f < length sh.symbols → take (offset sh M.size (suc f)) (encoded M sh) ≡ take (offset sh M.size f) (encoded M sh) ++ table_bytes M f (symbol_at sh f).params
  encoded_more f h =
      let sizes : List ℕ = firsts (length sh.bounds) M.size in
      let many : ℕ → ℕ = λ k. sum_to k (λ g. cells M.size (symbol_at sh g).params) in
      taken (many (suc f))
      ∙ ap (λ (l : List ℕ). sizes ++ l) (tables_from_more M no_symbol 0 sh.symbols f f h (omega arith))
      ∙ sym (append_assoc sizes (take (many f) (tables_from M 0 sh.symbols)) (table_bytes M f (symbol_at sh f).params))
      ∙ ap (λ (l : List ℕ). l ++ table_bytes M f (symbol_at sh f).params) (sym (taken (many f)))

  pub encoded_whole : take (extent sh M.size) (encoded M sh) ≡ encoded M sh
  encoded_whole = take_all (extent sh M.size) (encoded M sh) (omega (arith, length_encoded))

  -- decoding gives back every cell
  pub decoded_cell : (f : ℕ) → f < length sh.symbols → (cs : List ℕ) → InSorts M.size (symbol_at sh f).params cs → (decoded sh (encoded M sh)).table f cs ≡ M.table f cs
  decoded_cell f h cs i =
      let params = (symbol_at sh f).params in
      ap₂ (λ (o k : ℕ). at (encoded M sh) (o + k)) (encoded_offset f (omega arith))
      (place_same (length sh.bounds) (at (encoded M sh)) M.size params cs (w.params f h) encoded_size)
      ∙ encoded_table f (place M.size params cs) h (place_below M.size params cs i)
      ∙ table_at_place M f params cs i

  module _ (m : Interprets M sh) where
    -- hence every code
    pub decoded_code : (i : ℕ) → code (decoded sh (encoded M sh)) sh i ≡ code M sh i
    decoded_code i =
        sym (same_code M (decoded sh (encoded M sh)) sh w
        (λ j h. sym (decoded_cell (term_at sh j).symbol (w.symbol j h) (map (code M sh) (term_at sh j).args) (reached_in_params M sh w m j h))) i)

    pub decoded_satisfies : Satisfies M sh → Satisfies (decoded sh (encoded M sh)) sh
    decoded_satisfies = satisfies_same M (decoded sh (encoded M sh)) sh (λ i. sym (decoded_code i))

    pub satisfies_decoded : Satisfies (decoded sh (encoded M sh)) sh → Satisfies M sh
    satisfies_decoded = satisfies_same (decoded sh (encoded M sh)) M sh decoded_code

    -- the tables of a structure with sizes up to 16 are well laid
    pub encoded_laid : ((s : ℕ) → s < length sh.bounds → M.size s ≤ 16) → WellLaid sh (encoded M sh)
    encoded_laid small =
        record {
          sizes = omega (arith, length_encoded);
          size = λ s h. rw (encoded_size s h) (m.nonempty s h, small s h);
          extent = length_encoded ∙ sym (encoded_offset (length sh.symbols) (omega arith));
          entry = λ f h k l. entry f h k (rw (encoded_cells f h) at l);
        }
      where
        entry : (f : ℕ) → f < length sh.symbols → (k : ℕ) → k < cells M.size (symbol_at sh f).params → at (encoded M sh) (offset sh (at (encoded M sh)) f + k) < at (encoded M sh) (symbol_at sh f).result
        entry f h k l =
            let params = (symbol_at sh f).params in
            let x = codes_at M.size params k l in
            let e : at (encoded M sh) (offset sh (at (encoded M sh)) f + k) ≡ M.table f x.codes =
            ap (λ (o : ℕ). at (encoded M sh) (o + k)) (encoded_offset f (omega arith))
            ∙ encoded_table f k h l
            ∙ ap (at (table_bytes M f params)) (sym x.there)
            ∙ table_at_place M f params x.codes x.in_sorts in
            rw (e, encoded_size (symbol_at sh f).result (w.result f h)) (m.complete f h x.codes x.in_sorts)

-- Well-laid tables are those of the structure that they hold.
module _ (sh : Sheet) (w : WellFormed sh) (t : List ℕ) (l : WellLaid sh t) where
  -- a place behind the sizes lies in a symbol's table
  record Located (m i : ℕ) : Type 0 where
    symbol : ℕ
    below : symbol < m
    k : ℕ
    within : k < cells (at t) (symbol_at sh symbol).params
    there : i ≡ offset sh (at t) symbol + k

  located : (m i : ℕ) → length sh.bounds ≤ i → i < offset sh (at t) m → Located m i
  located zero i h b = absurd (omega arith)
  located (suc m) i h b =
      elim (dec_lt i (offset sh (at t) m)) [
        | yes y ↦
            let r = located m i h y in
            record { symbol = r.symbol; below = omega (arith, r.below); k = r.k; within = r.within; there = r.there }
        | no y ↦ record { symbol = m; below = omega arith; k = i - offset sh (at t) m; within = omega arith; there = omega arith }
      ]

  encoded_byte : (i : ℕ) → i < length t → at (encoded (decoded sh t) sh) i ≡ at t i
  encoded_byte i h =
      elim (dec_lt i (length sh.bounds)) [
        | yes b ↦ encoded_size (decoded sh t) sh w i b
        | no b ↦
            let r = located (length sh.symbols) i (omega arith) (omega (arith, l.extent)) in
            let f = r.symbol in
            let params = (symbol_at sh f).params in
            let x = codes_at (at t) params r.k r.within in
            ap (at (encoded (decoded sh t) sh)) r.there
            ∙ encoded_table (decoded sh t) sh w f r.k r.below r.within
            ∙ ap (at (table_bytes (decoded sh t) f params)) (sym x.there)
            ∙ table_at_place (decoded sh t) f params x.codes x.in_sorts
            ∙ ap (λ (k : ℕ). at t (offset sh (at t) f + k)) x.there
            ∙ ap (at t) (sym r.there)
      ]

  pub encoded_decoded : encoded (decoded sh t) sh ≡ t
  encoded_decoded =
      let n : length (encoded (decoded sh t) sh) ≡ length t = length_encoded (decoded sh t) sh w ∙ sym l.extent in
      ext_get_or 0 (encoded (decoded sh t) sh) t n (λ i h. encoded_byte i (omega arith))
