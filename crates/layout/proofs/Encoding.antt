-- The encoding of a well-formed sheet is read as that sheet: record after record, since the part that has been read agrees with the whole;
-- and the one sheet without a total is the empty one, whose encoding has no bytes.
use Prim.Native.Nat.{ℕ, zero, suc, ◌+◌, ◌≤◌, ◌<◌}
use native.Mathlib.Omega.{arith}
use mathlib.Core.Path.{◌≡◌, refl, ap, sym, ◌∙◌, subst}
use mathlib.Core.Bool.{Bool, true, false, not, ◌&&◌, ◌||◌, cond}
use mathlib.Core.List.{List, [], ◌∷◌, ◌++◌, map, flat_map, append-nil, append_assoc}
use lib.ListN.{length, get_or, take, drop, length-append, get_or-append}
use lib.Seq.{append_snoc, drop-append-add, take-append_seam, get_or-append_seam, get_or-append-add}
use lib.Dec.{eqb}
use borrow.Author.Tests.{le-ltb, ne_eqb, eqb-true}
use Rattle.logic.specs.Sheet.{Sheet, Bound, Symbol, Term, Literal, Fill, symbol_at, term_at, fill_at, sort_at, no_term, no_fill}
use Rattle.prelude.specs.Tests.{Each, Within, same_list}
use Rattle.prelude.specs.Lists.{at}
use Rattle.prelude.proofs.Tests.{and_both, true_within, same_list_same, same_same_list}
use Rattle.prelude.proofs.Lists.{map_each}
use Rattle.logic.specs.WellFormed.{WellFormed}
use Rattle.logic.proofs.Meaning.{few_arguments}
use Rattle.layout.specs.Layout.{Kind, kind_of, field, name, expression, same, total, fill, rank, reached, misplaced, wrong_length, occurs, is_filled, cause, add, Reading, accepted, read_from, reading, empty}
use Rattle.records.specs.Record.{length_at, kind_at, payload_at}
use Rattle.layout.specs.Encode.{packet, bound_bytes, symbol_bytes, term_bytes, literal_bytes, fill_bytes, encode}
use Rattle.layout.specs.Parts.{later, fault_at}
use Rattle.layout.proofs.Longest.{no_sides, no_fillers, encode_longest}
use Rattle.records.proofs.Steps.{not_cut}
use Rattle.layout.proofs.Causes.{placed_later, field_fine, name_fine, term_fine, literal_fine, fill_fine, total_fine}
use Rattle.layout.proofs.AtMostTwo.{below_all}
use Rattle.layout.proofs.Records.{cause_later, fault_whole, from_end, from_good}
use Rattle.layout.proofs.Pack.{no_entries}
use Rattle.layout.proofs.Written.{encode_empty, total_bytes_lem}

-- ---- one record among the bytes
-- what reading from a position gives, however many records more are allowed for
abbrev Reads : List ℕ → ℕ → Sheet → Reading → Type 0
Reads s i sh r = (n : ℕ) → length s ≤ i + n → read_from n s i sh ≡ r

module _ (pre : List ℕ) (k : ℕ) (p rest : List ℕ) where
  length_at_lem : length_at (pre ++ (packet k p ++ rest)) (length pre) ≡ length p
  length_at_lem =
      let a = get_or-append_seam pre (length p) (0 ∷ k ∷ 0 ∷ (p ++ rest)) 0 in
      let b = get_or-append-add pre (packet k p ++ rest) 1 0 in
      omega arith

  kind_at_lem : kind_at (pre ++ (packet k p ++ rest)) (length pre) ≡ k
  kind_at_lem =
      let third : length pre + 2 + 1 ≡ length pre + 3 = omega arith in
      let a = get_or-append-add pre (packet k p ++ rest) 2 0 in
      let b = ap (at (pre ++ (packet k p ++ rest))) third ∙ get_or-append-add pre (packet k p ++ rest) 3 0 in
      omega arith

  payload_at_lem : payload_at (pre ++ (packet k p ++ rest)) (length pre) ≡ p
  payload_at_lem =
      ap (λ (n : ℕ). take n (drop (length pre + 4) (pre ++ (packet k p ++ rest)))) length_at_lem
      ∙ ap (take (length p)) (drop-append-add pre (packet k p ++ rest) 4)
      ∙ take-append_seam p rest

  whole_length : length (pre ++ (packet k p ++ rest)) ≡ length pre + (4 + (length p + length rest))
  whole_length =
      let a = length-append pre (packet k p ++ rest) in
      let b = length-append p rest in
      omega arith

  module _ (sh : Sheet) (none : cause sh k p ≡ 0) where
    good_at : fault_at (pre ++ (packet k p ++ rest)) (length pre) sh ≡ 0
    good_at =
        let s : List ℕ = pre ++ (packet k p ++ rest) in
        let a = length_at_lem in
        let b = whole_length in
        fault_whole s (length pre) sh (omega arith) (not_cut s (length pre) (omega arith))
        ∙ ap (λ (x : ℕ). cause sh x (payload_at s (length pre))) kind_at_lem
        ∙ ap (cause sh k) payload_at_lem
        ∙ none

    reads_record : (r : Reading) → Reads (pre ++ (packet k p ++ rest)) (length (pre ++ packet k p)) (add sh (kind_of k) p) r → Reads (pre ++ (packet k p ++ rest)) (length pre) sh r
    reads_record r next zero e = let h = whole_length in absurd (omega arith)
    reads_record r next (suc n) e =
        let s : List ℕ = pre ++ (packet k p ++ rest) in
        let a = length_at_lem in
        let b = whole_length in
        let c = length-append pre (packet k p) in
        let past : length pre + 4 + length_at s (length pre) ≡ length (pre ++ packet k p) = omega arith in
        from_good n s (length pre) sh (omega arith) good_at
        ∙ ap (λ (j : ℕ). read_from n s j (add sh (kind_of (kind_at s (length pre))) (payload_at s (length pre)))) past
        ∙ ap (λ (x : ℕ). read_from n s (length (pre ++ packet k p)) (add sh (kind_of x) (payload_at s (length pre)))) kind_at_lem
        ∙ ap (λ (x : List ℕ). read_from n s (length (pre ++ packet k p)) (add sh (kind_of k) x)) payload_at_lem
        ∙ next n (omega arith)

-- ---- the records of one list, after those that are done
module _ {A : Type 0} (kind : A → ℕ) (load : A → List ℕ) (part : List A → Sheet) (all : List A)
    (none : (done todo : List A) (a : A) → all ≡ done ++ (a ∷ todo) → cause (part done) (kind a) (load a) ≡ 0)
    (grows : (done : List A) (a : A) → add (part done) (kind_of (kind a)) (load a) ≡ part (done ++ (a ∷ []))) where
  reads_list : (done todo : List A) → all ≡ done ++ todo → (s pre rest : List ℕ) → s ≡ pre ++ (flat_map (λ a. packet (kind a) (load a)) todo ++ rest) → (r : Reading)
      → Reads s (length (pre ++ flat_map (λ a. packet (kind a) (load a)) todo)) (part all) r → Reads s (length pre) (part done) r
  unfolding flat_map
  reads_list done [] e s pre rest split r next = rw (append-nil pre, e, append-nil done) at next
  reads_list done (a ∷ todo) e s pre rest split r next =
      let one : List ℕ = packet (kind a) (load a) in
      let flat : List ℕ = flat_map (λ a. packet (kind a) (load a)) todo in
      let apart : s ≡ pre ++ (one ++ (flat ++ rest)) = split ∙ ap (λ (x : List ℕ). pre ++ x) (append_assoc one flat rest) in
      let behind : Reads s (length (pre ++ one)) (part (done ++ (a ∷ []))) r =
      reads_list (done ++ (a ∷ [])) todo (e ∙ sym (append_snoc done a todo)) s (pre ++ one) rest (apart ∙ sym (append_assoc pre one (flat ++ rest))) r
      (subst (λ (x : List ℕ). Reads s (length x) (part all) r) (sym (append_assoc pre one flat)) next) in
      subst (λ (x : List ℕ). Reads x (length pre) (part done) r) (sym apart)
      (reads_record pre (kind a) (load a) (flat ++ rest) (part done) (none done todo a e) r
      (subst (λ (x : List ℕ). Reads x (length (pre ++ one)) (add (part done) (kind_of (kind a)) (load a)) r) apart
      (subst (λ (x : Sheet). Reads s (length (pre ++ one)) x r) (sym (grows done a)) behind)))

-- ---- no cause applies
-- what holds of each entry of a list holds of the one behind those that are done
entry : {A : Type 0} (P : ℕ → A → Type 0) (all : List A) (d : A) → ((i : ℕ) → i < length all → P i (get_or all i d))
    → (done todo : List A) (a : A) → all ≡ done ++ (a ∷ todo) → P (length done) a
entry {A = A} P all d each done todo a e =
    let n = ap length e ∙ length-append done (a ∷ todo) in
    subst (P (length done)) (ap (λ (l : List A). get_or l (length done) d) e ∙ get_or-append_seam done a todo d) (each (length done) (omega arith))

-- where there are at most n entries, there is room behind those that are done
room : {A : Type 0} (n : ℕ) (all done todo : List A) (a : A) → length all ≤ n → all ≡ done ++ (a ∷ todo) → length done < n
room n all done todo a h e = let m = ap length e ∙ length-append done (a ∷ todo) in omega arith

either : (lo hi : ℕ) (b : Bool) (x y : ℕ) → Within lo hi x → Within lo hi y → Within lo hi (cond b x y)
either lo hi true x y h h' = h
either lo hi false x y h h' = h'

-- a term that is none of the terms does not occur
not_occurs : (t : Term) (ts : List Term) (d : Term) → ((i : ℕ) → i < length ts → get_or ts i d ≡ t → ⊥) → occurs t.symbol t.args ts ≡ false
not_occurs t [] d h = refl
not_occurs t (u ∷ ts) d h =
    ap (λ (b : Bool). b || occurs t.symbol t.args ts) (go (eqb u.symbol t.symbol && same_list u.args t.args) refl)
    ∙ not_occurs t ts d (λ i l. h (suc i) (omega arith))
  where
    go : (b : Bool) → (eqb u.symbol t.symbol && same_list u.args t.args) ≡ b → b ≡ false
    go true e =
        let z = and_both (eqb u.symbol t.symbol) (same_list u.args t.args) e in
        let p = eqb-true u.symbol t.symbol z.0 in
        let q = same_list_same u.args t.args z.1 in
        absurd (h 0 (omega arith) (λ i. record { symbol = p i; args = q i }))
    go false e = refl

-- a symbol that is none of those that are filled is not filled
not_is_filled : (f : ℕ) (xs : List Fill) (d : Fill) → ((k : ℕ) → k < length xs → (get_or xs k d).symbol ≡ f → ⊥) → is_filled f xs ≡ false
not_is_filled f [] d h = refl
not_is_filled f (x ∷ xs) d h =
    ap (λ (b : Bool). b || is_filled f xs) (ne_eqb x.symbol f (h 0 (omega arith))) ∙ not_is_filled f xs d (λ k l. h (suc k) (omega arith))

few_sized : (x : ℕ) (l : List ℕ) → length l ≤ 2 → wrong_length 2 (length (x ∷ l)) ≡ false
few_sized x [] h = refl
few_sized x (a ∷ []) h = refl
few_sized x (a ∷ b ∷ []) h = refl
few_sized x (a ∷ b ∷ c ∷ l) h = absurd (omega arith)

no_cause : (sh : Sheet) (k : ℕ) (p : List ℕ) → false ≡ misplaced sh (kind_of k) → wrong_length k (length p) ≡ false → 0 ≡ later sh (kind_of k) p → cause sh k p ≡ 0
no_cause sh k p a b c = sym (c ∙ cause_later sh k p (sym a) b)

-- a record after a sort, of a kind that is not past
in_place : (part : Sheet) (k : Kind) → 1 ≤ rank k → Within 1 5 (reached part) → reached part ≤ rank k → false ≡ misplaced part k
in_place part k known h order = placed_later part k (λ e. omega arith) order (λ e. omega arith) (λ e. omega arith)

module _ (sh : Sheet) where
  -- the parts that have been read when some of the sorts, symbols, terms, literals, fills have been
  abbrev sorts_read : List Bound → Sheet
  sorts_read bs = record { bounds = bs; symbols = []; terms = []; literals = []; fills = []; total = 0 }

  abbrev symbols_read : List Symbol → Sheet
  symbols_read fs = record { bounds = sh.bounds; symbols = fs; terms = []; literals = []; fills = []; total = 0 }

  abbrev terms_read : List Term → Sheet
  terms_read ts = record { bounds = sh.bounds; symbols = sh.symbols; terms = ts; literals = []; fills = []; total = 0 }

  abbrev literals_read : List Literal → Sheet
  literals_read ls = record { bounds = sh.bounds; symbols = sh.symbols; terms = sh.terms; literals = ls; fills = []; total = 0 }

  abbrev fills_read : List Fill → Sheet
  fills_read xs = record { bounds = sh.bounds; symbols = sh.symbols; terms = sh.terms; literals = sh.literals; fills = xs; total = 0 }

  module _ (w : WellFormed sh) (some : 1 ≤ sh.total) where
    -- how far they have come
    symbols_reached : (fs : List Symbol) → Within 1 2 (reached (symbols_read fs))
    symbols_reached fs = either 1 2 (not (eqb (length fs) 0)) 2 _ (omega arith) begun
      where
        begun : Within 1 2 (cond (not (eqb (length sh.bounds) 0)) 1 0)
        begun = rw (ne_eqb (length sh.bounds) 0 (λ e. let h = w.stage.1 some in omega arith)) (omega arith)

    terms_reached : (ts : List Term) → Within 1 3 (reached (terms_read ts))
    terms_reached ts = either 1 3 (not (eqb (length ts) 0)) 3 _ (omega arith) (let h = symbols_reached sh.symbols in omega arith)

    literals_reached : (ls : List Literal) → Within 1 4 (reached (literals_read ls))
    literals_reached ls = either 1 4 (not (eqb (length ls) 0)) 4 _ (omega arith) (let h = terms_reached sh.terms in omega arith)

    fills_reached : (xs : List Fill) → Within 1 5 (reached (fills_read xs))
    fills_reached xs = either 1 5 (not (eqb (length xs) 0)) 5 _ (omega arith) (let h = literals_reached sh.literals in omega arith)

    bound_good : (done todo : List Bound) (b : Bound) → sh.bounds ≡ done ++ (b ∷ todo) → cause (sorts_read done) 1 (b.floor ∷ b.ceiling ∷ []) ≡ 0
    bound_good done todo b e =
        no_cause (sorts_read done) 1 (b.floor ∷ b.ceiling ∷ []) (first done) refl
        (field_fine (sorts_read done) b.floor b.ceiling (room 8 sh.bounds done todo b w.sorts e)
        (true_within 1 16 b.floor (entry (λ i c. Within 1 16 c.floor) sh.bounds _ w.floor done todo b e))
        (true_within 1 16 b.ceiling (entry (λ i c. Within 1 16 c.ceiling) sh.bounds _ w.ceiling done todo b e)))
      where
        first : (done : List Bound) → false ≡ misplaced (sorts_read done) field
        first [] = refl
        first (c ∷ done) = rw (ne_eqb (length (c ∷ done)) 0 (λ z. omega arith))

    symbol_good : (done todo : List Symbol) (f : Symbol) → sh.symbols ≡ done ++ (f ∷ todo) → cause (symbols_read done) 2 (f.result ∷ f.params) ≡ 0
    symbol_good done todo f e =
        let h = symbols_reached done in
        no_cause (symbols_read done) 2 (f.result ∷ f.params)
        (in_place (symbols_read done) name (omega arith) (omega arith) (omega arith))
        (few_sized f.result f.params (entry (λ i g. length g.params ≤ 2) sh.symbols _ w.arity done todo f e))
        (name_fine (symbols_read done) f.result f.params (room 64 sh.symbols done todo f w.symbols e)
        (entry (λ i g. g.result < length sh.bounds) sh.symbols _ w.result done todo f e)
        (below_all (length sh.bounds) f.params (entry (λ i g. Each (λ s. s < length sh.bounds) g.params) sh.symbols _ w.params done todo f e)))

    module _ (done todo : List Term) (t : Term) (e : sh.terms ≡ done ++ (t ∷ todo)) where
      earlier : Each (λ a. a < length done) t.args
      earlier = entry (λ i u. Each (λ a. a < i) u.args) sh.terms _ w.args done todo t e

      old : (a : ℕ) → a < length done → term_at sh a ≡ term_at (terms_read done) a
      old a h = ap (λ (l : List Term). get_or l a no_term) e ∙ get_or-append done (t ∷ todo) no_term a h

      arg_sorts_lem : map (sort_at (terms_read done)) t.args ≡ (symbol_at sh t.symbol).params
      arg_sorts_lem =
          map_each (sort_at (terms_read done)) (sort_at sh) (λ a. a < length done)
          (λ a h. sym (ap (λ (u : Term). (symbol_at sh u.symbol).result) (old a h))) t.args earlier
          ∙ entry (λ i u. map (sort_at sh) u.args ≡ (symbol_at sh u.symbol).params) sh.terms _ w.arg_sorts done todo t e

      fresh : (i : ℕ) → i < length done → term_at (terms_read done) i ≡ t → ⊥
      fresh i h z =
          let n = ap length e ∙ length-append done (t ∷ todo) in
          let same' = entry (λ j u. term_at sh i ≡ u → i ≡ j) sh.terms _ (λ j l. w.distinct i j (omega arith) l) done todo t e (old i h ∙ z) in
          omega arith

      term_good : cause (terms_read done) 3 (t.symbol ∷ t.args) ≡ 0
      term_good =
          let h = terms_reached done in
          no_cause (terms_read done) 3 (t.symbol ∷ t.args)
          (in_place (terms_read done) expression (omega arith) (omega arith) (omega arith))
          (few_sized t.symbol t.args (entry (λ i u. length u.args ≤ 2) sh.terms _ (few_arguments sh w) done todo t e))
          (term_fine (terms_read done) t.symbol t.args (room 128 sh.terms done todo t w.terms e)
          (entry (λ i u. u.symbol < length sh.symbols) sh.terms _ w.symbol done todo t e)
          (below_all (length done) t.args earlier)
          (ap not (ap (λ (l : List ℕ). same_list l (symbol_at sh t.symbol).params) arg_sorts_lem ∙ same_same_list (symbol_at sh t.symbol).params))
          (not_occurs t done _ fresh))

    literal_good : (done todo : List Literal) (l : Literal) → sh.literals ≡ done ++ (l ∷ todo) → cause (literals_read done) (cond l.equal 4 5) (l.left ∷ l.right ∷ []) ≡ 0
    literal_good done todo l e = go l.equal
      where
        placed : false ≡ misplaced (literals_read done) same
        placed = let h = literals_reached done in in_place (literals_read done) same (omega arith) (omega arith) (omega arith)

        none : 0 ≡ later (literals_read done) same (l.left ∷ l.right ∷ [])
        none =
            literal_fine (literals_read done) l.left l.right (room 128 sh.literals done todo l w.literals e)
            (entry (λ k m. m.left < length sh.terms) sh.literals _ w.left done todo l e)
            (entry (λ k m. m.right < length sh.terms) sh.literals _ w.right done todo l e)
            (entry (λ k m. sort_at sh m.left ≡ sort_at sh m.right) sh.literals _ w.sides done todo l e)

        go : (b : Bool) → cause (literals_read done) (cond b 4 5) (l.left ∷ l.right ∷ []) ≡ 0
        go true = no_cause (literals_read done) 4 (l.left ∷ l.right ∷ []) placed refl none
        go false = no_cause (literals_read done) 5 (l.left ∷ l.right ∷ []) placed refl none

    literal_grows : (done : List Literal) (l : Literal) → add (literals_read done) (kind_of (cond l.equal 4 5)) (l.left ∷ l.right ∷ []) ≡ literals_read (done ++ (l ∷ []))
    literal_grows done l = go l.equal
      where
        go : (b : Bool) → add (literals_read done) (kind_of (cond b 4 5)) (l.left ∷ l.right ∷ []) ≡ literals_read (done ++ (record { equal = b; left = l.left; right = l.right } ∷ []))
        go true = refl
        go false = refl

    module _ (done todo : List Fill) (x : Fill) (e : sh.fills ≡ done ++ (x ∷ todo)) where
      unfilled : (k : ℕ) → k < length done → (get_or done k no_fill).symbol ≡ x.symbol → ⊥
      unfilled k h z =
          let n = ap length e ∙ length-append done (x ∷ todo) in
          let old = ap (λ (l : List Fill). (get_or l k no_fill).symbol) e ∙ ap (λ (y : Fill). y.symbol) (get_or-append done (x ∷ todo) no_fill k h) in
          let same' = entry (λ m y. (fill_at sh k).symbol ≡ y.symbol → k ≡ m) sh.fills _ (λ m l. w.once k m (omega arith) l) done todo x e (old ∙ z) in
          omega arith

      fill_good : cause (fills_read done) 7 (x.symbol ∷ x.term ∷ []) ≡ 0
      fill_good =
          let h = fills_reached done in
          no_cause (fills_read done) 7 (x.symbol ∷ x.term ∷ [])
          (in_place (fills_read done) fill (omega arith) (omega arith) (omega arith)) refl
          (fill_fine (fills_read done) x.symbol x.term (room 64 sh.fills done todo x w.fills e)
          (entry (λ k y. y.symbol < length sh.symbols) sh.fills _ w.filled done todo x e)
          (entry (λ k y. y.term < length sh.terms) sh.fills _ w.filler done todo x e)
          (entry (λ k y. sort_at sh y.term ≡ (symbol_at sh y.symbol).result) sh.fills _ w.fill_sort done todo x e)
          (not_is_filled x.symbol done no_fill unfilled))

    total_good : cause (fills_read sh.fills) 6 (sh.total ∷ []) ≡ 0
    total_good =
        let h = fills_reached sh.fills in
        no_cause (fills_read sh.fills) 6 (sh.total ∷ [])
        (in_place (fills_read sh.fills) total (omega arith) (omega arith) (omega arith)) refl
        (total_fine (fills_read sh.fills) sh.total refl some w.total)

    -- ---- the whole sheet
    encode_reads : Reads (encode sh) 0 empty (accepted sh)
    unfolding encode
    encode_reads =
        subst (λ (x : List ℕ). Reads x 0 empty (accepted sh)) (sym apart)
        (reads_list (λ b. 1) (λ b. b.floor ∷ b.ceiling ∷ []) sorts_read sh.bounds bound_good (λ done b. refl) [] sh.bounds refl s [] (of_symbols ++ (of_terms ++ (of_literals ++ (of_fills ++ of_total)))) (simp append_assoc) (accepted sh)
        (reads_list (λ f. 2) (λ f. f.result ∷ f.params) symbols_read sh.symbols symbol_good (λ done f. refl) [] sh.symbols refl s of_sorts (of_terms ++ (of_literals ++ (of_fills ++ of_total))) (simp append_assoc) (accepted sh)
        (reads_list (λ t. 3) (λ t. t.symbol ∷ t.args) terms_read sh.terms term_good (λ done t. refl) [] sh.terms refl s (of_sorts ++ of_symbols) (of_literals ++ (of_fills ++ of_total)) (simp append_assoc) (accepted sh)
        (reads_list (λ l. cond l.equal 4 5) (λ l. l.left ∷ l.right ∷ []) literals_read sh.literals literal_good literal_grows [] sh.literals refl s (of_sorts ++ of_symbols ++ of_terms) (of_fills ++ of_total) (simp append_assoc) (accepted sh)
        (reads_list (λ x. 7) (λ x. x.symbol ∷ x.term ∷ []) fills_read sh.fills fill_good (λ done x. refl) [] sh.fills refl s (of_sorts ++ of_symbols ++ of_terms ++ of_literals) of_total (simp append_assoc) (accepted sh)
        (reads_record (of_sorts ++ of_symbols ++ of_terms ++ of_literals ++ of_fills) 6 (sh.total ∷ []) [] (fills_read sh.fills) total_good (accepted sh) last))))))
      where
        of_sorts : List ℕ
        of_sorts = flat_map bound_bytes sh.bounds

        of_symbols : List ℕ
        of_symbols = flat_map symbol_bytes sh.symbols

        of_terms : List ℕ
        of_terms = flat_map term_bytes sh.terms

        of_literals : List ℕ
        of_literals = flat_map literal_bytes sh.literals

        of_fills : List ℕ
        of_fills = flat_map fill_bytes sh.fills

        of_total : List ℕ
        of_total = packet 6 (sh.total ∷ [])

        s : List ℕ
        s = of_sorts ++ of_symbols ++ of_terms ++ of_literals ++ of_fills ++ of_total

        apart : encode sh ≡ s
        apart = rw (total_bytes_lem sh.total some)

        last : Reads s (length s) sh (accepted sh)
        last n h = from_end n s (length s) sh (omega arith) ∙ rw (ne_eqb sh.total 0 (λ e. omega arith))

-- a well-formed sheet without a total is the empty one: without a sort there is no symbol, so no term, so neither literal nor fill
pub without_total : (sh : Sheet) → WellFormed sh → sh.total ≡ 0 → sh ≡ empty
without_total sh w e =
    λ i.
    record {
      bounds = no_entries sh.bounds sorts i;
      symbols = no_entries sh.symbols symbols i;
      terms = no_entries sh.terms terms i;
      literals = no_entries sh.literals (no_sides sh w terms) i;
      fills = no_entries sh.fills (no_fillers sh w terms) i;
      total = e i;
    }
  where
    sorts : length sh.bounds ≡ 0
    sorts = let none : 1 ≤ length sh.bounds → ⊥ = λ h. let z = w.stage.0 h in omega arith in omega arith

    symbols : length sh.symbols ≡ 0
    symbols = let none : 1 ≤ length sh.symbols → ⊥ = λ h. let z = w.result 0 h in omega (arith, sorts) in omega arith

    terms : length sh.terms ≡ 0
    terms = let none : 1 ≤ length sh.terms → ⊥ = λ h. let z = w.symbol 0 h in omega (arith, symbols) in omega arith

-- the sheet of zero bytes is accepted: it is the empty one
pub nothing_read : reading [] ≡ accepted empty
unfolding reading read_from
nothing_read = refl

-- a well-formed sheet's encoding is read as that sheet
pub encode_read : (sh : Sheet) → WellFormed sh → reading (encode sh) ≡ accepted sh
unfolding reading
encode_read sh w = go sh.total refl
  where
    go : (n : ℕ) → sh.total ≡ n → reading (encode sh) ≡ accepted sh
    go zero e = subst (λ (x : Sheet). reading (encode x) ≡ accepted x) (sym (without_total sh w e)) (ap reading encode_empty ∙ nothing_read)
    go (suc n) e =
        let short = encode_longest sh w in
        let few = w.fills in
        rw (le-ltb 4096 (length (encode sh)) (omega arith)) (encode_reads sh w (omega arith) (length (encode sh)) (omega arith))
