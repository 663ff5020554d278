-- A good record keeps what holds of the sheet so far.
use Prim.Native.Nat.{ℕ, zero, suc, ◌+◌, ◌≤◌, ◌<◌}
use native.Mathlib.Omega.{arith}
use mathlib.Core.Path.{◌≡◌, refl, ap, sym, ◌∙◌, subst}
use mathlib.Core.Bool.{Bool, true, false, ◌&&◌, true≢false, cond}
use mathlib.Core.List.{List, [], ◌∷◌, ◌++◌, map}
use lib.ListN.{length, get_or, length-append, get_or-append}
use lib.Seq.{get_or-append_seam}
use lib.Dec.{ltb, eqb}
use borrow.Author.Tests.{ltb-true, ltb-false, leb-false, eqb-true, not-false, eq-eqb}
use Rattle.logic.specs.Sheet.{Sheet, Bound, Symbol, Term, Literal, Fill, symbol_at, term_at, fill_at, sort_at, no_symbol, no_term, no_literal, no_fill}
use Rattle.prelude.specs.Tests.{Each, Within, all, within, same_list}
use Rattle.prelude.proofs.Tests.{and_both, or_both, within_true, same_list_same, same_same_list}
use Rattle.prelude.proofs.Lists.{map_each}
use Rattle.layout.specs.Layout.{Kind, kind_of, field, name, expression, same, differ, total, fill, rank, reached, misplaced, wrong_length, shortest, longest, occurs, is_filled, cause, add, add_bound, add_symbol, add_term, add_literal, add_fill, with_total, empty}
use Rattle.layout.specs.Parts.{SoFar, later}
use Rattle.layout.proofs.Causes.{Placed, placed, Clear, clear, no_fills, no_literals, no_terms, no_symbols}
use Rattle.layout.proofs.AtMostTwo.{all_below, each_weaken}

-- what holds of each entry of a list, and of one more at its end
pub more : {A : Type 0} (P : ℕ → A → Type 0) (l : List A) (a d : A) → ((i : ℕ) → i < length l → P i (get_or l i d)) → P (length l) a
    → (i : ℕ) → i < length (l ++ (a ∷ [])) → P i (get_or (l ++ (a ∷ [])) i d)
more {A = A} P l a d old new i h = go (ltb i (length l)) refl
  where
    go : (b : Bool) → ltb i (length l) ≡ b → P i (get_or (l ++ (a ∷ [])) i d)
    go true e = rw (get_or-append l (a ∷ []) d i (ltb-true i (length l) e)) (old i (ltb-true i (length l) e))
    go false e =
        let n = ltb-false i (length l) e in
        let m = length-append l (a ∷ []) in
        let z : length l ≡ i = omega arith in
        subst (λ (x : ℕ). P x (get_or (l ++ (a ∷ [])) x d)) z (rw (get_or-append_seam l a [] d) new)

-- a term that does not occur is none of the terms
not_there : (t : Term) (ts : List Term) (d : Term) → occurs t.symbol t.args ts ≡ false → (i : ℕ) → i < length ts → get_or ts i d ≡ t → ⊥
not_there t [] d e i h z = omega arith
not_there t (u ∷ ts) d e zero h z =
    let f = (or_both (eqb u.symbol t.symbol && same_list u.args t.args) (occurs t.symbol t.args ts) e).0 in
    true≢false (sym (rw (z, eq-eqb t.symbol t.symbol refl, same_same_list t.args)) ∙ f)
not_there t (u ∷ ts) d e (suc i) h z =
    not_there t ts d (or_both (eqb u.symbol t.symbol && same_list u.args t.args) (occurs t.symbol t.args ts) e).1 i (omega arith) z

-- a symbol that is not filled is none of those that are
not_filled : (f : ℕ) (xs : List Fill) (d : Fill) → is_filled f xs ≡ false → (k : ℕ) → k < length xs → (get_or xs k d).symbol ≡ f → ⊥
not_filled f [] d e k h z = omega arith
not_filled f (x ∷ xs) d e zero h z = true≢false (sym (eq-eqb x.symbol f z) ∙ (or_both (eqb x.symbol f) (is_filled f xs) e).0)
not_filled f (x ∷ xs) d e (suc k) h z = not_filled f xs d (or_both (eqb x.symbol f) (is_filled f xs) e).1 k (omega arith) z

one_more : {A : Type 0} (l : List A) (a : A) → length (l ++ (a ∷ [])) ≡ length l + 1
one_more l a = length-append l (a ∷ [])

module _ (sh : Sheet) (so : SoFar sh) where
  -- a record that is no field comes after one
  begun_later : (k : Kind) → Placed sh k → 2 ≤ rank k → 1 ≤ length sh.bounds
  begun_later k p h = so.stage (go (reached sh) refl)
    where
      go : (n : ℕ) → reached sh ≡ n → 1 ≤ n
      go zero e = let z = p.first e in omega arith
      go (suc n) e = omega arith

  grow_field : (x y : ℕ) → Placed sh field → Clear sh field (x ∷ y ∷ []) → SoFar (add_bound sh (record { floor = x; ceiling = y }))
  grow_field x y p c =
      let b : Bound = record { floor = x; ceiling = y } in
      let range = and_both (within 1 16 x) (within 1 16 y && true) (not-false (within 1 16 x && (within 1 16 y && true)) c.range) in
      let order = p.order in
      let n = one_more sh.bounds b in
      let symbols = no_symbols sh (omega arith) in
      let terms = no_terms sh (omega arith) in
      let literals = no_literals sh (omega arith) in
      let room = leb-false 8 (length sh.bounds) c.room in
      record {
        stage = λ h. omega arith;
        sorts = omega arith;
        symbols = so.symbols;
        terms = so.terms;
        literals = so.literals;
        total = so.total;
        floor = more (λ i e. Within 1 16 e.floor) sh.bounds b (record { floor = 0; ceiling = 0 }) so.floor (within_true 1 16 x range.0);
        ceiling =
            more (λ i e. Within 1 16 e.ceiling) sh.bounds b (record { floor = 0; ceiling = 0 }) so.ceiling
            (within_true 1 16 y (and_both (within 1 16 y) true range.1).0);
        result = λ f h. absurd (omega arith);
        params = λ f h. absurd (omega arith);
        arity = so.arity;
        symbol = so.symbol;
        args = so.args;
        arg_sorts = so.arg_sorts;
        distinct = so.distinct;
        left = so.left;
        right = so.right;
        sides = so.sides;
        fills = so.fills;
        filled = so.filled;
        filler = so.filler;
        fill_sort = so.fill_sort;
        once = so.once;
      }

  grow_name : (r : ℕ) (ps : List ℕ) → length ps ≤ 2 → Placed sh name → Clear sh name (r ∷ ps) → SoFar (add_symbol sh (record { result = r; params = ps }))
  grow_name r ps few p c =
      let f : Symbol = record { result = r; params = ps } in
      let d : Symbol = no_symbol in
      let range = and_both (ltb r (length sh.bounds)) (all (λ s. ltb s (length sh.bounds)) ps) (not-false (ltb r (length sh.bounds) && all (λ s. ltb s (length sh.bounds)) ps) c.range) in
      let order = p.order in
      let n = one_more sh.symbols f in
      let terms = no_terms sh (omega arith) in
      let literals = no_literals sh (omega arith) in
      let fills = no_fills sh (omega arith) in
      let room = leb-false 64 (length sh.symbols) c.room in
      record {
        stage = λ h. begun_later name p (omega arith);
        sorts = so.sorts;
        symbols = omega arith;
        terms = so.terms;
        literals = so.literals;
        total = so.total;
        floor = so.floor;
        ceiling = so.ceiling;
        result = more (λ i e. e.result < length sh.bounds) sh.symbols f d so.result (ltb-true r (length sh.bounds) range.0);
        params = more (λ i e. Each (λ s. s < length sh.bounds) e.params) sh.symbols f d so.params (all_below (length sh.bounds) ps range.1);
        arity = more (λ i e. length e.params ≤ 2) sh.symbols f d so.arity few;
        symbol = λ i h. absurd (omega arith);
        args = so.args;
        arg_sorts = λ i h. absurd (omega arith);
        distinct = so.distinct;
        left = so.left;
        right = so.right;
        sides = λ k h. absurd (omega arith);
        fills = so.fills;
        filled = λ k h. absurd (omega arith);
        filler = λ k h. absurd (omega arith);
        fill_sort = λ k h. absurd (omega arith);
        once = so.once;
      }

  grow_term : (f : ℕ) (args : List ℕ) → Placed sh expression → Clear sh expression (f ∷ args) → SoFar (add_term sh (record { symbol = f; args = args }))
  grow_term f args p c =
      let t : Term = record { symbol = f; args = args } in
      let d : Term = no_term in
      let range =
      and_both (ltb f (length sh.symbols)) (all (λ a. ltb a (length sh.terms)) args)
      (not-false (ltb f (length sh.symbols) && all (λ a. ltb a (length sh.terms)) args) c.range) in
      let order = p.order in
      let n = one_more sh.terms t in
      let literals = no_literals sh (omega arith) in
      let fills = no_fills sh (omega arith) in
      let room = leb-false 128 (length sh.terms) c.room in
      let old-sort : (a : ℕ) → a < length sh.terms → sort_at (add_term sh t) a ≡ sort_at sh a =
      λ a h. ap (λ (u : Term). (symbol_at sh u.symbol).result) (get_or-append sh.terms (t ∷ []) d a h) in
      record {
        stage = λ h. begun_later expression p (omega arith);
        sorts = so.sorts;
        symbols = so.symbols;
        terms = omega arith;
        literals = so.literals;
        total = so.total;
        floor = so.floor;
        ceiling = so.ceiling;
        result = so.result;
        params = so.params;
        arity = so.arity;
        symbol = more (λ i u. u.symbol < length sh.symbols) sh.terms t d so.symbol (ltb-true f (length sh.symbols) range.0);
        args = more (λ i u. Each (λ a. a < i) u.args) sh.terms t d so.args (all_below (length sh.terms) args range.1);
        arg_sorts =
            more (λ i u. map (sort_at (add_term sh t)) u.args ≡ (symbol_at sh u.symbol).params) sh.terms t d
            (λ i h.
            map_each (sort_at (add_term sh t)) (sort_at sh) (λ a. a < length sh.terms) old-sort (term_at sh i).args
            (each_weaken i (length sh.terms) (term_at sh i).args (omega arith) (so.args i h))
            ∙ so.arg_sorts i h)
            (map_each (sort_at (add_term sh t)) (sort_at sh) (λ a. a < length sh.terms) old-sort args (all_below (length sh.terms) args range.1)
            ∙ same_list_same (map (sort_at sh) args) (symbol_at sh f).params (not-false (same_list (map (sort_at sh) args) (symbol_at sh f).params) c.sorts));
        distinct =
            λ i j h h'.
            more (λ i u. (j : ℕ) → j < length (sh.terms ++ (t ∷ [])) → u ≡ get_or (sh.terms ++ (t ∷ [])) j d → i ≡ j) sh.terms t d
            (λ i h. more (λ j u. term_at sh i ≡ u → i ≡ j) sh.terms t d (λ j h' e. so.distinct i j h h' e) (λ e. absurd (not_there t sh.terms d c.fresh i h e)))
            (more (λ j u. t ≡ u → length sh.terms ≡ j) sh.terms t d (λ j h' e. absurd (not_there t sh.terms d c.fresh j h' (sym e))) (λ e. refl))
            i h j h';
        left = λ k h. absurd (omega arith);
        right = λ k h. absurd (omega arith);
        sides = λ k h. absurd (omega arith);
        fills = so.fills;
        filled = λ k h. absurd (omega arith);
        filler = λ k h. absurd (omega arith);
        fill_sort = λ k h. absurd (omega arith);
        once = so.once;
      }

  grow_literal : (b : Bool) (x y : ℕ) → Placed sh same → Clear sh same (x ∷ y ∷ []) → SoFar (add_literal sh (record { equal = b; left = x; right = y }))
  grow_literal b x y p c =
      let l : Literal = record { equal = b; left = x; right = y } in
      let d : Literal = no_literal in
      let range =
      and_both (ltb x (length sh.terms)) (ltb y (length sh.terms) && true)
      (not-false (ltb x (length sh.terms) && (ltb y (length sh.terms) && true)) c.range) in
      let n = one_more sh.literals l in
      let room = leb-false 128 (length sh.literals) c.room in
      record {
        stage = λ h. begun_later same p (omega arith);
        sorts = so.sorts;
        symbols = so.symbols;
        terms = so.terms;
        literals = omega arith;
        total = so.total;
        floor = so.floor;
        ceiling = so.ceiling;
        result = so.result;
        params = so.params;
        arity = so.arity;
        symbol = so.symbol;
        args = so.args;
        arg_sorts = so.arg_sorts;
        distinct = so.distinct;
        left = more (λ k e. e.left < length sh.terms) sh.literals l d so.left (ltb-true x (length sh.terms) range.0);
        right =
            more (λ k e. e.right < length sh.terms) sh.literals l d so.right
            (ltb-true y (length sh.terms) (and_both (ltb y (length sh.terms)) true range.1).0);
        sides =
            more (λ k e. sort_at sh e.left ≡ sort_at sh e.right) sh.literals l d so.sides
            (eqb-true (sort_at sh x) (sort_at sh y) (not-false (eqb (sort_at sh x) (sort_at sh y)) c.sorts));
        fills = so.fills;
        filled = so.filled;
        filler = so.filler;
        fill_sort = so.fill_sort;
        once = so.once;
      }

  grow_total : (x : ℕ) → Placed sh total → Clear sh total (x ∷ []) → SoFar (with_total sh x)
  grow_total x p c =
      let range = within_true 1 128 x (and_both (within 1 128 x) true (not-false (within 1 128 x && true) c.range)).0 in
      record {
        stage = λ h. begun_later total p (omega arith);
        sorts = so.sorts;
        symbols = so.symbols;
        terms = so.terms;
        literals = so.literals;
        total = range.1;
        floor = so.floor;
        ceiling = so.ceiling;
        result = so.result;
        params = so.params;
        arity = so.arity;
        symbol = so.symbol;
        args = so.args;
        arg_sorts = so.arg_sorts;
        distinct = so.distinct;
        left = so.left;
        right = so.right;
        sides = so.sides;
        fills = so.fills;
        filled = so.filled;
        filler = so.filler;
        fill_sort = so.fill_sort;
        once = so.once;
      }

  grow_fill : (f i : ℕ) → Placed sh fill → Clear sh fill (f ∷ i ∷ []) → SoFar (add_fill sh (record { symbol = f; term = i }))
  grow_fill f i p c =
      let x : Fill = record { symbol = f; term = i } in
      let d : Fill = no_fill in
      let range =
      and_both (ltb f (length sh.symbols)) (ltb i (length sh.terms))
      (not-false (ltb f (length sh.symbols) && ltb i (length sh.terms)) c.range) in
      let n = one_more sh.fills x in
      let room = leb-false 64 (length sh.fills) c.room in
      record {
        stage = λ h. begun_later fill p (omega arith);
        sorts = so.sorts;
        symbols = so.symbols;
        terms = so.terms;
        literals = so.literals;
        total = so.total;
        floor = so.floor;
        ceiling = so.ceiling;
        result = so.result;
        params = so.params;
        arity = so.arity;
        symbol = so.symbol;
        args = so.args;
        arg_sorts = so.arg_sorts;
        distinct = so.distinct;
        left = so.left;
        right = so.right;
        sides = so.sides;
        fills = omega arith;
        filled = more (λ k y. y.symbol < length sh.symbols) sh.fills x d so.filled (ltb-true f (length sh.symbols) range.0);
        filler = more (λ k y. y.term < length sh.terms) sh.fills x d so.filler (ltb-true i (length sh.terms) range.1);
        fill_sort =
            more (λ k y. sort_at sh y.term ≡ (symbol_at sh y.symbol).result) sh.fills x d so.fill_sort
            (eqb-true (sort_at sh i) (symbol_at sh f).result (not-false (eqb (sort_at sh i) (symbol_at sh f).result) c.sorts));
        once =
            λ k m h h'.
            more (λ k y. (m : ℕ) → m < length (sh.fills ++ (x ∷ [])) → y.symbol ≡ (get_or (sh.fills ++ (x ∷ [])) m d).symbol → k ≡ m) sh.fills x d
            (λ k h. more (λ m y. (fill_at sh k).symbol ≡ y.symbol → k ≡ m) sh.fills x d (λ m h' e. so.once k m h h' e) (λ e. absurd (not_filled f sh.fills d c.once k h e)))
            (more (λ m y. f ≡ y.symbol → length sh.fills ≡ m) sh.fills x d (λ m h' e. absurd (not_filled f sh.fills d c.once m h' (sym e))) (λ e. refl))
            k h m h';
      }

pub total_least : (sh : Sheet) (x : ℕ) → Clear sh total (x ∷ []) → 1 ≤ x
total_least sh x c = (within_true 1 128 x (and_both (within 1 128 x) true (not-false (within 1 128 x && true) c.range)).0).0

-- none of the causes 3 to 8 and 16 applies
pub record Fine (sh : Sheet) (k : ℕ) (p : List ℕ) : Type 0 where
  pub placed : Placed sh (kind_of k)
  pub least : shortest k ≤ length p
  pub most : length p ≤ longest k
  pub clear : Clear sh (kind_of k) p

pub fine : (sh : Sheet) (k : ℕ) (p : List ℕ) → cause sh k p ≡ 0 → Fine sh k p
unfolding cause
fine sh k p e = go (misplaced sh (kind_of k)) (wrong_length k (length p)) refl refl e
  where
    go : (a b : Bool) → misplaced sh (kind_of k) ≡ a → wrong_length k (length p) ≡ b → ◌≡◌ {A = ℕ} (cond a 3 (cond b 4 (later sh (kind_of k) p))) 0 → Fine sh k p
    go true b ea eb z = absurd (omega arith)
    go false true ea eb z = absurd (omega arith)
    go false false ea eb z =
        let h = or_both (ltb (length p) (shortest k)) (ltb (longest k) (length p)) eb in
        record {
          placed = placed sh (kind_of k) ea;
          least = ltb-false (length p) (shortest k) h.0;
          most = ltb-false (longest k) (length p) h.1;
          clear = clear sh (kind_of k) p z;
        }

pub grown : (sh : Sheet) → SoFar sh → (k : ℕ) (p : List ℕ) → cause sh k p ≡ 0 → SoFar (add sh (kind_of k) p)
grown sh so k p e = go k p (fine sh k p e)
  where
    two : (k : ℕ) → longest k ≡ 2 → shortest k ≡ 2 → (p : List ℕ) → Fine sh k p → (Q : List ℕ → Type 0) → ((x y : ℕ) → Clear sh (kind_of k) (x ∷ y ∷ []) → Q (x ∷ y ∷ [])) → Q p
    two k e e' [] f Q q = let h = f.least in absurd (omega arith)
    two k e e' (x ∷ []) f Q q = let h = f.least in absurd (omega arith)
    two k e e' (x ∷ y ∷ []) f Q q = q x y f.clear
    two k e e' (x ∷ y ∷ z ∷ p) f Q q = let h = f.most in absurd (omega arith)

    go : (k : ℕ) (p : List ℕ) → Fine sh k p → SoFar (add sh (kind_of k) p)
    go zero p f = absurd (f.placed.known refl)
    go (suc zero) p f = two 1 refl refl p f (λ p. SoFar (add sh field p)) (λ x y c. grow_field sh so x y f.placed c)
    go (suc (suc zero)) [] f = let h = f.least in absurd (omega arith)
    go (suc (suc zero)) (r ∷ ps) f = grow_name sh so r ps (let h = f.most in omega arith) f.placed f.clear
    go (suc (suc (suc zero))) [] f = let h = f.least in absurd (omega arith)
    go (suc (suc (suc zero))) (g ∷ args) f = grow_term sh so g args f.placed f.clear
    go (suc (suc (suc (suc zero)))) p f = two 4 refl refl p f (λ p. SoFar (add sh same p)) (λ x y c. grow_literal sh so true x y f.placed c)
    go (suc (suc (suc (suc (suc zero))))) p f = two 5 refl refl p f (λ p. SoFar (add sh differ p)) (λ x y c. grow_literal sh so false x y (as_same f.placed) (as_same_clear x y c))
      where
        as_same : Placed sh differ → Placed sh same
        as_same h = record { known = h.known; order = h.order; first = h.first; open' = h.open' }

        as_same_clear : (x y : ℕ) → Clear sh differ (x ∷ y ∷ []) → Clear sh same (x ∷ y ∷ [])
        as_same_clear x y h = record { room = h.room; range = h.range; sorts = h.sorts; fresh = h.fresh; once = h.once }
    go (suc (suc (suc (suc (suc (suc zero)))))) [] f = let h = f.least in absurd (omega arith)
    go (suc (suc (suc (suc (suc (suc zero)))))) (x ∷ []) f = grow_total sh so x f.placed f.clear
    go (suc (suc (suc (suc (suc (suc zero)))))) (x ∷ y ∷ p) f = let h = f.most in absurd (omega arith)
    go (suc (suc (suc (suc (suc (suc (suc zero))))))) p f = two 7 refl refl p f (λ p. SoFar (add sh fill p)) (λ x y c. grow_fill sh so x y f.placed c)
    go (suc (suc (suc (suc (suc (suc (suc (suc n)))))))) p f = absurd (f.placed.known refl)

-- before the first record
pub empty_sofar : SoFar empty
empty_sofar =
    record {
      stage = λ h. h;
      sorts = omega arith;
      symbols = omega arith;
      terms = omega arith;
      literals = omega arith;
      total = omega arith;
      floor = λ i h. absurd (omega arith);
      ceiling = λ i h. absurd (omega arith);
      result = λ i h. absurd (omega arith);
      params = λ i h. absurd (omega arith);
      arity = λ i h. absurd (omega arith);
      symbol = λ i h. absurd (omega arith);
      args = λ i h. absurd (omega arith);
      arg_sorts = λ i h. absurd (omega arith);
      distinct = λ i j h h' e. absurd (omega arith);
      left = λ i h. absurd (omega arith);
      right = λ i h. absurd (omega arith);
      sides = λ i h. absurd (omega arith);
      fills = omega arith;
      filled = λ k h. absurd (omega arith);
      filler = λ k h. absurd (omega arith);
      fill_sort = λ k h. absurd (omega arith);
      once = λ k m h h' e. absurd (omega arith);
    }
