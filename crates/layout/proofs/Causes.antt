-- The causes 3 to 8 and 16, case by case: what each test of the code comes to in the words of the layout.
use Prim.Native.Nat.{ℕ, zero, suc, ◌≤◌, ◌<◌}
use native.Mathlib.Omega.{arith}
use mathlib.Core.Path.{◌≡◌, refl, ap, sym, ◌∙◌}
use mathlib.Core.Bool.{Bool, true, false, not, ◌&&◌, ◌||◌, true≢false, cond}
use mathlib.Core.List.{List, [], ◌∷◌}
use lib.ListN.{length}
use lib.Dec.{ltb, eqb}
use borrow.Author.Tests.{lt-ltb, le-ltb, le-leb, lt-leb, eq-eqb, ne_eqb, ltb-false, eqb-true, eqb-false}
use Rattle.logic.specs.Sheet.{Sheet, symbol_at, sort_at}
use Rattle.prelude.specs.Tests.{all, within}
use Rattle.prelude.proofs.Tests.{or_all, or_fourth, and_no}
use Rattle.layout.specs.Kinds.{kind_number}
use Rattle.layout.specs.declared.kinds.Kind.{Kind as Named}
use Rattle.layout.specs.declared.kinds.Kind.TheVariants.{Sort, Symbol, Term, Same, Differ, Total, Fill}
use Rattle.layout.specs.Layout.{Kind, field, name, expression, same, total, fill, kind_of, rank, reached, misplaced, wrong_length, shortest, longest, too_many, out_of_range, ill_sorted, repeated, refilled, occurs, is_filled}
use Rattle.layout.specs.Parts.{later}

-- a kind that is none of 1 to 7 has no rank
pub no_rank : (k : ℕ) → ((x : Named) → k ≡ kind_number x → ⊥) → 0 ≡ rank (kind_of k)
no_rank zero h = refl
no_rank (suc zero) h = absurd (h Sort refl)
no_rank (suc (suc zero)) h = absurd (h Symbol refl)
no_rank (suc (suc (suc zero))) h = absurd (h Term refl)
no_rank (suc (suc (suc (suc zero)))) h = absurd (h Same refl)
no_rank (suc (suc (suc (suc (suc zero))))) h = absurd (h Differ refl)
no_rank (suc (suc (suc (suc (suc (suc zero)))))) h = absurd (h Total refl)
no_rank (suc (suc (suc (suc (suc (suc (suc zero))))))) h = absurd (h Fill refl)
no_rank (suc (suc (suc (suc (suc (suc (suc (suc n)))))))) h = refl

pub ranked : (k : ℕ) → (rank (kind_of k) ≡ 0 → ⊥) → (1 ≤ k) × (k ≤ 7)
ranked zero h = absurd (h refl)
ranked (suc zero) h = omega arith
ranked (suc (suc zero)) h = omega arith
ranked (suc (suc (suc zero))) h = omega arith
ranked (suc (suc (suc (suc zero)))) h = omega arith
ranked (suc (suc (suc (suc (suc zero))))) h = omega arith
ranked (suc (suc (suc (suc (suc (suc zero)))))) h = omega arith
ranked (suc (suc (suc (suc (suc (suc (suc zero))))))) h = omega arith
ranked (suc (suc (suc (suc (suc (suc (suc (suc n)))))))) h = absurd (h refl)

-- how far reading has come
pub reached_6 : (sh : Sheet) → (sh.total ≡ 0 → ⊥) → 6 ≡ reached sh
reached_6 sh h = rw (ne_eqb sh.total 0 h)

module _ (sh : Sheet) (total0 : sh.total ≡ 0) where
  pub reached_5 : (length sh.fills ≡ 0 → ⊥) → 5 ≡ reached sh
  reached_5 h = rw (eq-eqb sh.total 0 total0, ne_eqb (length sh.fills) 0 h)

  module _ (fills0 : length sh.fills ≡ 0) where
    pub reached_4 : (length sh.literals ≡ 0 → ⊥) → 4 ≡ reached sh
    reached_4 h = rw (eq-eqb sh.total 0 total0, eq-eqb (length sh.fills) 0 fills0, ne_eqb (length sh.literals) 0 h)

    module _ (literals0 : length sh.literals ≡ 0) where
      bare : (n : ℕ)
          → n
          ≡ cond (not (eqb (length sh.terms) 0)) 3
          (cond (not (eqb (length sh.symbols) 0)) 2
          (cond (not (eqb (length sh.bounds) 0)) 1 0))
          → n ≡ reached sh
      bare n e = rw (eq-eqb sh.total 0 total0, eq-eqb (length sh.fills) 0 fills0, eq-eqb (length sh.literals) 0 literals0) e

      pub reached_3 : (length sh.terms ≡ 0 → ⊥) → 3 ≡ reached sh
      reached_3 h = bare 3 (rw (ne_eqb (length sh.terms) 0 h))

      pub reached_2 : length sh.terms ≡ 0 → (length sh.symbols ≡ 0 → ⊥) → 2 ≡ reached sh
      reached_2 e h = bare 2 (rw (eq-eqb (length sh.terms) 0 e, ne_eqb (length sh.symbols) 0 h))

      pub reached_1 : length sh.terms ≡ 0 → length sh.symbols ≡ 0 → (length sh.bounds ≡ 0 → ⊥) → 1 ≡ reached sh
      reached_1 e e' h = bare 1 (rw (eq-eqb (length sh.terms) 0 e, eq-eqb (length sh.symbols) 0 e', ne_eqb (length sh.bounds) 0 h))

      pub reached_0 : length sh.terms ≡ 0 → length sh.symbols ≡ 0 → length sh.bounds ≡ 0 → 0 ≡ reached sh
      reached_0 e e' h = bare 0 (rw (eq-eqb (length sh.terms) 0 e, eq-eqb (length sh.symbols) 0 e', eq-eqb (length sh.bounds) 0 h))

-- what has not been reached is not there
pub no_total : (sh : Sheet) → (reached sh ≡ 6 → ⊥) → sh.total ≡ 0
no_total sh h = eqb-true sh.total 0 (go (eqb sh.total 0) refl)
  where
    go : (b : Bool) → eqb sh.total 0 ≡ b → b ≡ true
    go true e = refl
    go false e = absurd (h (sym (reached_6 sh (eqb-false sh.total 0 e))))

module _ (sh : Sheet) where
  -- a list of which it is known how far reading has come once it has an entry
  absent : {A : Type 0} (l : List A) (n : ℕ) → ((length l ≡ 0 → ⊥) → n ≡ reached sh) → reached sh < n → length l ≡ 0
  absent l n there h = eqb-true (length l) 0 (go (eqb (length l) 0) refl)
    where
      go : (b : Bool) → eqb (length l) 0 ≡ b → b ≡ true
      go true e = refl
      go false e = let z = there (eqb-false (length l) 0 e) in absurd (omega arith)

  pub no_fills : reached sh < 5 → length sh.fills ≡ 0
  no_fills h = absent sh.fills 5 (reached_5 sh (no_total sh (λ e. omega arith))) h

  pub no_literals : reached sh < 4 → length sh.literals ≡ 0
  no_literals h = absent sh.literals 4 (reached_4 sh (no_total sh (λ e. omega arith)) (no_fills (omega arith))) h

  pub no_terms : reached sh < 3 → length sh.terms ≡ 0
  no_terms h = absent sh.terms 3 (reached_3 sh (no_total sh (λ e. omega arith)) (no_fills (omega arith)) (no_literals (omega arith))) h

  pub no_symbols : reached sh < 2 → length sh.symbols ≡ 0
  no_symbols h =
      absent sh.symbols 2 (reached_2 sh (no_total sh (λ e. omega arith)) (no_fills (omega arith)) (no_literals (omega arith)) (no_terms (omega arith))) h

-- cause 3, test by test
pub misplaced_kind : (sh : Sheet) (k : Kind) → rank k ≡ 0 → true ≡ misplaced sh k
misplaced_kind sh k e = rw (eq-eqb (rank k) 0 e)

pub misplaced_order : (sh : Sheet) (k : Kind) → (rank k ≡ 0 → ⊥) → rank k < reached sh → true ≡ misplaced sh k
misplaced_order sh k e h = rw (ne_eqb (rank k) 0 e, lt-ltb (rank k) (reached sh) h)

pub misplaced_after : (sh : Sheet) (k : Kind) → reached sh ≡ 6 → true ≡ misplaced sh k
misplaced_after sh k e =
    or_fourth (eqb (rank k) 0) (ltb (rank k) (reached sh)) (eqb (reached sh) 0 && not (eqb (rank k) 1)) (eqb (reached sh) 6) (eq-eqb (reached sh) 6 e)

pub placed_later : (sh : Sheet) (k : Kind) → (rank k ≡ 0 → ⊥) → reached sh ≤ rank k → (reached sh ≡ 6 → ⊥) → (reached sh ≡ 0 → ⊥) → false ≡ misplaced sh k
placed_later sh k a b c d =
    rw (ne_eqb (rank k) 0 a, le-ltb (rank k) (reached sh) b, ne_eqb (reached sh) 0 d, ne_eqb (reached sh) 6 c)

pub placed_first : (sh : Sheet) (k : Kind) → (rank k ≡ 0 → ⊥) → reached sh ≡ 0 → not (eqb (rank k) 1) ≡ misplaced sh k
placed_first sh k a e =
    rw (ne_eqb (rank k) 0 a, le-ltb (rank k) (reached sh) (omega arith), eq-eqb (reached sh) 0 e, ne_eqb (reached sh) 6 (λ e'. omega arith)) (or_no (not (eqb (rank k) 1)))
  where
    or_no : (b : Bool) → b ≡ (b || false)
    or_no true = refl
    or_no false = refl

-- what follows of a record in its place
pub record Placed (sh : Sheet) (k : Kind) : Type 0 where
  pub known : rank k ≡ 0 → ⊥
  pub order : reached sh ≤ rank k
  pub first : reached sh ≡ 0 → rank k ≡ 1
  pub open' : reached sh ≡ 6 → ⊥

pub placed : (sh : Sheet) (k : Kind) → misplaced sh k ≡ false → Placed sh k
placed sh k e =
    let h = or_all (eqb (rank k) 0) (ltb (rank k) (reached sh)) (eqb (reached sh) 0 && not (eqb (rank k) 1)) (eqb (reached sh) 6) e in
    record {
      known = eqb-false (rank k) 0 h.0;
      order = ltb-false (rank k) (reached sh) h.1;
      first = λ e'. eqb-true (rank k) 1 (go (eqb (reached sh) 0) (eqb (rank k) 1) (eq-eqb (reached sh) 0 e') h.2);
      open' = eqb-false (reached sh) 6 h.3;
    }
  where
    go : (a b : Bool) → a ≡ true → (a && not b) ≡ false → b ≡ true
    go true true p q = refl
    go true false p q = absurd (true≢false q)
    go false b p q = absurd (true≢false (sym p))

-- cause 4
pub too_short_lem : (k n m : ℕ) → m ≡ shortest k → n < m → true ≡ wrong_length k n
too_short_lem k n m e h = rw (lt-ltb n (shortest k) (omega arith))

pub too_long : (k n m M : ℕ) → m ≡ shortest k → M ≡ longest k → m ≤ n → ltb M n ≡ wrong_length k n
too_long k n m M e e' h = rw (le-ltb n (shortest k) (omega arith), e')

-- the causes 5 to 8 and 16: the first that applies
pub later_5 : (sh : Sheet) (k : Kind) (p : List ℕ) → too_many sh k ≡ true → 5 ≡ later sh k p
later_5 sh k p e = rw e

pub later_6 : (sh : Sheet) (k : Kind) (p : List ℕ) → too_many sh k ≡ false → out_of_range sh k p ≡ true → 6 ≡ later sh k p
later_6 sh k p a b = rw (a, b)

pub later_7 : (sh : Sheet) (k : Kind) (p : List ℕ) → too_many sh k ≡ false → out_of_range sh k p ≡ false → ill_sorted sh k p ≡ true → 7 ≡ later sh k p
later_7 sh k p a b c = rw (a, b, c)

pub later_8 : (sh : Sheet) (k : Kind) (p : List ℕ) → too_many sh k ≡ false → out_of_range sh k p ≡ false → ill_sorted sh k p ≡ false → repeated sh k p ≡ true → 8 ≡ later sh k p
later_8 sh k p a b c d = rw (a, b, c, d)

pub later_16 : (sh : Sheet) (k : Kind) (p : List ℕ) → too_many sh k ≡ false → out_of_range sh k p ≡ false → ill_sorted sh k p ≡ false → repeated sh k p ≡ false → refilled sh k p ≡ true → 16 ≡ later sh k p
later_16 sh k p a b c d e = rw (a, b, c, d, e)

pub later_0 : (sh : Sheet) (k : Kind) (p : List ℕ) → too_many sh k ≡ false → out_of_range sh k p ≡ false → ill_sorted sh k p ≡ false → repeated sh k p ≡ false → refilled sh k p ≡ false → 0 ≡ later sh k p
later_0 sh k p a b c d e = rw (a, b, c, d, e)

-- none of them applies
pub record Clear (sh : Sheet) (k : Kind) (p : List ℕ) : Type 0 where
  pub room : too_many sh k ≡ false
  pub range : out_of_range sh k p ≡ false
  pub sorts : ill_sorted sh k p ≡ false
  pub fresh : repeated sh k p ≡ false
  pub once : refilled sh k p ≡ false

pub clear : (sh : Sheet) (k : Kind) (p : List ℕ) → later sh k p ≡ 0 → Clear sh k p
clear sh k p e = go (too_many sh k) (out_of_range sh k p) (ill_sorted sh k p) (repeated sh k p) (refilled sh k p) refl refl refl refl refl e
  where
    go : (a b c d f : Bool) → too_many sh k ≡ a → out_of_range sh k p ≡ b → ill_sorted sh k p ≡ c → repeated sh k p ≡ d → refilled sh k p ≡ f
        → ◌≡◌ {A = ℕ} (cond a 5 (cond b 6 (cond c 7 (cond d 8 (cond f 16 0))))) 0 → Clear sh k p
    go true b c d f ea eb ec ed ef z = absurd (omega arith)
    go false true c d f ea eb ec ed ef z = absurd (omega arith)
    go false false true d f ea eb ec ed ef z = absurd (omega arith)
    go false false false true f ea eb ec ed ef z = absurd (omega arith)
    go false false false false true ea eb ec ed ef z = absurd (omega arith)
    go false false false false false ea eb ec ed ef z = record { room = ea; range = eb; sorts = ec; fresh = ed; once = ef }

-- a field
module _ (sh : Sheet) (b0 b1 : ℕ) where
  pub field_many : 8 ≤ length sh.bounds → 5 ≡ later sh field (b0 ∷ b1 ∷ [])
  field_many h = later_5 sh field (b0 ∷ b1 ∷ []) (le-leb 8 (length sh.bounds) h)

  pub field_floor : length sh.bounds < 8 → within 1 16 b0 ≡ false → 6 ≡ later sh field (b0 ∷ b1 ∷ [])
  field_floor h e = later_6 sh field (b0 ∷ b1 ∷ []) (lt-leb 8 (length sh.bounds) h) (ap (λ (b : Bool). not (b && (within 1 16 b1 && true))) e)

  pub field_ceiling : length sh.bounds < 8 → within 1 16 b1 ≡ false → 6 ≡ later sh field (b0 ∷ b1 ∷ [])
  field_ceiling h e =
      later_6 sh field (b0 ∷ b1 ∷ []) (lt-leb 8 (length sh.bounds) h)
      (ap not (and_no (within 1 16 b0) (within 1 16 b1 && true) (ap (λ (b : Bool). b && true) e)))

  pub field_fine : length sh.bounds < 8 → within 1 16 b0 ≡ true → within 1 16 b1 ≡ true → 0 ≡ later sh field (b0 ∷ b1 ∷ [])
  field_fine h e e' =
      later_0 sh field (b0 ∷ b1 ∷ []) (lt-leb 8 (length sh.bounds) h)
      (ap (λ (b : Bool). not (b && (within 1 16 b1 && true))) e ∙ ap (λ (b : Bool). not (true && (b && true))) e')
      refl refl refl

-- a total, where there is none yet
module _ (sh : Sheet) (b0 : ℕ) (none : sh.total ≡ 0) where
  total_room : too_many sh total ≡ false
  total_room = rw (eq-eqb sh.total 0 none)

  pub total_low : b0 < 1 → 6 ≡ later sh total (b0 ∷ [])
  total_low h = later_6 sh total (b0 ∷ []) total_room (rw (lt-leb 1 b0 h))

  pub total_high : 128 < b0 → 6 ≡ later sh total (b0 ∷ [])
  total_high h = later_6 sh total (b0 ∷ []) total_room (rw (le-leb 1 b0 (omega arith), lt-leb b0 128 h))

  pub total_fine : 1 ≤ b0 → b0 ≤ 128 → 0 ≡ later sh total (b0 ∷ [])
  total_fine h h' = later_0 sh total (b0 ∷ []) total_room (rw (le-leb 1 b0 h, le-leb b0 128 h')) refl refl refl

-- a name of result r and parameters ps
module _ (sh : Sheet) (r : ℕ) (ps : List ℕ) where
  pub name_many : 64 ≤ length sh.symbols → 5 ≡ later sh name (r ∷ ps)
  name_many h = later_5 sh name (r ∷ ps) (le-leb 64 (length sh.symbols) h)

  pub name_result : length sh.symbols < 64 → length sh.bounds ≤ r → 6 ≡ later sh name (r ∷ ps)
  name_result h e = later_6 sh name (r ∷ ps) (lt-leb 64 (length sh.symbols) h) (rw (le-ltb r (length sh.bounds) e))

  pub name_params : length sh.symbols < 64 → r < length sh.bounds → all (λ s. ltb s (length sh.bounds)) ps ≡ false → 6 ≡ later sh name (r ∷ ps)
  name_params h e e' =
      later_6 sh name (r ∷ ps) (lt-leb 64 (length sh.symbols) h)
      (ap (λ (b : Bool). not (b && all (λ s. ltb s (length sh.bounds)) ps)) (lt-ltb r (length sh.bounds) e) ∙ ap not e')

  pub name_fine : length sh.symbols < 64 → r < length sh.bounds → all (λ s. ltb s (length sh.bounds)) ps ≡ true → 0 ≡ later sh name (r ∷ ps)
  name_fine h e e' =
      later_0 sh name (r ∷ ps) (lt-leb 64 (length sh.symbols) h)
      (ap (λ (b : Bool). not (b && all (λ s. ltb s (length sh.bounds)) ps)) (lt-ltb r (length sh.bounds) e) ∙ ap not e')
      refl refl refl

-- an expression of symbol f and arguments args
module _ (sh : Sheet) (f : ℕ) (args : List ℕ) where
  pub term_many : 128 ≤ length sh.terms → 5 ≡ later sh expression (f ∷ args)
  term_many h = later_5 sh expression (f ∷ args) (le-leb 128 (length sh.terms) h)

  pub term_symbol : length sh.terms < 128 → length sh.symbols ≤ f → 6 ≡ later sh expression (f ∷ args)
  term_symbol h e = later_6 sh expression (f ∷ args) (lt-leb 128 (length sh.terms) h) (rw (le-ltb f (length sh.symbols) e))

  term_range : (b : Bool) → f < length sh.symbols → all (λ a. ltb a (length sh.terms)) args ≡ b → out_of_range sh expression (f ∷ args) ≡ not b
  term_range b e e' =
      ap (λ (t : Bool). not (t && all (λ a. ltb a (length sh.terms)) args)) (lt-ltb f (length sh.symbols) e) ∙ ap not e'

  pub term_args : length sh.terms < 128 → f < length sh.symbols → all (λ a. ltb a (length sh.terms)) args ≡ false → 6 ≡ later sh expression (f ∷ args)
  term_args h e e' = later_6 sh expression (f ∷ args) (lt-leb 128 (length sh.terms) h) (term_range false e e')

  module _ (room : length sh.terms < 128) (there : f < length sh.symbols) (below : all (λ a. ltb a (length sh.terms)) args ≡ true) where
    pub term_sorts : ill_sorted sh expression (f ∷ args) ≡ true → 7 ≡ later sh expression (f ∷ args)
    term_sorts e = later_7 sh expression (f ∷ args) (lt-leb 128 (length sh.terms) room) (term_range true there below) e

    pub term_again : ill_sorted sh expression (f ∷ args) ≡ false → occurs f args sh.terms ≡ true → 8 ≡ later sh expression (f ∷ args)
    term_again e e' = later_8 sh expression (f ∷ args) (lt-leb 128 (length sh.terms) room) (term_range true there below) e e'

    pub term_fine : ill_sorted sh expression (f ∷ args) ≡ false → occurs f args sh.terms ≡ false → 0 ≡ later sh expression (f ∷ args)
    term_fine e e' = later_0 sh expression (f ∷ args) (lt-leb 128 (length sh.terms) room) (term_range true there below) e e' refl

-- a statement of either kind
module _ (sh : Sheet) (l r : ℕ) where
  pub literal_many : 128 ≤ length sh.literals → 5 ≡ later sh same (l ∷ r ∷ [])
  literal_many h = later_5 sh same (l ∷ r ∷ []) (le-leb 128 (length sh.literals) h)

  pub literal_left : length sh.literals < 128 → length sh.terms ≤ l → 6 ≡ later sh same (l ∷ r ∷ [])
  literal_left h e = later_6 sh same (l ∷ r ∷ []) (lt-leb 128 (length sh.literals) h) (rw (le-ltb l (length sh.terms) e))

  pub literal_right : length sh.literals < 128 → l < length sh.terms → length sh.terms ≤ r → 6 ≡ later sh same (l ∷ r ∷ [])
  literal_right h e e' =
      later_6 sh same (l ∷ r ∷ []) (lt-leb 128 (length sh.literals) h) (rw (lt-ltb l (length sh.terms) e, le-ltb r (length sh.terms) e'))

  literal_range : l < length sh.terms → r < length sh.terms → out_of_range sh same (l ∷ r ∷ []) ≡ false
  literal_range e e' = rw (lt-ltb l (length sh.terms) e, lt-ltb r (length sh.terms) e')

  module _ (room : length sh.literals < 128) (a : l < length sh.terms) (b : r < length sh.terms) where
    pub literal_fine : sort_at sh l ≡ sort_at sh r → 0 ≡ later sh same (l ∷ r ∷ [])
    literal_fine e =
        later_0 sh same (l ∷ r ∷ []) (lt-leb 128 (length sh.literals) room) (literal_range a b)
        (ap not (eq-eqb (sort_at sh l) (sort_at sh r) e)) refl refl

    pub literal_sides : (sort_at sh l ≡ sort_at sh r → ⊥) → 7 ≡ later sh same (l ∷ r ∷ [])
    literal_sides e =
        later_7 sh same (l ∷ r ∷ []) (lt-leb 128 (length sh.literals) room) (literal_range a b)
        (ap not (ne_eqb (sort_at sh l) (sort_at sh r) e))

-- a fill of symbol f by term i
module _ (sh : Sheet) (f i : ℕ) where
  pub fill_many : 64 ≤ length sh.fills → 5 ≡ later sh fill (f ∷ i ∷ [])
  fill_many h = later_5 sh fill (f ∷ i ∷ []) (le-leb 64 (length sh.fills) h)

  pub fill_symbol : length sh.fills < 64 → length sh.symbols ≤ f → 6 ≡ later sh fill (f ∷ i ∷ [])
  fill_symbol h e = later_6 sh fill (f ∷ i ∷ []) (lt-leb 64 (length sh.fills) h) (rw (le-ltb f (length sh.symbols) e))

  fill_range : (b : Bool) → f < length sh.symbols → ltb i (length sh.terms) ≡ b → out_of_range sh fill (f ∷ i ∷ []) ≡ not b
  fill_range b e e' = ap (λ (t : Bool). not (t && ltb i (length sh.terms))) (lt-ltb f (length sh.symbols) e) ∙ ap not e'

  pub fill_term : length sh.fills < 64 → f < length sh.symbols → length sh.terms ≤ i → 6 ≡ later sh fill (f ∷ i ∷ [])
  fill_term h e e' = later_6 sh fill (f ∷ i ∷ []) (lt-leb 64 (length sh.fills) h) (fill_range false e (le-ltb i (length sh.terms) e'))

  module _ (room : length sh.fills < 64) (there : f < length sh.symbols) (below : i < length sh.terms) where
    range : out_of_range sh fill (f ∷ i ∷ []) ≡ false
    range = fill_range true there (lt-ltb i (length sh.terms) below)

    pub fill_sorts : (sort_at sh i ≡ (symbol_at sh f).result → ⊥) → 7 ≡ later sh fill (f ∷ i ∷ [])
    fill_sorts e =
        later_7 sh fill (f ∷ i ∷ []) (lt-leb 64 (length sh.fills) room) range (ap not (ne_eqb (sort_at sh i) (symbol_at sh f).result e))

    module _ (sorts : sort_at sh i ≡ (symbol_at sh f).result) where
      pub fill_again : is_filled f sh.fills ≡ true → 16 ≡ later sh fill (f ∷ i ∷ [])
      fill_again e =
          later_16 sh fill (f ∷ i ∷ []) (lt-leb 64 (length sh.fills) room) range (ap not (eq-eqb (sort_at sh i) (symbol_at sh f).result sorts)) refl e

      pub fill_fine : is_filled f sh.fills ≡ false → 0 ≡ later sh fill (f ∷ i ∷ [])
      fill_fine e =
          later_0 sh fill (f ∷ i ∷ []) (lt-leb 64 (length sh.fills) room) range (ap not (eq-eqb (sort_at sh i) (symbol_at sh f).result sorts)) refl e
