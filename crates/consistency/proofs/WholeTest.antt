-- Laws of the whole test: what a table that is being filled says of the terms passed, a statement that passes, and the parts of consistency.
use Prim.Native.Nat.{ℕ, ◌+◌, ◌≤◌, ◌<◌}
use mathlib.Core.Path.{◌≡◌, refl, sym, ◌∙◌}
use mathlib.Core.Bool.{true}
use lib.Dec.{eqb}
use borrow.Author.Tests.{eqb-true, eqb-false, eq-eqb, ne_eqb, not-true}
use mathlib.Core.List.{List, []}
use mathlib.Core.Logic.{◌⊎◌, inl, inr}
use native.Mathlib.Omega.{arith}
use native.Mathlib.Decide.{ℕ_discrete, dec_lt}
use borrow.Author.Count.{below_more}
use lib.ListN.{replicate, get_or-replicate}
use Rattle.logic.specs.Problem.{Problem, WellSorted, Consistent}
use Rattle.tables.specs.Tests.{agree}
use Rattle.tables.specs.Grid.{cell, Put}
use Rattle.consistency.specs.Searchable.{Padded}
use Rattle.consistency.specs.Parts.{InRange, Hold, Functional}

-- The table t while the terms of symbol f below n have been entered: each one's code stands in its cell, and a cell that is not free
-- holds the code of one of them.
pub record Entered (P : Problem) (c : ℕ → ℕ) (f n : ℕ) (t : List (List ℕ)) : Type 0 where
  pub entered : (i : ℕ) → i < n → P.symbol i ≡ f → cell t (c (P.arg0 i)) (c (P.arg1 i)) ≡ c i
  pub from : (row col : ℕ) → row < 16 → col < 16 → (cell t row col ≡ 255) ⊎ ((i : ℕ) × (i < n) × (P.symbol i ≡ f) × (c (P.arg0 i) ≡ row) × (c (P.arg1 i) ≡ col) × (c i ≡ cell t row col))

module _ (P : Problem) (c : ℕ → ℕ) (f : ℕ) where
  pub entered_none : Entered P c f 0 (replicate {A = List ℕ} 16 (replicate {A = ℕ} 16 255))
  entered_none =
      record {
        entered = λ i h. omega arith;
        from = λ row col hr hc. inl (rw (get_or-replicate {A = List ℕ} 16 row (replicate {A = ℕ} 16 255) [] hr) (get_or-replicate {A = ℕ} 16 col 255 0 hc));
      }

  module _ (n : ℕ) (t : List (List ℕ)) (k : Entered P c f n t) where
    -- a term of another symbol changes nothing
    pub entered_other : (P.symbol n ≡ f → ⊥) → Entered P c f (n + 1) t
    entered_other ne =
        record {
          entered = below_more _ n k.entered (λ e. absurd (ne e));
          from = λ row col hr hc.
              elim (k.from row col hr hc) [
                | inl e ↦ inl e
                | inr w ↦ inr (w.0, (omega arith), w.2, w.3, w.4, w.5)
              ];
        }

    -- a term whose code stands in its cell already changes nothing
    pub entered_again : cell t (c (P.arg0 n)) (c (P.arg1 n)) ≡ c n → Entered P c f (n + 1) t
    entered_again e =
        record {
          entered = below_more _ n k.entered (λ s. e);
          from = λ row col hr hc.
              elim (k.from row col hr hc) [
                | inl e ↦ inl e
                | inr w ↦ inr (w.0, (omega arith), w.2, w.3, w.4, w.5)
              ];
        }

    -- a term whose cell is free is entered
    pub entered_more : (u : List (List ℕ)) → ((i : ℕ) → c i < 16) → P.symbol n ≡ f → cell t (c (P.arg0 n)) (c (P.arg1 n)) ≡ 255 → Put t u (c (P.arg0 n)) (c (P.arg1 n)) (c n) → Entered P c f (n + 1) u
    entered_more u small s free put =
        record {
          entered = below_more _ n earlier (λ e. put.here);
          from = λ row col hr hc. place row col hr hc (ℕ_discrete row (c (P.arg0 n))) (ℕ_discrete col (c (P.arg1 n)));
        }
      where
        earlier : (i : ℕ) → i < n → P.symbol i ≡ f → cell u (c (P.arg0 i)) (c (P.arg1 i)) ≡ c i
        earlier i h e =
            let old = k.entered i h e in
            put.elsewhere (c (P.arg0 i)) (c (P.arg1 i))
            (λ a b.
            let x : cell t (c (P.arg0 i)) (c (P.arg1 i)) ≡ 255 = rw (a, b) free in
            let y = small i in
            omega arith)
            ∙ old

        kept : (row col : ℕ) → row < 16 → col < 16 → (row ≡ c (P.arg0 n) → col ≡ c (P.arg1 n) → ⊥)
            → (cell u row col ≡ 255) ⊎ ((i : ℕ) × (i < n + 1) × (P.symbol i ≡ f) × (c (P.arg0 i) ≡ row) × (c (P.arg1 i) ≡ col) × (c i ≡ cell u row col))
        kept row col hr hc ne =
            let e = put.elsewhere row col ne in
            elim (k.from row col hr hc) [
              | inl x ↦ inl (e ∙ x)
              | inr w ↦ inr (w.0, (omega arith), w.2, w.3, w.4, w.5 ∙ sym e)
            ]

        place : (row col : ℕ) → row < 16 → col < 16 → Dec (row ≡ c (P.arg0 n)) → Dec (col ≡ c (P.arg1 n))
            → (cell u row col ≡ 255) ⊎ ((i : ℕ) × (i < n + 1) × (P.symbol i ≡ f) × (c (P.arg0 i) ≡ row) × (c (P.arg1 i) ≡ col) × (c i ≡ cell u row col))
        place row col hr hc (yes a) (yes b) = inr (n, (omega arith), s, sym a, sym b, (rw (a, b) (sym put.here)))
        place row col hr hc (yes a) (no b) = kept row col hr hc (λ x y. b y)
        place row col hr hc (no a) d = kept row col hr hc (λ x y. a x)

    -- a term whose cell holds another code breaks congruence
    pub entered_clash : ((i : ℕ) → c i < 16) → n < P.terms → P.symbol n ≡ f → (cell t (c (P.arg0 n)) (c (P.arg1 n)) ≡ 255 → ⊥) → (cell t (c (P.arg0 n)) (c (P.arg1 n)) ≡ c n → ⊥) → Functional P c f → ⊥
    entered_clash small h s taken other fun =
        elim (k.from (c (P.arg0 n)) (c (P.arg1 n)) (small _) (small _)) [
          | inl e ↦ taken e
          | inr w ↦ other (sym w.5 ∙ fun w.0 n (omega arith) h w.2 s w.3 w.4)
        ]

    -- all terms are entered: equal argument codes, equal codes
    pub entered_all : P.terms ≤ n → Functional P c f
    entered_all le i j hi hj si sj a b =
        sym (k.entered i (omega arith) si) ∙ (rw (a, b) (k.entered j (omega arith) sj))

-- a statement that passes the test of judge says what it says, and the other way round
module _ (equal x y : ℕ) where
  passed_same : agree (eqb equal 1) (eqb x y) ≡ true → equal ≡ 1 → x ≡ y
  passed_same h e = eqb-true x y (rw (eq-eqb equal 1 e) at h)

  passed_differ : agree (eqb equal 1) (eqb x y) ≡ true → equal ≡ 0 → x ≡ y → ⊥
  passed_differ h e = eqb-false x y (not-true (eqb x y) (rw (ne_eqb equal 1 (λ o. omega arith)) at h))

  said_passes : equal ≤ 1 → (equal ≡ 1 → x ≡ y) → (equal ≡ 0 → x ≡ y → ⊥) → agree (eqb equal 1) (eqb x y) ≡ true
  said_passes few same differ =
      elim (ℕ_discrete equal 1) [
        | yes e ↦ rw (eq-eqb equal 1 e) (eq-eqb x y (same e))
        | no ne ↦ rw (ne_eqb equal 1 ne, ne_eqb x y (differ (omega arith)))
      ]

-- the steps of filling a table, with the cell by its row and its column
module _ (P : Problem) (c : ℕ → ℕ) (f n row col old : ℕ) (t : List (List ℕ)) (k : Entered P c f n t) (er : row ≡ c (P.arg0 n)) (ec : col ≡ c (P.arg1 n)) (eo : old ≡ cell t row col) where
  cell_there : cell t (c (P.arg0 n)) (c (P.arg1 n)) ≡ old
  cell_there = sym (rw (er, ec) at eo)

  pub step_again : (old ≡ c n) → Entered P c f (n + 1) t
  step_again e = entered_again P c f n t k (cell_there ∙ e)

  pub step_more : (u : List (List ℕ)) → ((i : ℕ) → c i < 16) → P.symbol n ≡ f → old ≡ 255 → Put t u row col (c n) → Entered P c f (n + 1) u
  step_more u small s e put = entered_more P c f n t k u small s (cell_there ∙ e) (rw (er, ec) at put)

  pub step_clash : ((i : ℕ) → c i < 16) → n < P.terms → P.symbol n ≡ f → (old ≡ 255 → ⊥) → (old ≡ c n → ⊥) → Functional P c f → ⊥
  step_clash small h s a b = entered_clash P c f n t k small h s (λ e. a (sym cell_there ∙ e)) (λ e. b (sym cell_there ∙ e))

-- codes in range of small sizes are below 16
pub small_codes : (P : Problem) (size c : ℕ → ℕ) → WellSorted P → ((s : ℕ) → s < P.sorts → size s ≤ 16) → Padded P c → InRange P size c → (i : ℕ) → c i < 16
small_codes P size c w small pad r i =
    elim (dec_lt i P.terms) [
      | yes h ↦ let a = r i h in let b = small (P.sort i) (w.sort i h) in omega arith
      | no h ↦ let e = pad i (omega arith) in omega arith
    ]

-- the parts make the whole
pub all_parts : (P : Problem) (size c : ℕ → ℕ) (n : ℕ) → Padded P c → InRange P size c → Hold P c → ((i : ℕ) → i < P.terms → P.symbol i < n) → ((f : ℕ) → f < n → Functional P c f) → Consistent P size c
all_parts P size c n pad r h there fun =
    record {
      range = r;
      none = pad;
      congruent = λ i j hi hj e. fun (P.symbol j) (there j hj) i j hi hj e refl;
      same = λ k l. passed_same (P.equal k) (c (P.left k)) (c (P.right k)) (h k l);
      differ = λ k l. passed_differ (P.equal k) (c (P.left k)) (c (P.right k)) (h k l);
    }

pub part_range : (P : Problem) (size c : ℕ → ℕ) → Consistent P size c → InRange P size c
part_range P size c k = k.range

pub part_hold : (P : Problem) (size c : ℕ → ℕ) → ((k : ℕ) → k < P.literals → P.equal k ≤ 1) → Consistent P size c → Hold P c
part_hold P size c few k n h = said_passes (P.equal n) (c (P.left n)) (c (P.right n)) (few n h) (k.same n h) (k.differ n h)

pub part_functional : (P : Problem) (size c : ℕ → ℕ) (f : ℕ) → Consistent P size c → Functional P c f
part_functional P size c f k i j hi hj si sj = k.congruent i j hi hj (si ∙ sym sj)
