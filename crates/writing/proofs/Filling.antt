-- A table is filled from the last term to the first, so that the first term that reaches a cell decides; a cell that no term reaches keeps what
-- stood there at the start, the unforced code.
use Prim.Native.Nat.{ℕ, zero, suc, ◌+◌, ◌-◌, ◌≤◌, ◌<◌}
use native.Mathlib.Decide.{dec_lt}
use native.Mathlib.Omega.{arith}
use mathlib.Core.Path.{◌≡◌, refl, ap, ap₂, sym, ◌∙◌}
use mathlib.Core.Bool.{Bool, true, false, ◌&&◌, cond}
use mathlib.Core.List.{List, []}
use lib.ListN.{length, set}
use lib.Seq.{get_or-set_same, get_or-set_other}
use lib.Dec.{eqb}
use borrow.Author.Tests.{eqb-true, eqb-false, eq-eqb, ne_eqb}
use Rattle.logic.specs.Problem.{Problem}
use Rattle.prelude.specs.Lists.{at}
use Rattle.tables.specs.Grid.{cell, Put}
use Rattle.writing.specs.Parts.{held, Filled}

-- the unforced codes of a table, one more row of it
pub rows_more :
    (g : ℕ → ℕ → ℕ) (t : List (List ℕ)) (n columns : ℕ) (cells : List ℕ) → n < length t → ((col : ℕ) → col < columns → at cells col ≡ g n col)
    → ((row col : ℕ) → row < n → col < columns → cell t row col ≡ g row col)
    → (row col : ℕ) → row < n + 1 → col < columns → cell (set t n cells) row col ≡ g row col
rows_more g t n columns cells long here before row col h k =
    elim (dec_lt row n) [
      | yes l ↦ ap (λ (r : List ℕ). at r col) (get_or-set_other t n row cells [] (omega arith)) ∙ before row col l k
      | no l ↦ let e : row ≡ n = omega arith in rw e (ap (λ (r : List ℕ). at r col) (get_or-set_same t n cells [] long) ∙ here col k)
    ]

module _ (P : Problem) (c : ℕ → ℕ) (f : ℕ) (u : ℕ → ℕ → ℕ) (rows columns : ℕ) where
  module _ (i n : ℕ) (t : List (List ℕ)) (rest : Filled P c f u rows columns (suc i) n t) where
    filled_skip : (P.symbol i ≡ f → ⊥) → Filled P c f u rows columns i (suc n) t
    filled_skip other row col h k = rest row col h k ∙ rw (ne_eqb (P.symbol i) f other)

    filled_put : (t' : List (List ℕ)) → P.symbol i ≡ f → Put t t' (c (P.arg0 i)) (c (P.arg1 i)) (c i) → Filled P c f u rows columns i (suc n) t'
    filled_put t' same put row col h k = by (eqb (c (P.arg0 i)) row) (eqb (c (P.arg1 i)) col) refl refl
      where
        later : ℕ
        later = held P c f row col (u row col) (suc i) n

        test : (a b : Bool) → eqb (c (P.arg0 i)) row ≡ a → eqb (c (P.arg1 i)) col ≡ b → cond (a && b) (c i) later ≡ held P c f row col (u row col) i (suc n)
        test a b p q =
            sym
            (ap (λ (s : Bool). cond (s && (eqb (c (P.arg0 i)) row && eqb (c (P.arg1 i)) col)) (c i) later) (eq-eqb (P.symbol i) f same)
            ∙ ap₂ (λ (x y : Bool). cond (x && y) (c i) later) p q)

        elsewhere : (row ≡ c (P.arg0 i) → col ≡ c (P.arg1 i) → ⊥) → cell t' row col ≡ later
        elsewhere other = put.elsewhere row col other ∙ rest row col h k

        by : (a b : Bool) → eqb (c (P.arg0 i)) row ≡ a → eqb (c (P.arg1 i)) col ≡ b → cell t' row col ≡ held P c f row col (u row col) i (suc n)
        by true true p q =
            ap₂ (cell t') (sym (eqb-true (c (P.arg0 i)) row p)) (sym (eqb-true (c (P.arg1 i)) col q)) ∙ put.here ∙ test true true p q
        by true false p q = elsewhere (λ x y. eqb-false (c (P.arg1 i)) col q (sym y)) ∙ test true false p q
        by false b p q = elsewhere (λ x y. eqb-false (c (P.arg0 i)) row p (sym x)) ∙ test false b p q

  -- the terms from i on have been put in
  abbrev pub FilledFrom : ℕ → List (List ℕ) → Type 0
  FilledFrom i t = (n : ℕ) → i + n ≡ P.terms → Filled P c f u rows columns i n t

  module _ (i : ℕ) (t : List (List ℕ)) (some_left : 0 < i) (inside : i ≤ P.terms) (so_far : FilledFrom i t) where
    from_next : (n : ℕ) → (i - 1) + suc n ≡ P.terms → Filled P c f u rows columns (suc (i - 1)) n t
    from_next n e =
        let same : suc (i - 1) ≡ i = omega arith in
        rw same (so_far n (omega (arith, e)))

    pub from_skip : (P.symbol (i - 1) ≡ f → ⊥) → FilledFrom (i - 1) t
    from_skip other zero e = absurd (omega (arith, e))
    from_skip other (suc n) e = filled_skip (i - 1) n t (from_next n e) other

    pub from_put :
        (t' : List (List ℕ)) (row col code : ℕ) → P.symbol (i - 1) ≡ f → row ≡ c (P.arg0 (i - 1)) → col ≡ c (P.arg1 (i - 1)) → code ≡ c (i - 1)
        → Put t t' row col code → FilledFrom (i - 1) t'
    from_put t' row col code same a b d put zero e = absurd (omega (arith, e))
    from_put t' row col code same a b d put (suc n) e =
        filled_put (i - 1) n t (from_next n e) t' same (rw (← a, ← b, ← d) put)

  pub from_all : (i : ℕ) (t : List (List ℕ)) → i ≡ 0 → FilledFrom i t → Filled P c f u rows columns 0 P.terms t
  from_all i t e so_far = rw e at (so_far P.terms (omega (arith, e)))

-- no term has been put in: what stands there is what stood there
pub from_none : (P : Problem) (c : ℕ → ℕ) (f rows columns : ℕ) (t : List (List ℕ)) → FilledFrom P c f (cell t) rows columns P.terms t
from_none P c f rows columns t zero e = λ row col h k. refl
from_none P c f rows columns t (suc n) e = absurd (omega (arith, e))

-- what stood at the start being the unforced codes, as far as the table goes
pub filled_table :
    (P : Problem) (c : ℕ → ℕ) (f n : ℕ) (u v : ℕ → ℕ → ℕ) (rows columns : ℕ) (t : List (List ℕ)) → rows ≤ 16 → columns ≤ 16
    → ((row col : ℕ) → row < rows → col < columns → u row col ≡ v row col) → Filled P c f u 16 16 0 n t → Filled P c f v rows columns 0 n t
filled_table P c f n u v rows columns t r s same filled row col h k =
    filled row col (omega arith) (omega arith) ∙ ap (λ (d : ℕ). held P c f row col d 0 n) (same row col h k)
