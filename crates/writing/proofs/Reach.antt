-- The table that the code fills holds, cell by cell, what the structure of the answer holds: in both the first term that reaches a cell decides, and
-- the test by row and column is the test of the key, as a term of the symbol has as many arguments as the cell.
use Prim.Native.Nat.{ℕ, zero, suc, ◌+◌, ◌≤◌, ◌<◌}
use native.Mathlib.Omega.{arith}
use mathlib.Core.Path.{◌≡◌, refl, ap, ap₂, sym, ◌∙◌}
use mathlib.Core.Bool.{Bool, true, false, ◌&&◌, and-true, cond}
use mathlib.Core.List.{List, [], ◌∷◌, map}
use mathlib.Core.Option.{Option, some, get_or}
use lib.ListN.{length, drop, length-map, drop_of_length-le}
use lib.Seq.{drop-cons}
use lib.Dec.{eqb}
use borrow.Author.Tests.{eqb-true}
use Rattle.logic.specs.Sheet.{Sheet, Term, symbol_at, term_at, sort_at, no_term}
use Rattle.logic.specs.WellFormed.{WellFormed}
use Rattle.logic.specs.Problem.{Problem}
use Rattle.logic.proofs.Meaning.{few_arguments}
use Rattle.prelude.specs.Tests.{same_list}
use Rattle.layout.specs.Packed.{first, second}
use Rattle.layout.specs.Views.{Views}
use Rattle.answer.specs.Answer.{cells_from, cell_at}
use Rattle.writing.specs.Parts.{row_of, column_of, reaches, held}

-- arguments have these codes, as a list and by place
by_place :
    (c : ℕ → ℕ) → c 255 ≡ 0 → (args xs : List ℕ) → length args ≡ length xs → length args ≤ 2
    → same_list (map c args) xs ≡ (eqb (c (first args)) (row_of xs) && eqb (c (second args)) (column_of xs))
by_place c z [] [] e h = ap (λ (n : ℕ). eqb n 0 && eqb n 0) (sym z)
by_place c z [] (x ∷ xs) e h = absurd (omega arith)
by_place c z (a ∷ l) [] e h = absurd (omega arith)
by_place c z (a ∷ []) (x ∷ []) e h = ap (λ (n : ℕ). eqb (c a) x && eqb n 0) (sym z)
by_place c z (a ∷ []) (x ∷ y ∷ xs) e h = absurd (omega arith)
by_place c z (a ∷ b ∷ l) (x ∷ []) e h = absurd (omega arith)
by_place c z (a ∷ b ∷ []) (x ∷ y ∷ []) e h = ap (λ (t : Bool). eqb (c a) x && t) (and-true (eqb (c b) y))
by_place c z (a ∷ b ∷ []) (x ∷ y ∷ w ∷ xs) e h = absurd (omega arith)
by_place c z (a ∷ b ∷ d ∷ l) (x ∷ y ∷ xs) e h = absurd (omega arith)

get_d_choice : (b : Bool) (x d : ℕ) (r : Option ℕ) → get_or (cond b (some x) r) d ≡ cond b x (get_or r d)
get_d_choice true x d r = refl
get_d_choice false x d r = refl

module _ (sh : Sheet) (P : Problem) (w : WellFormed sh) (v : Views sh P) (c : ℕ → ℕ) (past : c 255 ≡ 0) (f : ℕ) (xs : List ℕ) (full : length xs ≡ length (symbol_at sh f).params) where
  -- a term of symbol f has as many arguments as the cell
  as_many : (i : ℕ) → i < length sh.terms → (term_at sh i).symbol ≡ f → length (term_at sh i).args ≡ length xs
  as_many i h e =
      sym (length-map (term_at sh i).args (sort_at sh))
      ∙ ap length (w.arg_sorts i h)
      ∙ ap (λ (g : ℕ). length (symbol_at sh g).params) e
      ∙ sym full

  -- the test of the key and the test by row and column
  same_test : (i : ℕ) → i < length sh.terms → same_list ((term_at sh i).symbol ∷ map c (term_at sh i).args) (f ∷ xs) ≡ reaches P c f (row_of xs) (column_of xs) i
  same_test i h =
      by (eqb (term_at sh i).symbol f) refl
      ∙ ap (λ (g : ℕ). eqb g f && (eqb (c (first (term_at sh i).args)) (row_of xs) && eqb (c (second (term_at sh i).args)) (column_of xs))) (sym (v.symbol i h))
      ∙ ap₂ (λ (a b : ℕ). eqb (P.symbol i) f && (eqb (c a) (row_of xs) && eqb (c b) (column_of xs))) (sym (v.arg0 i h)) (sym (v.arg1 i h))
    where
      by : (b : Bool) → eqb (term_at sh i).symbol f ≡ b
          → (eqb (term_at sh i).symbol f && same_list (map c (term_at sh i).args) xs)
          ≡ (eqb (term_at sh i).symbol f && (eqb (c (first (term_at sh i).args)) (row_of xs) && eqb (c (second (term_at sh i).args)) (column_of xs)))
      by true e =
          ap (λ (t : Bool). eqb (term_at sh i).symbol f && t)
          (by_place c past (term_at sh i).args xs (as_many i h (eqb-true (term_at sh i).symbol f e)) (few_arguments sh w i h))
      by false e = rw e

  -- the first of the last n terms that reaches the cell; where none does, d
  held_from : (d n i : ℕ) → i + n ≡ length sh.terms → get_or (cell_at (f ∷ xs) (cells_from c i (drop i sh.terms))) d ≡ held P c f (row_of xs) (column_of xs) d i n
  held_from d zero i e =
      ap (λ (ts : List Term). get_or (cell_at (f ∷ xs) (cells_from c i ts)) d) (drop_of_length-le sh.terms {i = i} (omega (arith, e)))
  held_from d (suc n) i e =
      let inside : i < length sh.terms = omega (arith, e) in
      ap (λ (ts : List Term). get_or (cell_at (f ∷ xs) (cells_from c i ts)) d) (drop-cons sh.terms i no_term inside)
      ∙ get_d_choice (same_list ((term_at sh i).symbol ∷ map c (term_at sh i).args) (f ∷ xs)) (c i) d (cell_at (f ∷ xs) (cells_from c (suc i) (drop (suc i) sh.terms)))
      ∙ ap₂ (λ (b : Bool) (x : ℕ). cond b (c i) x) (same_test i inside) (held_from d n (suc i) (omega (arith, e)))

  -- THE CELL: what all terms say of it is what a structure holds there whose unforced code is d
  pub cell_held : (d : ℕ) → get_or (cell_at (f ∷ xs) (cells_from c 0 sh.terms)) d ≡ held P c f (row_of xs) (column_of xs) d 0 (length sh.terms)
  cell_held d = held_from d (length sh.terms) 0 (omega arith)
