-- The answer of a sheet is that of the sheet without its fills, and only unforced cells of symbols with a fill hold other codes.
use Prim.Native.Nat.{ℕ, ◌<◌}
use mathlib.Core.Path.{◌≡◌, refl, ap, sym, ◌∙◌}
use mathlib.Core.Logic.{inl, inr}
use mathlib.Core.List.{List, ◌∷◌, map}
use mathlib.Core.Option.{Option, none, some, get_or}
use lib.ListN.{length}
use native.Mathlib.Omega.{arith}
use Rattle.prelude.specs.Lists.{at}
use Rattle.logic.specs.Sheet.{Sheet, term_at, without_fills}
use Rattle.answer.specs.Answer.{Entry, answer_at, answer, solves, cell_of, cell_at, reached_cells, unforced}
use Rattle.answer.specs.Demand.{ToItself, Unfilled}
use Rattle.answer.specs.Fills.{SameCell, PassesOverFills}
use Rattle.answer.proofs.Solving.{own_cell}
use Rattle.answer.proofs.Demand.{to_itself_or_not, to_itself_test, unforced_zero}

-- where the rule gives the same, so does the cell
same_cell : (sh : Sheet) (e : Entry) (f : ℕ) (xs : List ℕ) → unforced sh e f xs ≡ unforced (without_fills sh) e f xs → SameCell sh e f xs
same_cell sh e f xs q = ap (get_or (cell_at (f ∷ xs) (reached_cells sh e.codes))) q

kept_alike : (sh : Sheet) (e : Entry) (f : ℕ) → ToItself sh f → (xs : List ℕ) → unforced sh e f xs ≡ unforced (without_fills sh) e f xs
unfolding unforced
kept_alike sh e f k xs = rw (to_itself_test sh f k) refl

-- THEOREM: of every sheet, and so of every accepted one
pub passes_over : (sh : Sheet) → PassesOverFills sh
unfolding answer answer_at solves
passes_over sh =
    record {
      same = refl;
      same_at = λ z. refl;
      reached = λ e q i h. held e i h (cell_at (cell_of (at e.codes) i (term_at sh i)).key (reached_cells sh e.codes)) refl;
      unfilled = λ e f bare xs. same_cell sh e f xs (no_fill_lem e f bare xs);
      kept = λ e f k xs. same_cell sh e f xs (kept_alike sh e f k xs);
    }
  where
    held : (e : Entry) (i : ℕ) → i < length sh.terms → (o : Option ℕ) → cell_at (cell_of (at e.codes) i (term_at sh i)).key (reached_cells sh e.codes) ≡ o → SameCell sh e (term_at sh i).symbol (map (at e.codes) (term_at sh i).args)
    held e i h none q = absurd (own_cell sh (at e.codes) i h q)
    held e i h (some v) q =
        let f = (term_at sh i).symbol in
        let xs = map (at e.codes) (term_at sh i).args in
        ap (λ (o : Option ℕ). get_or o (unforced sh e f xs)) q ∙ sym (ap (λ (o : Option ℕ). get_or o (unforced (without_fills sh) e f xs)) q)

    no_fill_lem : (e : Entry) (f : ℕ) → Unfilled sh f → (xs : List ℕ) → unforced sh e f xs ≡ unforced (without_fills sh) e f xs
    no_fill_lem e f free xs =
        elim (to_itself_or_not sh f) [
          | inl k ↦ kept_alike sh e f k xs
          | inr r ↦ unforced_zero sh e f xs r.0 free ∙ sym (unforced_zero (without_fills sh) e f xs r.0 (λ k h q. omega arith))
        ]
