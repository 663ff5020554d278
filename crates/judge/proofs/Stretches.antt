-- Demand 2 for table of a name: the stretch of a symbol that is there, in tables that are well laid, is the table of the symbol, and not empty.
use Prim.Native.Nat.{ℕ, ◌+◌, ◌≤◌, ◌<◌}
use native.Mathlib.Omega.{arith}
use mathlib.Core.Path.{◌≡◌, refl, ap, sym, ◌∙◌}
use mathlib.Core.List.{List}
use lib.ListN.{length, take, drop, length-drop}
use lib.Seq.{ext_get_or, get_or-take, get_or-drop, length-take-le}
use borrow.Author.Tests.{lt-ltb}
use Rattle.logic.specs.Sheet.{Sheet, symbol_at}
use Rattle.prelude.specs.Lists.{at}
use Rattle.logic.specs.WellFormed.{WellFormed}
use Rattle.tables.specs.Layout.{cells, offset, decoded, table_bytes, WellLaid}
use Rattle.tables.proofs.Cells.{cells_positive}
use Rattle.tables.proofs.Laid.{well_laid_test}
use Rattle.tables.proofs.Tables.{length_table, encoded_table, encoded_decoded}
use Rattle.judge.specs.Judge.{stretch, stretch_of}
use Rattle.judge.proofs.Replies.{stretch_within}

module _ (sh : Sheet) (w : WellFormed sh) (t : List ℕ) (l : WellLaid sh t) (f : ℕ) (h : f < length sh.symbols) where
  stretch_is : stretch_of sh t f ≡ record { start = offset sh (at t) f; many = cells (at t) (symbol_at sh f).params }
  unfolding stretch_of
  stretch_is = rw ((well_laid_test sh t).1 l, lt-ltb f (length sh.symbols) h) refl

  -- a real table has at least one cell
  pub table_not_empty : 1 ≤ (stretch_of sh t f).many
  table_not_empty = rw stretch_is (cells_positive (length sh.bounds) (at t) (symbol_at sh f).params (w.params f h) (λ s b. (l.size s b).0))

  -- its bytes are the cells of the symbol's table
  pub table_of_name : stretch t (stretch_of sh t f) ≡ table_bytes (decoded sh t) f (symbol_at sh f).params
  table_of_name =
      let start = offset sh (at t) f in
      let many = cells (at t) (symbol_at sh f).params in
      let within : start + many ≤ length t = rw stretch_is at (stretch_within sh t f) in
      let n : length (take many (drop start t)) ≡ many = length-take-le many (drop start t) (omega (arith, length-drop start t)) in
      ap (stretch t) stretch_is
      ∙ ext_get_or 0 (take many (drop start t)) (table_bytes (decoded sh t) f (symbol_at sh f).params) (n ∙ sym (length_table (decoded sh t) f (symbol_at sh f).params))
      (λ k b.
      let c : k < many = omega arith in
      get_or-take many (drop start t) k 0 c
      ∙ get_or-drop start t k 0
      ∙ ap (λ (x : List ℕ). at x (start + k)) (sym (encoded_decoded sh w t l))
      ∙ encoded_table (decoded sh t) sh w f k h c)
