-- What the parsed arrays tell of a symbol's unforced cells: it takes one argument, of the sort of its result, exactly where the second parameter is missing and
-- the first is the result's sort; and its fill is the first that is of it.
use Prim.Native.Nat.{ℕ, ◌+◌, ◌≤◌, ◌<◌}
use native.Mathlib.Omega.{arith}
use native.Mathlib.Numerals.{add-one}
use mathlib.Core.Path.{◌≡◌, ap, sym, ◌∙◌}
use mathlib.Core.Bool.{cond}
use mathlib.Core.List.{List, [], ◌∷◌}
use mathlib.Core.Option.{Option, some, get_or}
use lib.ListN.{length, take, drop, drop_of_length-le}
use lib.Seq.{drop-cons}
use lib.Dec.{eqb}
use Rattle.prelude.specs.Lists.{at}
use Rattle.prelude.specs.Limits.{missing}
use Rattle.prelude.proofs.Lists.{at_firsts}
use Rattle.logic.specs.Sheet.{Sheet, symbol_at, fill_at, no_fill}
use Rattle.layout.specs.Packed.{first, second}
use Rattle.layout.specs.declared.Parsed.{Parsed}
use Rattle.layout.proofs.Pack.{contents}
use Rattle.tables.specs.Parts.{Packs}
use Rattle.tables.proofs.Packing.{one_param, result_packed, param0_packed, param1_packed, params_below_8}
use Rattle.answer.specs.Answer.{Entry, entry_of, fill_code, unforced}
use Rattle.answer.specs.Demand.{ToItself}
use Rattle.answer.proofs.Demand.{unforced_kept, unforced_other, fill_code_same}
use Rattle.writing.specs.Written.{filled_with, cell_codes, unforced_at}

module _ (sh : Sheet) (p : Parsed) (k : Packs sh p) (size c : ℕ → ℕ) (f row col : ℕ) (h : f < length sh.symbols) where
  abbrev e : Entry
  e = entry_of sh size c

  pub kept_here : at p.param1 f ≡ missing → at p.param0 f ≡ at p.result f → row ≡ unforced_at sh size c f row col
  kept_here one own =
      let itself : ToItself sh f =
      one_param (symbol_at sh f).params (symbol_at sh f).result (params_below_8 sh p k f h) (omega (arith, k.formed.result f h, k.formed.sorts))
      (sym (param1_packed sh p k f h) ∙ one) (sym (param0_packed sh p k f h) ∙ own ∙ result_packed sh p k f h) in
      sym
      (ap (λ (ss : List ℕ). unforced sh e f (take (length ss) (row ∷ col ∷ []))) itself
      ∙ unforced_kept sh e f row itself)

  pub filled_here : (at p.param1 f ≡ missing → at p.param0 f ≡ at p.result f → ⊥) → filled_with sh c f ≡ unforced_at sh size c f row col
  filled_here other =
      ap (λ (o : Option ℕ). get_or o 0)
      (fill_code_same c (at e.codes) f sh.fills (λ j l. sym (at_firsts (length sh.terms) c (fill_at sh j).term (k.formed.filler j l))))
      ∙ sym
      (unforced_other sh e f (cell_codes sh f row col)
      (λ itself. other (param1_packed sh p k f h ∙ ap second itself) (param0_packed sh p k f h ∙ ap first itself ∙ sym (result_packed sh p k f h))))

-- the fills from a number on, by one fill more
module _ (sh : Sheet) (p : Parsed) (k : Packs sh p) (c : ℕ → ℕ) (f : ℕ) where
  pub fill_step : (j : ℕ) → j < p.fills → fill_code c f (drop j sh.fills) ≡ cond (eqb (at p.filled j) f) (some (c (at p.filler j))) (fill_code c f (drop (j + 1) sh.fills))
  fill_step j l =
      let h = contents p sh k.same in
      rw (drop-cons sh.fills j no_fill (omega arith), add-one j, h.filled j (omega arith), h.filler j (omega arith))

  pub fill_end : (j : ℕ) → p.fills ≤ j → get_or (fill_code c f (drop j sh.fills)) 0 ≡ 0
  fill_end j l =
      let h = contents p sh k.same in
      ap (λ (xs : List _). get_or (fill_code c f xs) 0) (drop_of_length-le sh.fills {i = j} (omega arith))
