-- The tests of an expression and of a fill against the sheet so far: the sorts of the arguments, and whether it is there already.
use Prim.Native.Nat.{ℕ, ◌+◌, ◌≤◌, ◌<◌}
use native.Mathlib.Omega.{arith}
use native.Mathlib.Numerals.{add-one}
use mathlib.Core.Path.{◌≡◌, ap, sym, ◌∙◌}
use mathlib.Core.Bool.{Bool, false, not, ◌&&◌, ◌||◌, cond}
use mathlib.Core.List.{List, ◌∷◌, map}
use lib.ListN.{length, get_or, drop, length-map, drop_of_length-le}
use lib.Seq.{drop-cons}
use lib.Dec.{ltb, eqb}
use Rattle.logic.specs.Sheet.{Sheet, Term, symbol_at, term_at, sort_at, no_term, no_fill}
use Rattle.prelude.specs.Tests.{Each}
use Rattle.prelude.proofs.Lists.{map_each}
use Rattle.layout.specs.Layout.{expression, ill_sorted, occurs, is_filled}
use Rattle.layout.specs.Packed.{first, second}
use Rattle.layout.specs.Parts.{SoFar, PartRead}
use Rattle.layout.specs.declared.Parsed.{Parsed}
use Rattle.layout.proofs.Pack.{Contents, contents}
use Rattle.layout.proofs.AtMostTwo.{Pair, same_pair, each_weaken, each_map, first_map, second_map, occurs_from}

pub sort_below : (sh : Sheet) → SoFar sh → (a : ℕ) → a < length sh.terms → sort_at sh a < length sh.bounds
sort_below sh so a h = so.result (term_at sh a).symbol (so.symbol a h)

params_pair : (sh : Sheet) → SoFar sh → (f : ℕ) → f < length sh.symbols → Pair (symbol_at sh f).params
params_pair sh so f h =
    record { few = so.arity f h; small = each_weaken (length sh.bounds) 255 (symbol_at sh f).params (let n = so.sorts in omega arith) (so.params f h) }

module _ (p : Parsed) (k : PartRead p) where
  -- the sorts of the arguments as the array has them
  pub arg_sorts_lem : (args : List ℕ) → Each (λ a. a < p.terms) args → map (λ a. get_or p.sort a 0) args ≡ map (sort_at k.sheet) args
  arg_sorts_lem args e =
      let h = contents p k.sheet k.same in
      map_each (λ a. get_or p.sort a 0) (sort_at k.sheet) (λ a. a < p.terms) (λ a l. h.sort a (omega arith)) args e

  pub sort0 : (args : List ℕ) → Each (λ a. a < p.terms) args → cond (ltb (first args) p.terms) (get_or p.sort (first args) 0) 255 ≡ first (map (sort_at k.sheet) args)
  sort0 args e =
      let h = contents p k.sheet k.same in
      let n = k.sofar.terms in
      sym (first_map (λ a. get_or p.sort a 0) p.terms args (omega arith) e) ∙ ap first (arg_sorts_lem args e)

  pub sort1 : (args : List ℕ) → Each (λ a. a < p.terms) args → cond (ltb (second args) p.terms) (get_or p.sort (second args) 0) 255 ≡ second (map (sort_at k.sheet) args)
  sort1 args e =
      let h = contents p k.sheet k.same in
      let n = k.sofar.terms in
      sym (second_map (λ a. get_or p.sort a 0) p.terms args (omega arith) e) ∙ ap second (arg_sorts_lem args e)

  -- cause 7 of an expression, by two comparisons
  pub ill_sorted_lem : (f : ℕ) (args : List ℕ) → f < p.symbols → length args ≤ 2 → Each (λ a. a < p.terms) args
      → not (eqb (cond (ltb (first args) p.terms) (get_or p.sort (first args) 0) 255) (get_or p.param0 f 0)
      && eqb (cond (ltb (second args) p.terms) (get_or p.sort (second args) 0) 255) (get_or p.param1 f 0))
      ≡ ill_sorted k.sheet expression (f ∷ args)
  ill_sorted_lem f args there few e =
      ap not
      (ap (λ (x : ℕ). eqb x (get_or p.param0 f 0) && eqb s1 (get_or p.param1 f 0)) (sort0 args e)
      ∙ ap (λ (x : ℕ). eqb f0 (get_or p.param0 f 0) && eqb x (get_or p.param1 f 0)) (sort1 args e)
      ∙ ap (λ (x : ℕ). eqb f0 x && eqb f1 (get_or p.param1 f 0)) (h.param0 f below)
      ∙ ap (λ (x : ℕ). eqb f0 (first (symbol_at k.sheet f).params) && eqb f1 x) (h.param1 f below)
      ∙ sym (same_pair (map (sort_at k.sheet) args) (symbol_at k.sheet f).params pair (params_pair k.sheet k.sofar f below)))
    where
      h : Contents p k.sheet
      h = contents p k.sheet k.same

      s1 : ℕ
      s1 = cond (ltb (second args) p.terms) (get_or p.sort (second args) 0) 255

      f0 : ℕ
      f0 = first (map (sort_at k.sheet) args)

      f1 : ℕ
      f1 = second (map (sort_at k.sheet) args)

      below : f < length k.sheet.symbols
      below = let z = h.symbols in omega arith

      pair : Pair (map (sort_at k.sheet) args)
      pair =
          record {
            few = rw (length-map args (sort_at k.sheet)) few;
            small =
                let z = h.terms in
                let n = k.sofar.sorts in
                each_map (sort_at k.sheet) p.terms 255 args
                (λ a l. let b = sort_below k.sheet k.sofar a (omega arith) in omega arith) e;
          }

  -- cause 8 of an expression, by one term more
  pub occurs_more : (f : ℕ) (args : List ℕ) → Pair args → (i : ℕ) → i < p.terms
      → occurs f args (drop i k.sheet.terms)
      ≡ ((eqb (get_or p.symbol i 0) f && (eqb (get_or p.arg0 i 0) (first args) && eqb (get_or p.arg1 i 0) (second args)))
      || occurs f args (drop (i + 1) k.sheet.terms))
  occurs_more f args pair i l =
      occurs_from f args k.sheet.terms no_term i below
      ∙ ap (λ (b : Bool). (eqb t.symbol f && b) || rest) (same_pair t.args args other pair)
      ∙ ap (λ (x : ℕ). (eqb x f && (eqb (first t.args) (first args) && eqb (second t.args) (second args))) || rest) (sym (h.symbol i below))
      ∙ ap (λ (x : ℕ). (eqb (get_or p.symbol i 0) f && (eqb x (first args) && eqb (second t.args) (second args))) || rest) (sym (h.arg0 i below))
      ∙ ap (λ (x : ℕ). (eqb (get_or p.symbol i 0) f && (eqb (get_or p.arg0 i 0) (first args) && eqb x (second args))) || rest) (sym (h.arg1 i below))
    where
      h : Contents p k.sheet
      h = contents p k.sheet k.same

      t : Term
      t = term_at k.sheet i

      rest : Bool
      rest = occurs f args (drop (i + 1) k.sheet.terms)

      below : i < length k.sheet.terms
      below = let z = h.terms in omega arith

      other : Pair t.args
      other =
          record {
            few = rw (← length-map t.args (sort_at k.sheet), k.sofar.arg_sorts i below) (k.sofar.arity t.symbol (k.sofar.symbol i below));
            small = each_weaken i 255 t.args (let n = k.sofar.terms in omega (arith, below)) (k.sofar.args i below);
          }

  -- the same by what the code has in hand
  pub ill_sorted_by : (f : ℕ) (args : List ℕ) (a b s t : ℕ) → f < p.symbols → length args ≤ 2 → Each (λ a. a < p.terms) args
      → first args ≡ a → second args ≡ b
      → s ≡ cond (ltb a p.terms) (get_or p.sort a 0) 255
      → t ≡ cond (ltb b p.terms) (get_or p.sort b 0) 255
      → not (eqb s (get_or p.param0 f 0) && eqb t (get_or p.param1 f 0)) ≡ ill_sorted k.sheet expression (f ∷ args)
  ill_sorted_by f args a b s t there few e ea eb es et = rw (es, et, ← ea, ← eb) (ill_sorted_lem f args there few e)

  pub occurs_step : (f : ℕ) (args : List ℕ) (a b : ℕ) (r : Bool) (i : ℕ) → Pair args → first args ≡ a → second args ≡ b → i < p.terms
      → r ≡ (eqb (get_or p.symbol i 0) f && (eqb (get_or p.arg0 i 0) a && eqb (get_or p.arg1 i 0) b))
      → occurs f args (drop i k.sheet.terms) ≡ (r || occurs f args (drop (i + 1) k.sheet.terms))
  occurs_step f args a b r i pair ea eb l er = rw (er, ← ea, ← eb) (occurs_more f args pair i l)

  pub occurs_end : (f : ℕ) (args : List ℕ) (i : ℕ) → p.terms ≤ i → occurs f args (drop i k.sheet.terms) ≡ false
  occurs_end f args i l =
      let h = contents p k.sheet k.same in
      ap (occurs f args) (drop_of_length-le k.sheet.terms {i = i} (omega arith))

  -- cause 16 of a fill, by one fill more
  pub filled_step : (f j : ℕ) → j < p.fills
      → is_filled f (drop j k.sheet.fills) ≡ (eqb (get_or p.filled j 0) f || is_filled f (drop (j + 1) k.sheet.fills))
  filled_step f j l =
      let h = contents p k.sheet k.same in
      rw (drop-cons k.sheet.fills j no_fill (omega arith), add-one j, h.filled j (omega arith))

  pub filled_end : (f j : ℕ) → p.fills ≤ j → is_filled f (drop j k.sheet.fills) ≡ false
  filled_end f j l =
      let h = contents p k.sheet k.same in
      ap (is_filled f) (drop_of_length-le k.sheet.fills {i = j} (omega arith))
