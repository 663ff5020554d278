-- The fitted sheet of an answer is well formed where it passes no limit.
use Prim.Native.Nat.{ℕ, ◌≤◌, ◌<◌}
use native.Mathlib.Omega.{arith}
use mathlib.Core.Path.{◌≡◌, refl, ap, sym, ◌∙◌, subst}
use mathlib.Core.Bool.{false, ◌||◌}
use mathlib.Core.List.{List, [], ◌∷◌, map}
use mathlib.Core.Option.{some}
use lib.ListN.{length}
use lib.Dec.{ltb}
use borrow.Author.Tests.{ltb-false}
use Rattle.prelude.specs.Tests.{Each, Within}
use Rattle.prelude.specs.Limits.{most_symbols, most_terms, most_literals, most_codes}
use Rattle.prelude.proofs.Tests.{or_both}
use Rattle.prelude.proofs.Collect.{in_sum, below_sum}
use Rattle.logic.specs.Sheet.{Sheet, Bound, Symbol, Term, Literal, bound_at, symbol_at, term_at, literal_at, sort_at}
use Rattle.logic.specs.WellFormed.{WellFormed, Ended}
use Rattle.logic.specs.Structure.{Structure, InSorts, Candidate}
use Rattle.answer.specs.Answer.{Entry, answer, structure_of}
use Rattle.answer.proofs.Demand.{demand}
use Rattle.fitted_sheet.specs.FittedSheet.{fitted_sheet, code_term, code_args, cell_term, too_many, cell_expression}
use Rattle.fitted_sheet.specs.Kept.{fitted_to}
use Rattle.fitted_sheet.proofs.Lengths.{many_symbols}
use Rattle.fitted_sheet.proofs.Entries.{IsCode, IsCell, code_expression, codes_differ, cell_same, many_bounds, no_fills, bound_of, total_of, old_symbol, code_symbol_lem, by_symbol, code_inside, code_there, cell_there, code_term_lem, cell_term_lem, by_term, code_sort, cell_sort, args_each, args_sorts, by_literal}

-- the arguments of a cell's expression tell its codes
args_tell : (M : Structure) (size : ℕ → ℕ) (ss cs ds : List ℕ) → InSorts size ss cs → InSorts size ss ds → code_args M ss cs ≡ code_args M ss ds → cs ≡ ds
args_tell M size [] [] [] i j e = refl
args_tell M size [] [] (d ∷ ds) i j e = absurd j
args_tell M size [] (c ∷ cs) ds i j e = absurd i
args_tell M size (s ∷ ss) [] ds i j e = absurd i
args_tell M size (s ∷ ss) (c ∷ cs) [] i j e = absurd j
args_tell M size (s ∷ ss) (c ∷ cs) (d ∷ ds) i j e =
    let heads : code_term M s c ≡ code_term M s d = cc in
    let tails : code_args M ss cs ≡ code_args M ss ds = cc in
    let same : c ≡ d = omega arith in
    cc (same, args_tell M size ss cs ds i.1 j.1 tails)

module _ (sh : Sheet) (w : WellFormed sh) (M : Structure) (k : Candidate M sh) where
  -- the code that a cell holds is one of its field
  pub held_code : (f : ℕ) (cs : List ℕ) → IsCell sh M f cs → IsCode sh M (symbol_at sh f).result (M.table f cs)
  held_code f cs c = (w.result f c.0, k.interprets.complete f c.0 cs c.1)

  ended : Ended (fitted_sheet sh M)
  ended = (
    λ h.
        let there : 0 < length sh.bounds = omega (arith, many_bounds sh M) in
        omega (arith, total_of sh M, below_sum (length sh.bounds) M.size 0 0 there (k.interprets.nonempty 0 there)),
    λ h. omega (arith, many_bounds sh M, (in_sum (length sh.bounds) M.size 0 (omega (arith, total_of sh M))).below),
  )

  sized : (s : ℕ) → s < length sh.bounds → Within 1 most_codes (M.size s)
  sized s h = (k.interprets.nonempty s h, omega (arith, k.bounded.ceiling s h, (w.ceiling s h).1))

  bound_good : (s : ℕ) → s < length (fitted_sheet sh M).bounds → Within 1 most_codes (bound_at (fitted_sheet sh M) s).floor × Within 1 most_codes (bound_at (fitted_sheet sh M) s).ceiling
  bound_good s h =
      let inside : s < length sh.bounds = omega (arith, many_bounds sh M) in
      subst (λ (b : Bound). Within 1 most_codes b.floor × Within 1 most_codes b.ceiling) (sym (bound_of sh M s inside)) (sized s inside, sized s inside)

  -- what is asked of a name
  abbrev GoodSymbol : Symbol → Type 0
  GoodSymbol g = (g.result < length sh.bounds) × Each (λ s. s < length sh.bounds) g.params × (length g.params ≤ 2)

  symbol_good : (f : ℕ) → f < length (fitted_sheet sh M).symbols → GoodSymbol (symbol_at (fitted_sheet sh M) f)
  symbol_good =
      by_symbol sh M (λ f. GoodSymbol (symbol_at (fitted_sheet sh M) f))
      (λ f h. subst GoodSymbol (sym (old_symbol sh M f h)) (w.result f h, w.params f h, w.arity f h))
      (λ s c h. subst GoodSymbol (sym (code_symbol_lem sh M s c h)) (h.0, tt, omega arith))

  -- what is asked of an expression by itself
  abbrev GoodTerm : ℕ → Term → Type 0
  GoodTerm i t =
      (t.symbol < length (fitted_sheet sh M).symbols) × Each (λ a. a < i) t.args × (map (sort_at (fitted_sheet sh M)) t.args ≡ (symbol_at (fitted_sheet sh M) t.symbol).params)

  code_good : (s c : ℕ) → IsCode sh M s c → GoodTerm (code_term M s c) (code_expression sh (code_term M s c))
  code_good s c h = (omega (arith, many_symbols sh M, code_inside sh M s c h), tt, sym (ap (λ (g : Symbol). g.params) (code_symbol_lem sh M s c h)))

  cell_good : (f : ℕ) (cs : List ℕ) → IsCell sh M f cs → GoodTerm (cell_term sh M f cs) (cell_expression sh M f cs)
  cell_good f cs h =
      let params = (symbol_at sh f).params in (
        omega (arith, many_symbols sh M, h.0),
        args_each sh M (λ a. a < cell_term sh M f cs) (λ s c l. omega (arith, code_inside sh M s c l)) params cs (w.params f h.0) h.1,
        args_sorts sh M (sort_at (fitted_sheet sh M)) (code_sort sh M) params cs (w.params f h.0) h.1 ∙ sym (ap (λ (g : Symbol). g.params) (old_symbol sh M f h.0)),
      )

  term_good : (i : ℕ) → i < length (fitted_sheet sh M).terms → GoodTerm i (term_at (fitted_sheet sh M) i)
  term_good =
      by_term sh M (λ i. GoodTerm i (term_at (fitted_sheet sh M) i))
      (λ s c h. subst (GoodTerm (code_term M s c)) (sym (code_term_lem sh M s c h)) (code_good s c h))
      (λ f cs h. subst (GoodTerm (cell_term sh M f cs)) (sym (cell_term_lem sh M f cs h)) (cell_good f cs h))

  -- no two expressions are alike
  cell_tells : (f g : ℕ) (cs ds : List ℕ) → IsCell sh M f cs → IsCell sh M g ds → f ≡ g → code_args M (symbol_at sh f).params cs ≡ code_args M (symbol_at sh g).params ds → cell_term sh M f cs ≡ cell_term sh M g ds
  cell_tells f g cs ds h l e q =
      subst (λ (x : ℕ). IsCell sh M x ds → code_args M (symbol_at sh f).params cs ≡ code_args M (symbol_at sh x).params ds → cell_term sh M f cs ≡ cell_term sh M x ds) e
      (λ y p. ap (cell_term sh M f) (args_tell M M.size (symbol_at sh f).params cs ds h.1 y.1 p)) l q

  abbrev Told : ℕ → ℕ → Type 0
  Told i j = term_at (fitted_sheet sh M) i ≡ term_at (fitted_sheet sh M) j → i ≡ j

  code_told : (s c : ℕ) → IsCode sh M s c → (j : ℕ) → j < length (fitted_sheet sh M).terms → Told (code_term M s c) j
  code_told s c y =
      by_term sh M (Told (code_term M s c))
      (λ r d z e. omega (arith, ap (λ (t : Term). t.symbol) (sym (code_term_lem sh M s c y) ∙ e ∙ code_term_lem sh M r d z)))
      (λ f cs z e. absurd (omega (arith, z.0, ap (λ (t : Term). t.symbol) (sym (code_term_lem sh M s c y) ∙ e ∙ cell_term_lem sh M f cs z))))

  cell_told : (f : ℕ) (cs : List ℕ) → IsCell sh M f cs → (j : ℕ) → j < length (fitted_sheet sh M).terms → Told (cell_term sh M f cs) j
  cell_told f cs y =
      by_term sh M (Told (cell_term sh M f cs))
      (λ s c z e. absurd (omega (arith, y.0, ap (λ (t : Term). t.symbol) (sym (cell_term_lem sh M f cs y) ∙ e ∙ code_term_lem sh M s c z))))
      (λ g ds z e.
      let q = sym (cell_term_lem sh M f cs y) ∙ e ∙ cell_term_lem sh M g ds z in
      cell_tells f g cs ds y z (ap (λ (t : Term). t.symbol) q) (ap (λ (t : Term). t.args) q))

  told : (i j : ℕ) → i < length (fitted_sheet sh M).terms → j < length (fitted_sheet sh M).terms → Told i j
  told i j h l = by_term sh M (λ x. Told x j) (λ s c y. code_told s c y j l) (λ f cs y. cell_told f cs y j l) i h

  -- what is asked of a statement
  abbrev GoodLiteral : Literal → Type 0
  GoodLiteral l =
      (l.left < length (fitted_sheet sh M).terms) × (l.right < length (fitted_sheet sh M).terms) × (sort_at (fitted_sheet sh M) l.left ≡ sort_at (fitted_sheet sh M) l.right)

  differ_good : (s c d : ℕ) → s < length sh.bounds → c < d → d < M.size s → GoodLiteral (codes_differ M s c d)
  differ_good s c d h l b =
      let x : IsCode sh M s c = (h, omega arith) in
      let y : IsCode sh M s d = (h, b) in
      (code_there sh M s c x, code_there sh M s d y, code_sort sh M s c x ∙ sym (code_sort sh M s d y))

  same_good : (f : ℕ) (cs : List ℕ) → IsCell sh M f cs → GoodLiteral (cell_same sh M f cs)
  same_good f cs h =
      let y = held_code f cs h in
      (cell_there sh M f cs h, code_there sh M (symbol_at sh f).result (M.table f cs) y, cell_sort sh M f cs h ∙ sym (code_sort sh M (symbol_at sh f).result (M.table f cs) y))

  -- THE FITTED SHEET of a candidate that passes no limit
  pub formed : too_many (fitted_sheet sh M) ≡ false → WellFormed (fitted_sheet sh M)
  formed few =
      let fit = fitted_sheet sh M in
      let more = or_both (ltb most_symbols (length fit.symbols) || ltb most_terms (length fit.terms)) (ltb most_literals (length fit.literals)) few in
      let most = or_both (ltb most_symbols (length fit.symbols)) (ltb most_terms (length fit.terms)) more.0 in
      record {
        stage = ended;
        sorts = omega (arith, many_bounds sh M, w.sorts);
        symbols = ltb-false most_symbols (length fit.symbols) most.0;
        terms = ltb-false most_terms (length fit.terms) most.1;
        literals = ltb-false most_literals (length fit.literals) more.1;
        floor = λ s h. (bound_good s h).0;
        ceiling = λ s h. (bound_good s h).1;
        total = omega (arith, total_of sh M, k.bounded.total, w.total);
        result = λ f h. rw (many_bounds sh M) (symbol_good f h).0;
        params = λ f h. rw (many_bounds sh M) (symbol_good f h).1;
        arity = λ f h. (symbol_good f h).2;
        symbol = λ i h. (term_good i h).0;
        args = λ i h. (term_good i h).1;
        arg_sorts = λ i h. (term_good i h).2;
        distinct = told;
        left = λ x h. (statements x h).0;
        right = λ x h. (statements x h).1;
        sides = λ x h. (statements x h).2;
        fills = omega (arith, no_fills sh M);
        filled = λ x h. absurd (omega (arith, no_fills sh M));
        filler = λ x h. absurd (omega (arith, no_fills sh M));
        fill_sort = λ x h. absurd (omega (arith, no_fills sh M));
        once = λ x y h h' e. absurd (omega (arith, no_fills sh M));
      }
    where
      statements : (x : ℕ) → x < length (fitted_sheet sh M).literals → GoodLiteral (literal_at (fitted_sheet sh M) x)
      statements = by_literal sh M GoodLiteral differ_good same_good

-- THEOREM: the fitted sheet of an answer is well formed where it passes no limit
pub fitted_formed : (sh : Sheet) → WellFormed sh → (e : Entry) → answer sh ≡ some e → too_many (fitted_to sh e) ≡ false → WellFormed (fitted_to sh e)
fitted_formed sh w e q few = formed sh w (structure_of sh e) ((demand sh w).finds e q).candidate few
