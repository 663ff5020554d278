-- The old tables, and beside them the code of each new name, answer the fitted sheet: no candidate that satisfies it comes earlier.
use Prim.Native.Nat.{ℕ, ◌+◌, ◌-◌, ◌<◌}
use native.Mathlib.Omega.{arith}
use mathlib.Core.Path.{◌≡◌, refl, ap, sym, ◌∙◌, subst}
use mathlib.Core.Bool.{Bool, false, cond}
use mathlib.Core.Logic.{inl, inr}
use mathlib.Core.List.{List, [], ◌∷◌, map}
use lib.ListN.{length, get_or}
use lib.Dec.{ltb}
use borrow.Author.Tests.{lt-ltb, le-ltb}
use Rattle.prelude.specs.Lists.{at, sum_to, firsts, collect}
use Rattle.prelude.proofs.Lists.{firsts_same, sum_to_same}
use Rattle.prelude.proofs.Collect.{length_singles, get_d_singles}
use Rattle.logic.specs.Sheet.{Sheet, Bound, Symbol, Term, Literal, no_literal, symbol_at}
use Rattle.logic.specs.WellFormed.{WellFormed}
use Rattle.logic.specs.Structure.{Structure, InSorts, Candidate, Holds, Satisfies, codes, code}
use Rattle.logic.specs.Order.{sizes_of, Earlier}
use Rattle.logic.proofs.Meaning.{length_codes, code_is}
use Rattle.logic.proofs.Orders.{before_irrefl, before_place, no_later_exactly}
use Rattle.answer.specs.Answer.{Entry}
use Rattle.answer.specs.Demand.{Answers}
use Rattle.answer.proofs.Lists.{Mem}
use Rattle.answer.proofs.Listing.{sum_firsts}
use Rattle.fitted_sheet.specs.FittedSheet.{fitted_sheet, code_term, code_args, cell_term, too_many}
use Rattle.fitted_sheet.proofs.Members.{place_of, entry_of_lists}
use Rattle.fitted_sheet.proofs.Entries.{IsCode, IsCell, codes_differ, cell_same, many_bounds, bound_of, total_of, old_symbol, code_symbol_lem, by_symbol, code_inside, code_there, cell_there, code_term_lem, cell_term_lem, by_term, args_codes, differ_stated, same_stated, by_literal}
use Rattle.fitted_sheet.proofs.Formed.{held_code, formed}

-- the codes of the new names
abbrev new_codes : Sheet → Structure → List ℕ
new_codes sh M = collect (length sh.bounds) (λ s. collect (M.size s) (λ c. c ∷ []))

-- the old tables, and the new names with their codes
abbrev pub extended : Sheet → Structure → Structure
extended sh M =
    record {
      size = M.size;
      table = λ f cs. cond (ltb f (length sh.symbols)) (M.table f cs) (at (new_codes sh M) (f - length sh.symbols));
    }

-- the entry with its sizes and codes
abbrev pub fitted_entry : Sheet → Structure → Entry
fitted_entry sh M = record { sizes = sizes_of M sh; codes = codes (extended sh M) (fitted_sheet sh M) }

module _ (sh : Sheet) (M : Structure) where
  old_table : (f : ℕ) (cs : List ℕ) → f < length sh.symbols → (extended sh M).table f cs ≡ M.table f cs
  old_table f cs h =
      ap (λ (b : Bool). cond b (M.table f cs) (at (new_codes sh M) (f - length sh.symbols))) (lt-ltb f (length sh.symbols) h)

  new_table : (s c : ℕ) → IsCode sh M s c → (cs : List ℕ) → (extended sh M).table (length sh.symbols + code_term M s c) cs ≡ c
  new_table s c h cs =
      let n = length sh.symbols in
      let f = n + code_term M s c in
      let e : f - n ≡ code_term M s c = omega arith in
      ap (λ (b : Bool). cond b (M.table f cs) (at (new_codes sh M) (f - n))) (le-ltb f n (omega arith))
      ∙ ap (at (new_codes sh M)) e
      ∙ entry_of_lists (length sh.bounds) (λ s. collect (M.size s) (λ c. c ∷ [])) M.size (λ s. length_singles (M.size s) (λ c. c)) 0 s c h.0 h.1
      ∙ get_d_singles 0 (M.size s) (λ c. c) c h.1

module _ (sh : Sheet) (w : WellFormed sh) (M : Structure) (k : Candidate M sh) (few : too_many (fitted_sheet sh M) ≡ false) where
  -- ---- the codes of expressions: that of a code has that code, the arguments of a cell's have the cell's codes, and it has what the cell holds
  own_code : (s c : ℕ) → IsCode sh M s c → code (extended sh M) (fitted_sheet sh M) (code_term M s c) ≡ c
  own_code s c h =
      code_is (extended sh M) (fitted_sheet sh M) (formed sh w M k few) (code_term M s c) (code_there sh M s c h)
      ∙ ap (λ (t : Term). (extended sh M).table t.symbol (map (code (extended sh M) (fitted_sheet sh M)) t.args)) (code_term_lem sh M s c h)
      ∙ new_table sh M s c h []

  pub own_args : (f : ℕ) (cs : List ℕ) → IsCell sh M f cs → map (code (extended sh M) (fitted_sheet sh M)) (code_args M (symbol_at sh f).params cs) ≡ cs
  own_args f cs h = args_codes sh M (code (extended sh M) (fitted_sheet sh M)) own_code (symbol_at sh f).params cs (w.params f h.0) h.1

  pub own_cell : (f : ℕ) (cs : List ℕ) → IsCell sh M f cs → code (extended sh M) (fitted_sheet sh M) (cell_term sh M f cs) ≡ M.table f cs
  own_cell f cs h =
      code_is (extended sh M) (fitted_sheet sh M) (formed sh w M k few) (cell_term sh M f cs) (cell_there sh M f cs h)
      ∙ ap (λ (t : Term). (extended sh M).table t.symbol (map (code (extended sh M) (fitted_sheet sh M)) t.args)) (cell_term_lem sh M f cs h)
      ∙ ap ((extended sh M).table f) (own_args f cs h)
      ∙ old_table sh M f cs h.0

  -- ---- a candidate that satisfies the fitted sheet
  extended_candidate : Candidate (extended sh M) (fitted_sheet sh M)
  extended_candidate =
      record {
        interprets = record {
          nonempty = λ s h. k.interprets.nonempty s (omega (arith, many_bounds sh M));
          complete = by_symbol sh M (λ f. (cs : List ℕ) → InSorts M.size (symbol_at (fitted_sheet sh M) f).params cs → (extended sh M).table f cs < M.size (symbol_at (fitted_sheet sh M) f).result) old new;
        };
        bounded = record {
          floor = λ s h. let e = ap (λ (b : Bound). b.floor) (bound_of sh M s (omega (arith, many_bounds sh M))) in omega arith;
          ceiling = λ s h. let e = ap (λ (b : Bound). b.ceiling) (bound_of sh M s (omega (arith, many_bounds sh M))) in omega arith;
          total = omega (arith, total_of sh M, ap (λ (n : ℕ). sum_to n M.size) (many_bounds sh M));
        };
      }
    where
      old : (f : ℕ) → f < length sh.symbols → (cs : List ℕ) → InSorts M.size (symbol_at (fitted_sheet sh M) f).params cs → (extended sh M).table f cs < M.size (symbol_at (fitted_sheet sh M) f).result
      old f h cs i =
          let j : InSorts M.size (symbol_at sh f).params cs = subst (λ (g : Symbol). InSorts M.size g.params cs) (old_symbol sh M f h) i in
          omega (arith, old_table sh M f cs h, ap (λ (g : Symbol). M.size g.result) (old_symbol sh M f h), k.interprets.complete f h cs j)

      new : (s c : ℕ) → IsCode sh M s c → (cs : List ℕ) → InSorts M.size (symbol_at (fitted_sheet sh M) (length sh.symbols + code_term M s c)).params cs → (extended sh M).table (length sh.symbols + code_term M s c) cs < M.size (symbol_at (fitted_sheet sh M) (length sh.symbols + code_term M s c)).result
      new s c h cs i = omega (arith, new_table sh M s c h cs, ap (λ (g : Symbol). M.size g.result) (code_symbol_lem sh M s c h), h.1)

  extended_satisfies : Satisfies (extended sh M) (fitted_sheet sh M)
  extended_satisfies =
      by_literal sh M (Holds (code (extended sh M) (fitted_sheet sh M)))
      (λ s c d h l b e. omega (arith, own_code s c (h, omega arith), own_code s d (h, b)))
      (λ f cs h. own_cell f cs h ∙ sym (own_code (symbol_at sh f).result (M.table f cs) (held_code sh w M k f cs h)))

  -- ---- and no other comes earlier
  module _ (N : Structure) (n : Candidate N (fitted_sheet sh M)) (sat : Satisfies N (fitted_sheet sh M)) where
    same_size : (s : ℕ) → s < length (fitted_sheet sh M).bounds → N.size s ≡ M.size s
    same_size s h =
        let e = bound_of sh M s (omega (arith, many_bounds sh M)) in
        omega (arith, n.bounded.floor s h, n.bounded.ceiling s h, ap (λ (b : Bound). b.floor) e, ap (λ (b : Bound). b.ceiling) e)

    stated : (l : Literal) → Mem l (fitted_sheet sh M).literals → Holds (code N (fitted_sheet sh M)) l
    stated l m =
        let r : (i : ℕ) × (i < length (fitted_sheet sh M).literals) × (get_or (fitted_sheet sh M).literals i no_literal ≡ l) = place_of no_literal l (fitted_sheet sh M).literals m in
        subst (Holds (code N (fitted_sheet sh M))) r.2 (sat r.0 r.1)

    -- The first expression that has another code has no smaller one. A code's expression with a smaller code x would have the code of the expression of x,
    -- from which it differs; a cell's expression has the code of an earlier one.
    abbrev NotLess : ℕ → Type 0
    NotLess i =
        ((j : ℕ) → j < i → code N (fitted_sheet sh M) j ≡ code (extended sh M) (fitted_sheet sh M) j) → code N (fitted_sheet sh M) i < code (extended sh M) (fitted_sheet sh M) i → ⊥

    code_not_less : (s c : ℕ) → IsCode sh M s c → NotLess (code_term M s c)
    code_not_less s c h agree less =
        let x = code N (fitted_sheet sh M) (code_term M s c) in
        let below : x < c = omega (arith, own_code s c h) in
        stated (codes_differ M s x c) (differ_stated sh M s x c h.0 below h.1)
        (agree (code_term M s x) (omega arith) ∙ own_code s x (h.0, omega (arith, h.1)))

    cell_not_less : (f : ℕ) (cs : List ℕ) → IsCell sh M f cs → NotLess (cell_term sh M f cs)
    cell_not_less f cs h agree less =
        let held = held_code sh w M k f cs h in
        let e : code N (fitted_sheet sh M) (cell_term sh M f cs) ≡ code N (fitted_sheet sh M) (code_term M (symbol_at sh f).result (M.table f cs)) = stated (cell_same sh M f cs) (same_stated sh M f cs h) in
        omega (
          arith,
          e,
          own_cell f cs h,
          own_code (symbol_at sh f).result (M.table f cs) held,
          agree (code_term M (symbol_at sh f).result (M.table f cs)) (omega (arith, code_inside sh M (symbol_at sh f).result (M.table f cs) held)),
        )

    not_less : (i : ℕ) → i < length (fitted_sheet sh M).terms → NotLess i
    not_less = by_term sh M NotLess code_not_less cell_not_less

    not_earlier : Earlier (fitted_sheet sh M) N (extended sh M) → ⊥
    not_earlier (inl l) = omega (arith, sum_to_same (length (fitted_sheet sh M).bounds) N.size M.size same_size)
    not_earlier (inr (e, inl b)) =
        before_irrefl (sizes_of (extended sh M) (fitted_sheet sh M)) (rw (firsts_same (length (fitted_sheet sh M).bounds) N.size M.size same_size) at b)
    not_earlier (inr (e, inr (q, b))) =
        let p = before_place (codes N (fitted_sheet sh M)) (codes (extended sh M) (fitted_sheet sh M)) b in
        not_less p.place (omega (arith, p.inside, length_codes N (fitted_sheet sh M))) p.agree p.less

  -- THE FITTED SHEET IS ANSWERED with the old sizes
  pub extended_answers : Answers (fitted_sheet sh M) (fitted_entry sh M) (extended sh M)
  extended_answers =
      record {
        candidate = extended_candidate;
        satisfies = extended_satisfies;
        sum = ap (λ (n : ℕ). sum_to n M.size) (many_bounds sh M) ∙ sym (sum_firsts (length sh.bounds) M.size);
        sizes = ap (λ (n : ℕ). firsts n M.size) (many_bounds sh M);
        codes = refl;
        first = λ N n sat. (no_later_exactly (fitted_sheet sh M) (extended sh M) N).1 (not_earlier N n sat);
      }
