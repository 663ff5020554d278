-- Demand 3 holds of every accepted sheet, and of the candidates of given sizes. Structures and what fits go over into each other: a candidate that
-- satisfies the sheet has sizes and codes that fit; what fits are the sizes and codes of the tables made from them, whatever the unreached cells hold.
use Prim.Native.Nat.{ℕ, zero, suc, ◌≤◌, ◌<◌}
use mathlib.Core.Path.{◌≡◌, refl, ap, ap₂, sym, ◌∙◌, subst}
use mathlib.Core.Logic.{◌⊎◌, inl, inr}
use mathlib.Core.Bool.{Bool, true, false, true≢false, cond}
use mathlib.Core.List.{List, [], ◌∷◌, map}
use mathlib.Core.Option
use mathlib.Core.Option.{Option, none, some}
use lib.ListN.{length, get_or}
use lib.Dec.{eqb}
use borrow.Author.Tests.{eqb-true, eqb-false}
use native.Mathlib.Omega.{arith}
use Rattle.logic.specs.Sheet.{Sheet, Fill, bound_at, symbol_at, term_at, fill_at, no_fill}
use Rattle.logic.specs.WellFormed.{WellFormed}
use Rattle.prelude.specs.Lists.{at, firsts}
use Rattle.prelude.specs.Tests.{same_list}
use Rattle.prelude.proofs.Tests.{same_list_same, same_same_list}
use Rattle.prelude.proofs.Lists.{map_each, firsts_at, firsts_same}
use Rattle.logic.specs.Structure.{Structure, InSorts, Bounded, Candidate, Satisfies, codes, code}
use Rattle.logic.specs.Order.{Before, sizes_of, sum_of, Earlier}
use Rattle.logic.proofs.Orders.{no_later_exactly}
use Rattle.logic.proofs.Meaning.{code_below, code_congruent, codes_own, length_codes, of_one_argument}
use Rattle.layout.specs.Layout.{accepted, reading}
use Rattle.layout.proofs.Answers.{accepted_well_formed}
use Rattle.answer.specs.Answer.{Entry, entry_of, cell_of, reached_cells, cell_at, structure_with, structure_of, to_itself, fill_code, unforced, answer_at, answer, sum}
use Rattle.answer.specs.Demand.{Answers, Demand, Hopeless, CandidateSizes, AnswersAt, DemandAt, HopelessAt, Unreached, ToItself, Unfilled, Unforced, InTables, StaysInRange}
use Rattle.answer.proofs.Lists.{found_or_none}
use Rattle.answer.proofs.Solving.{TermOf, term_of, own_cell, solution_same}
use Rattle.answer.proofs.Listing.{Fits, Chosen, chosen, ChosenAt, chosen_at, none_at, Ahead, Sooner, sooner_asym, none_fits, sum_firsts}

-- a candidate that satisfies the sheet fits
pub structure_fits : (sh : Sheet) → WellFormed sh → (M : Structure) → Candidate M sh → Satisfies M sh → Fits sh M.size (code M sh)
structure_fits sh w M k s =
    record {
      bounded = k.bounded;
      range = code_below M sh w k.interprets;
      solution = record { congruent = code_congruent M sh w; meets = s };
    }

-- sizes that fit are at least 1
pub fits_nonempty : (sh : Sheet) → WellFormed sh → (size c : ℕ → ℕ) → Fits sh size c → (s : ℕ) → s < length sh.bounds → 1 ≤ size s
fits_nonempty sh w size c f s h = omega (arith, (w.floor s h).0, f.bounded.floor s h)

-- the tables made from what fits
module _ (sh : Sheet) (w : WellFormed sh) (e : Entry) (f : Fits sh (at e.sizes) (at e.codes)) (u : ℕ → List ℕ → ℕ) where
  abbrev made : Structure
  made = structure_with u sh e

  -- a term's cell holds its code
  held : (i : ℕ) → i < length sh.terms → (o : Option ℕ) → cell_at (cell_of (at e.codes) i (term_at sh i)).key (reached_cells sh e.codes) ≡ o → (d : ℕ) → at e.codes i ≡ Option.get_or o d
  held i h none q d = absurd (own_cell sh (at e.codes) i h q)
  held i h (some v) q d =
      let t : TermOf sh (at e.codes) (term_at sh i).symbol (map (at e.codes) (term_at sh i).args) v =
      term_of sh (at e.codes) (term_at sh i).symbol (map (at e.codes) (term_at sh i).args) v q in
      f.solution.congruent i t.number h t.there (sym t.symbol) (sym t.args) ∙ t.code

  pub made_code : (i : ℕ) → i < length sh.terms → code made sh i ≡ at e.codes i
  made_code =
      codes_own made sh w (at e.codes)
      (λ i h. held i h (cell_at (cell_of (at e.codes) i (term_at sh i)).key (reached_cells sh e.codes)) refl (u (term_at sh i).symbol (map (at e.codes) (term_at sh i).args)))

  -- each cell is in range
  below : InTables sh (at e.sizes) u → (g : ℕ) → g < length sh.symbols → (cs : List ℕ) → InSorts (at e.sizes) (symbol_at sh g).params cs → (o : Option ℕ) → cell_at (g ∷ cs) (reached_cells sh e.codes) ≡ o → Option.get_or o (u g cs) < at e.sizes (symbol_at sh g).result
  below t g h cs l none q = t g h cs l
  below t g h cs l (some v) q =
      let r : TermOf sh (at e.codes) g cs v = term_of sh (at e.codes) g cs v q in
      subst (λ (x : ℕ). x < at e.sizes (symbol_at sh g).result) r.code
      (subst (λ (j : ℕ). at e.codes r.number < at e.sizes (symbol_at sh j).result) r.symbol (f.range r.number r.there))

  -- a cell that no term reaches holds what u says
  pub made_unreached : (g : ℕ) (xs : List ℕ) → Unreached sh made g xs → made.table g xs ≡ u g xs
  made_unreached g xs h = step (cell_at (g ∷ xs) (reached_cells sh e.codes)) refl
    where
      step : (o : Option ℕ) → cell_at (g ∷ xs) (reached_cells sh e.codes) ≡ o → Option.get_or o (u g xs) ≡ u g xs
      step none q = refl
      step (some v) q =
          let r : TermOf sh (at e.codes) g xs v = term_of sh (at e.codes) g xs v q in
          let args : map (code made sh) (term_at sh r.number).args ≡ map (at e.codes) (term_at sh r.number).args =
          map_each (code made sh) (at e.codes) (λ a. a < r.number) (λ a l. made_code a (omega (arith, r.there))) (term_at sh r.number).args (w.args r.number r.there) in
          absurd (h r.number r.there r.symbol (args ∙ r.args))

  pub made_candidate : InTables sh (at e.sizes) u → Candidate made sh
  made_candidate t =
      record {
        interprets = record {
          nonempty = fits_nonempty sh w (at e.sizes) (at e.codes) f;
          complete = λ g h cs l. below t g h cs l (cell_at (g ∷ cs) (reached_cells sh e.codes)) refl;
        };
        bounded = f.bounded;
      }

  pub made_satisfies : Satisfies made sh
  made_satisfies = (solution_same sh w (at e.codes) (code made sh) (λ i h. sym (made_code i h)) f.solution).meets

  -- sum and codes are those of the entry, where it has one size for each sort and one code for each term
  made_sum : firsts (length sh.bounds) (at e.sizes) ≡ e.sizes → sum_of made sh ≡ sum e.sizes
  made_sum sizes = sym (sum_firsts (length sh.bounds) (at e.sizes)) ∙ ap sum sizes

  made_codes : firsts (length sh.terms) (at e.codes) ≡ e.codes → codes made sh ≡ e.codes
  made_codes own =
      sym (firsts_at (length sh.terms) (codes made sh) (length_codes made sh))
      ∙ firsts_same (length sh.terms) (code made sh) (at e.codes) made_code
      ∙ own

-- The order of structures is that of their sizes and codes.
earlier_sooner : (sh : Sheet) (e : Entry) → Chosen sh e → (N M : Structure) → sizes_of M sh ≡ e.sizes → sum_of M sh ≡ sum e.sizes → codes M sh ≡ e.codes → Earlier sh N M → Sooner (entry_of sh N.size (code N sh)) e
earlier_sooner sh e k N M p q r (inl l) = inl (omega (arith, sum_firsts (length sh.bounds) N.size, q))
earlier_sooner sh e k N M p q r (inr l) =
    inr (sum_firsts (length sh.bounds) N.size ∙ l.0 ∙ q, step l.1)
  where
    own : firsts (length sh.terms) (code N sh) ≡ codes N sh
    own = firsts_at (length sh.terms) (codes N sh) (length_codes N sh)

    step : Before (sizes_of N sh) (sizes_of M sh) ⊎ ((sizes_of N sh ≡ sizes_of M sh) × Before (codes N sh) (codes M sh)) → Ahead (entry_of sh N.size (code N sh)) e
    step (inl b) = inl (rw (← p) b)
    step (inr b) = inr (b.0 ∙ p, rw (own, ← r) b.1)

-- the tables of the answer, whatever the unreached cells hold
pub answers_with : (sh : Sheet) → WellFormed sh → (e : Entry) → answer sh ≡ some e → (u : ℕ → List ℕ → ℕ) → InTables sh (at e.sizes) u → Answers sh e (structure_with u sh e)
answers_with sh w e q u t =
    record {
      candidate = made_candidate sh w e k.fits u t;
      satisfies = made_satisfies sh w e k.fits u;
      sum = sums;
      sizes = k.sizes;
      codes = own;
      first = λ N c s.
          (no_later_exactly sh (structure_with u sh e) N).1
          (λ l. no_sooner (structure_fits sh w N c s) (earlier_sooner sh e k N (structure_with u sh e) k.sizes sums own l));
    }
  where
    k : Chosen sh e
    k = chosen sh w e q

    sums : sum_of (structure_with u sh e) sh ≡ sum e.sizes
    sums = made_sum sh w e k.fits u k.sizes

    own : codes (structure_with u sh e) sh ≡ e.codes
    own = made_codes sh w e k.fits u k.codes

    no_sooner : {size c : ℕ → ℕ} → Fits sh size c → Sooner (entry_of sh size c) e → ⊥
    no_sooner {size} {c} g s =
        elim (k.first size c g) [
          | inl p ↦ sooner_asym e e (subst (λ (d : Entry). Sooner d e) p s) (subst (λ (d : Entry). Sooner d e) p s)
          | inr l ↦ sooner_asym e (entry_of sh size c) l s
        ]

-- the test tells whether a symbol takes one argument, of the sort of its result
pub to_itself_test : (sh : Sheet) (f : ℕ) → ToItself sh f → to_itself (symbol_at sh f) ≡ true
to_itself_test sh f k = ap (λ (l : List ℕ). same_list l ((symbol_at sh f).result ∷ [])) k ∙ same_same_list ((symbol_at sh f).result ∷ [])

pub to_itself_or_not : (sh : Sheet) (f : ℕ) → ToItself sh f ⊎ ((ToItself sh f → ⊥) × (to_itself (symbol_at sh f) ≡ false))
to_itself_or_not sh f = step (to_itself (symbol_at sh f)) refl
  where
    step : (b : Bool) → to_itself (symbol_at sh f) ≡ b → ToItself sh f ⊎ ((ToItself sh f → ⊥) × (to_itself (symbol_at sh f) ≡ false))
    step true q = inl (same_list_same (symbol_at sh f).params ((symbol_at sh f).result ∷ []) q)
    step false q = inr (λ k. true≢false (sym (to_itself_test sh f k) ∙ q), q)

-- what is filled in: the code of a fill of the symbol, or 0 where there is none
filled_in : (c : ℕ → ℕ) (f : ℕ) (xs : List Fill) (P : ℕ → Type 0)
    → ((k : ℕ) → k < length xs → (get_or xs k no_fill).symbol ≡ f → P (c (get_or xs k no_fill).term))
    → (((k : ℕ) → k < length xs → (get_or xs k no_fill).symbol ≡ f → ⊥) → P 0)
    → P (Option.get_or (fill_code c f xs) 0)
filled_in c f [] P some-fill no-fill = no-fill (λ k h e. omega arith)
filled_in c f (x ∷ xs) P some-fill no-fill = step (eqb x.symbol f) refl (filled_in c f xs P (λ k h e. some-fill (suc k) (omega arith) e))
  where
    free : eqb x.symbol f ≡ false → ((k : ℕ) → k < length xs → (get_or xs k no_fill).symbol ≡ f → ⊥) → (k : ℕ) → k < length (x ∷ xs) → (get_or (x ∷ xs) k no_fill).symbol ≡ f → ⊥
    free q bare zero h e = eqb-false x.symbol f q e
    free q bare (suc k) h e = bare k (omega arith) e

    step : (b : Bool) → eqb x.symbol f ≡ b → ((((k : ℕ) → k < length xs → (get_or xs k no_fill).symbol ≡ f → ⊥) → P 0) → P (Option.get_or (fill_code c f xs) 0))
        → P (Option.get_or (cond (eqb x.symbol f) (some (c x.term)) (fill_code c f xs)) 0)
    step true q rest = subst (λ (b : Bool). P (Option.get_or (cond b (some (c x.term)) (fill_code c f xs)) 0)) (sym q) (some-fill 0 (omega arith) (eqb-true x.symbol f q))
    step false q rest = subst (λ (b : Bool). P (Option.get_or (cond b (some (c x.term)) (fill_code c f xs)) 0)) (sym q) (rest (λ bare. no-fill (free q bare)))

-- it depends only on the codes of the terms by which symbols are filled
pub fill_code_same : (c d : ℕ → ℕ) (f : ℕ) (xs : List Fill) → ((k : ℕ) → k < length xs → c (get_or xs k no_fill).term ≡ d (get_or xs k no_fill).term) → fill_code c f xs ≡ fill_code d f xs
fill_code_same c d f [] h = refl
fill_code_same c d f (x ∷ xs) h =
    ap₂ (λ (v : ℕ) (r : Option ℕ). cond (eqb x.symbol f) (some v) r) (h 0 (omega arith)) (fill_code_same c d f xs (λ k l. h (suc k) (omega arith)))

-- the rule of the answer, in its cases
pub unforced_kept : (sh : Sheet) (e : Entry) (f x : ℕ) → ToItself sh f → unforced sh e f (x ∷ []) ≡ x
unfolding unforced
unforced_kept sh e f x k = rw (to_itself_test sh f k) refl

module _ (sh : Sheet) (e : Entry) (f : ℕ) (xs : List ℕ) (other : ToItself sh f → ⊥) where
  -- in any other table what is filled in
  pub unforced_other : unforced sh e f xs ≡ Option.get_or (fill_code (at e.codes) f sh.fills) 0
  unfolding unforced
  unforced_other = elim (to_itself_or_not sh f) [ inl k ↦ absurd (other k) | inr r ↦ rw r.1 refl ]

  pub unforced_by : (P : ℕ → Type 0) → ((k : ℕ) → k < length sh.fills → (fill_at sh k).symbol ≡ f → P (at e.codes (fill_at sh k).term)) → (Unfilled sh f → P 0) → P (unforced sh e f xs)
  unforced_by P some-fill no-fill = subst P (sym unforced_other) (filled_in (at e.codes) f sh.fills P some-fill no-fill)

  pub unforced_zero : Unfilled sh f → unforced sh e f xs ≡ 0
  unforced_zero bare = unforced_by (λ v. v ≡ 0) (λ k h q. absurd (bare k h q)) (λ bare. refl)

  -- no two fills are of one symbol
  pub unforced_filled : WellFormed sh → (k : ℕ) → k < length sh.fills → (fill_at sh k).symbol ≡ f → unforced sh e f xs ≡ at e.codes (fill_at sh k).term
  unforced_filled w k h q =
      unforced_by (λ v. v ≡ at e.codes (fill_at sh k).term)
      (λ m l r. ap (λ (x : ℕ). at e.codes (fill_at sh x).term) (w.once m k l h (r ∙ sym q)))
      (λ bare. absurd (bare k h q))

-- what the rule puts in a cell of what fits is a code of its sort
unforced_in_tables : (sh : Sheet) → WellFormed sh → (e : Entry) → Fits sh (at e.sizes) (at e.codes) → InTables sh (at e.sizes) (unforced sh e)
unforced_in_tables sh w e fits f l cs i =
    elim (to_itself_or_not sh f) [
      | inl k ↦
          of_one_argument (at e.sizes) (symbol_at sh f).result (symbol_at sh f).params k (λ xs. unforced sh e f xs < at e.sizes (symbol_at sh f).result)
          (λ x h. omega (arith, unforced_kept sh e f x k)) cs i
      | inr r ↦
          unforced_by sh e f cs r.0 (λ v. v < at e.sizes (symbol_at sh f).result)
          (λ k h p.
          subst (λ (s : ℕ). at e.codes (fill_at sh k).term < at e.sizes s) (w.fill_sort k h ∙ ap (λ (g : ℕ). (symbol_at sh g).result) p)
          (fits.range (fill_at sh k).term (w.filler k h)))
          (λ bare. fits_nonempty sh w (at e.sizes) (at e.codes) fits (symbol_at sh f).result (w.result f l))
    ]

pub unforced_in_range : (sh : Sheet) → WellFormed sh → StaysInRange unforced sh
unforced_in_range sh w e q = unforced_in_tables sh w e (chosen sh w e q).fits

-- the cells that no term reaches hold what `Unforced` says
made_unforced : (sh : Sheet) → WellFormed sh → (e : Entry) → Fits sh (at e.sizes) (at e.codes) → Unforced sh (structure_of sh e)
made_unforced sh w e fits =
    record {
      kept = λ f h k x l free. made_unreached sh w e fits (unforced sh e) f (x ∷ []) free ∙ unforced_kept sh e f x k;
      filled = λ k h other xs i free.
          made_unreached sh w e fits (unforced sh e) (fill_at sh k).symbol xs free
          ∙ unforced_filled sh e (fill_at sh k).symbol xs other w k h refl
          ∙ sym (made_code sh w e fits (unforced sh e) (fill_at sh k).term (w.filler k h));
      zero = λ f h other bare xs i free. made_unreached sh w e fits (unforced sh e) f xs free ∙ unforced_zero sh e f xs other bare;
    }

pub demand : (sh : Sheet) → WellFormed sh → Demand sh
demand sh w =
    record {
      refuses = (
        λ q M c s. none_fits sh w q M.size (code M sh) (structure_fits sh w M c s),
        λ h. elim (found_or_none (answer sh)) [ inl q ↦ q | inr r ↦ absurd (hope h r.0 r.1) ],
      );
      finds = answered;
      unreached = λ e q. made_unforced sh w e (chosen sh w e q).fits;
    }
  where
    answered : (e : Entry) → answer sh ≡ some e → Answers sh e (structure_of sh e)
    answered e q = answers_with sh w e q (unforced sh e) (unforced_in_range sh w e q)

    hope : Hopeless sh → (e : Entry) → answer sh ≡ some e → ⊥
    hope h e q = let a : Answers sh e (structure_of sh e) = answered e q in h (structure_of sh e) a.candidate a.satisfies

-- THEOREM: demand 3 of every accepted sheet
pub accepted_demand : (s : List ℕ) (sh : Sheet) → reading s ≡ accepted sh → Demand sh
accepted_demand s sh q = demand sh (accepted_well_formed s sh q)

-- the same among the candidates of given sizes
pub demand_at : (sh : Sheet) → WellFormed sh → (z : List ℕ) → CandidateSizes sh z → DemandAt sh z
demand_at sh w z right =
    record {
      refuses = (
        λ q M c s same. none_at sh w z q M.size (code M sh) (structure_fits sh w M c s) same,
        λ h. elim (found_or_none (answer_at sh z)) [ inl q ↦ q | inr r ↦ absurd (hope h r.0 r.1) ],
      );
      finds = answered;
      unreached = λ e q. made_unforced sh w e (chosen_at sh w z right e q).fits;
    }
  where
    answered : (e : Entry) → answer_at sh z ≡ some e → AnswersAt sh z e (structure_of sh e)
    answered e q =
        let k : ChosenAt sh z e = chosen_at sh w z right e q in
        let own : codes (structure_of sh e) sh ≡ e.codes = made_codes sh w e k.fits (unforced sh e) k.codes in
        let sizes : sizes_of (structure_of sh e) sh ≡ z = ap (λ (l : List ℕ). firsts (length sh.bounds) (at l)) k.sizes ∙ firsts_at (length sh.bounds) z right.many in
        record {
          candidate = made_candidate sh w e k.fits (unforced sh e) (unforced_in_tables sh w e k.fits);
          satisfies = made_satisfies sh w e k.fits (unforced sh e);
          sizes = sizes;
          sum = made_sum sh w e k.fits (unforced sh e) (sizes ∙ sym k.sizes);
          codes = own;
          first = λ N c s same.
              rw (own, ← firsts_at (length sh.terms) (codes N sh) (length_codes N sh)) (k.first N.size (code N sh) (structure_fits sh w N c s) same);
        }

    hope : HopelessAt sh z → (e : Entry) → answer_at sh z ≡ some e → ⊥
    hope h e q = let a : AnswersAt sh z e (structure_of sh e) = answered e q in h (structure_of sh e) a.candidate a.satisfies a.sizes

-- THEOREM: demand 3 of every accepted sheet at all sizes that a candidate may have
pub accepted_demand_at : (s : List ℕ) (sh : Sheet) → reading s ≡ accepted sh → (z : List ℕ) → CandidateSizes sh z → DemandAt sh z
accepted_demand_at s sh q = demand_at sh (accepted_well_formed s sh q)

-- a floor above its ceiling leaves no sizes that a candidate may have, and no candidate: refusals 17 and 11
pub no_sizes_within : (sh : Sheet) (s : ℕ) → s < length sh.bounds → (bound_at sh s).ceiling < (bound_at sh s).floor → (size : ℕ → ℕ) → Bounded sh size → ⊥
no_sizes_within sh s h l size b = omega (arith, b.floor s h, b.ceiling s h)

pub floor_above_ceiling : (sh : Sheet) (s : ℕ) → s < length sh.bounds → (bound_at sh s).ceiling < (bound_at sh s).floor → Hopeless sh
floor_above_ceiling sh s h l M k q = no_sizes_within sh s h l M.size k.bounded
