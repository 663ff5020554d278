-- From what the search shows of a parsed sheet at given sizes to what find_at promises: each way out has an outcome, and the outcome gives result and
-- buffers.
use Prim.Native.Nat.{ℕ, ◌≤◌, ◌<◌}
use native.Mathlib.Decide.{dec_lt}
use native.Mathlib.Omega.{arith}
use mathlib.Core.Path.{◌≡◌, ap, sym, ◌∙◌}
use mathlib.Core.Bool.{Bool, true, false, ◌||◌}
use mathlib.Core.Logic.{inl}
use mathlib.Core.List.{List}
use mathlib.Core.Option.{none, some}
use lib.ListN.{length}
use lib.Dec.{ltb}
use borrow.Author.Tests.{le-ltb}
use Rattle.prelude.specs.Lists.{at, firsts}
use Rattle.prelude.proofs.Lists.{firsts_at, firsts_same}
use Rattle.logic.specs.Sheet.{Sheet}
use Rattle.logic.specs.WellFormed.{WellFormed}
use Rattle.logic.specs.Problem.{Allowed, Consistent}
use Rattle.layout.specs.Packed.{view}
use Rattle.layout.specs.Views.{Views}
use Rattle.layout.specs.declared.Parsed.{Parsed}
use Rattle.sheet.specs.Verdict.{ReadFrom}
use Rattle.tables.specs.Layout.{extent}
use Rattle.tables.specs.Parts.{Packs, Limited, Extents}
use Rattle.tables.proofs.Packing.{packs_views, symbols_packed}
use Rattle.tables.proofs.Whole.{packs_limited}
use Rattle.tables.proofs.Tables.{extent_monotone}
use Rattle.tables.proofs.Offsets.{offset_same}
use Rattle.judge.proofs.Questions.{read_packs}
use Rattle.consistency.specs.Searchable.{Searchable, SmallSizes}
use Rattle.first_codes.specs.FirstCodes.{First}
use Rattle.writing.specs.Written.{Writable}
use Rattle.answer.specs.Answer.{entry_of, answer_at}
use Rattle.answer.specs.Demand.{CandidateSizes}
use Rattle.answer.proofs.Joint.{bounded_same, bounded_allowed, none_consistent_none, first_codes_answer}
use Rattle.answer.proofs.Searchable.{packs_searchable}
use Rattle.find_at.specs.Found.{turned_down, answered, ceilings, short}
use Rattle.find_at.specs.FindAt.{candidate_sizes, outcome_at}
use Rattle.find_at.proofs.Outcomes.{is_short, outcome_at_long}
use Rattle.find_at.proofs.Sizes.{candidate_sizes_test}

-- the end of the tables with every size at its ceiling
pub ceilings_extent : (p : Parsed) (offsets : List ℕ) → Extents p (at p.ceiling) offsets → (sh : Sheet) → Packs sh p → at offsets p.symbols ≡ extent sh (ceilings sh)
ceilings_extent p offsets x sh k =
    ap (at offsets) (symbols_packed sh p k)
    ∙ x.offset sh k (length sh.symbols) (omega arith)
    ∙ offset_same sh k.formed (at p.ceiling) (ceilings sh) (packs_views sh p k).ceiling (length sh.symbols) (omega arith)

-- both buffers measured on a parsed sheet
module _ (p : Parsed) (nc nt : ℕ) (sh : Sheet) (k : Packs sh p) where
  pub short_codes : nc < p.terms → true ≡ short sh nc nt
  short_codes h = sym (is_short sh nc nt (inl (omega (arith, (packs_views sh p k).terms))))

  pub short_tables : p.terms ≤ nc → (longest : ℕ) → longest ≡ extent sh (ceilings sh) → ltb nt longest ≡ short sh nc nt
  short_tables h longest e =
      ap (ltb nt) e ∙ sym (ap (λ (b : Bool). b || ltb nt (extent sh (ceilings sh))) (le-ltb nc (length sh.terms) (omega (arith, (packs_views sh p k).terms))))

module _ (p : Parsed) (q : ReadFrom p) where
  abbrev sh : Sheet
  sh = q.sheet

  abbrev packs : Packs sh p
  packs = read_packs p q

  abbrev formed : WellFormed sh
  formed = packs.formed

  views : Views sh (view p)
  views = packs_views sh p packs

  pub limited : Limited p
  limited = packs_limited sh p packs

  pub searchable : Searchable p
  searchable = packs_searchable sh p packs

  pub terms_fit : (n : ℕ) → length sh.terms ≤ n → p.terms ≤ n
  terms_fit n h = omega (arith, views.terms)

  -- given sizes that a candidate may have, as the search takes them
  module _ (z given : List ℕ) (right : candidate_sizes sh z ≡ true) (same : (s : ℕ) → s < p.sorts → at given s ≡ at z s) where
    may : CandidateSizes sh z
    may = (candidate_sizes_test sh z).0 right

    taken : (s : ℕ) → s < length sh.bounds → at z s ≡ at given s
    taken s h = sym (same s (omega (arith, views.sorts)))

    allowed : Allowed (view p) (at given)
    allowed = bounded_allowed sh (view p) formed views (at given) (bounded_same sh (at z) (at given) taken may.bounded)

    pub small_sizes : SmallSizes p (at given)
    small_sizes s h = omega (arith, allowed.ceiling s h, searchable.ceiling s h)

    own_sizes : firsts (length sh.bounds) (at given) ≡ z
    own_sizes = sym (firsts_same (length sh.bounds) (at z) (at given) taken) ∙ firsts_at (length sh.bounds) z may.many

    -- cause 11
    pub nothing_found : ((c : ℕ → ℕ) → Consistent (view p) (at given) c → ⊥) → (nc nt : ℕ) → short sh nc nt ≡ false → outcome_at q.bytes z nc nt ≡ turned_down 11 0
    nothing_found n nc nt room =
        outcome_at_long q.bytes z nc nt sh q.reads room may none
        (ap (answer_at sh) (sym own_sizes) ∙ none_consistent_none sh (view p) formed views (at given) allowed n)

    module _ (c : ℕ → ℕ) (first : First (view p) (at given) c) (nc nt : ℕ) (room : short sh nc nt ≡ false) where
      -- the first codes are the answer at these sizes
      pub first_found : outcome_at q.bytes z nc nt ≡ answered sh (entry_of sh (at given) c)
      first_found =
          outcome_at_long q.bytes z nc nt sh q.reads room may (some (entry_of sh (at given) c))
          (ap (answer_at sh) (sym own_sizes) ∙ first_codes_answer sh (view p) formed views (at given) c allowed first.consistent first.first)

      -- and can be written
      pub first_writable : extent sh (ceilings sh) ≤ nt → Writable p (at given) c nt
      first_writable fits =
          record {
            sheet = sh;
            packs = packs;
            sizes = small;
            codes = λ i. by i (dec_lt i p.terms);
            past = λ i h. first.consistent.none i (omega (arith, views.terms));
            room = omega (arith, extent_monotone sh formed (at given) (ceilings sh) (λ s h. omega (arith, views.ceiling s h, allowed.ceiling s (omega (arith, views.sorts)))));
          }
        where
          small : (s : ℕ) → s < length sh.bounds → at given s ≤ 16
          small s h = omega (arith, small_sizes s (omega (arith, views.sorts)))

          by : (i : ℕ) → Dec (i < p.terms) → c i < 16
          by i (yes h) = omega (arith, first.consistent.range i h, small (at p.sort i) (omega (arith, searchable.sorted.sort i h, views.sorts)))
          by i (no h) = omega (arith, first.consistent.none i (omega arith))
