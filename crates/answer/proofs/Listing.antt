-- The listings hold exactly the sizes in bounds, and at given sizes the codes in range, the earliest first; so the answer at given sizes has the
-- earliest codes that solve the sheet, the answer has the earliest sizes with such codes, and there is none exactly when nothing solves.
use Prim.Native.Nat.{ℕ, suc, ◌+◌, ◌≤◌, ◌<◌}
use mathlib.Core.Path.{◌≡◌, refl, ap, ap₂, sym, ◌∙◌, subst}
use mathlib.Core.Bool.{Bool, true}
use mathlib.Core.Logic.{◌⊎◌, inl, inr}
use mathlib.Core.List.{List}
use mathlib.Core.Option.{Option, none, some}
use lib.ListN.{length}
use lib.Dec.{eqb}
use native.Mathlib.Omega.{arith}
use borrow.Author.Tests.{eqb-true, eq-eqb}
use Rattle.logic.specs.Sheet.{Sheet, term_at, sort_at, bound_at, no_bound, no_term}
use Rattle.logic.specs.WellFormed.{WellFormed}
use Rattle.prelude.specs.Lists.{at, sum_to, firsts, run}
use Rattle.prelude.proofs.Lists.{length_firsts, at_firsts, firsts_at, sum_to_same}
use Rattle.logic.specs.Structure.{Bounded}
use Rattle.logic.specs.Order.{Before}
use Rattle.logic.specs.Box.{box}
use Rattle.logic.proofs.Orders.{before_asym, before_irrefl}
use Rattle.answer.specs.Answer.{Entry, entry_of, sum, size_range, code_range, size_ranges, code_ranges, sizes_of_sum, sizes_in_order, entries_at, solves, answer_at, answer}
use Rattle.answer.specs.Demand.{CandidateSizes}
use Rattle.answer.proofs.Lists
use Rattle.answer.proofs.Lists.{Mem, Sorted, First, FirstGiven}
use Rattle.answer.proofs.Boxes.{InBox, InRange, mem_run, run_mem, sorted_run, box_mem, mem_box, sorted_box, box_long, box_at, at_box}
use Rattle.answer.proofs.Solving.{Solution, solved, solving, solution_same}

-- sizes in bounds, with codes in range that solve the sheet
pub record Fits (sh : Sheet) (size c : ℕ → ℕ) : Type 0 where
  pub bounded : Bounded sh size
  pub range : (i : ℕ) → i < length sh.terms → c i < size (sort_at sh i)
  pub solution : Solution sh c

-- The listing of sizes holds exactly the sizes that a candidate may have, the earliest first.
record Listed (sh : Sheet) (z : List ℕ) : Type 0 where
  sizes : InBox (size_ranges sh) z
  total : sum z ≤ sh.total

abbrev of_sum_lem : ℕ → List ℕ → Bool
of_sum_lem n sizes = eqb (sum sizes) n

listed_mem : (sh : Sheet) (z : List ℕ) → Listed sh z → Mem z (sizes_in_order sh)
listed_mem sh z l =
    Lists.mem_each (sizes_of_sum sh) (sum z) z (run 0 (suc sh.total))
    (mem_run 0 (suc sh.total) (sum z) (omega arith) (omega (arith, l.total)))
    (Lists.mem_keep (of_sum_lem (sum z)) z (box (size_ranges sh)) (box_mem (size_ranges sh) z l.sizes) (eq-eqb (sum z) (sum z) refl))

of_sum : (sh : Sheet) (n : ℕ) (z : List ℕ) → Mem z (sizes_of_sum sh n) → InBox (size_ranges sh) z × (sum z ≡ n)
of_sum sh n z m =
    let k : Mem z (box (size_ranges sh)) × (of_sum_lem n z ≡ true) = Lists.keep_mem (of_sum_lem n) z (box (size_ranges sh)) m in
    (mem_box (size_ranges sh) z k.0, eqb-true (sum z) n k.1)

mem_listed : (sh : Sheet) (z : List ℕ) → Mem z (sizes_in_order sh) → Listed sh z
mem_listed sh z m =
    let a : (n : ℕ) × Mem n (run 0 (suc sh.total)) × Mem z (sizes_of_sum sh n) = Lists.each_mem (sizes_of_sum sh) z (run 0 (suc sh.total)) m in
    let s : InBox (size_ranges sh) z × (sum z ≡ a.0) = of_sum sh a.0 z a.2 in
    let r : (0 ≤ a.0) × (a.0 < 0 + suc sh.total) = run_mem 0 (suc sh.total) a.0 a.1 in
    record { sizes = s.0; total = omega (arith, s.1) }

-- of two lists of sizes, y comes sooner: a smaller sum, or of equal sums the one that comes first
abbrev SizesSooner : List ℕ → List ℕ → Type 0
SizesSooner y z = (sum y < sum z) ⊎ ((sum y ≡ sum z) × Before y z)

sorted_sizes : (sh : Sheet) → Sorted SizesSooner (sizes_in_order sh)
sorted_sizes sh =
    Lists.sorted_each (λ x y. x < y) SizesSooner (sizes_of_sum sh) (run 0 (suc sh.total)) (sorted_run 0 (suc sh.total))
    (λ n m. one_sum n)
    (λ n k mn mk l y z my mz. inl (omega (arith, (of_sum sh n y my).1, (of_sum sh k z mz).1)))
  where
    ordered : (n : ℕ) → Sorted Before (sizes_of_sum sh n)
    ordered n = Lists.sorted_keep Before (of_sum_lem n) (box (size_ranges sh)) (sorted_box (size_ranges sh))

    one_sum : (n : ℕ) → Sorted SizesSooner (sizes_of_sum sh n)
    one_sum n = Lists.sorted_more Before SizesSooner (sizes_of_sum sh n) (λ y z my mz b. inr ((of_sum sh n y my).1 ∙ sym (of_sum sh n z mz).1, b)) (ordered n)

-- At given sizes the entries are all codes in range, the codes that come first standing first.
abbrev entry : List ℕ → List ℕ → Entry
entry sizes codes = record { sizes = sizes; codes = codes }

codes_mem : (sh : Sheet) (z cs : List ℕ) → InBox (code_ranges sh z) cs → Mem (entry z cs) (entries_at sh z)
codes_mem sh z cs i = Lists.mem_map (entry z) cs (box (code_ranges sh z)) (box_mem (code_ranges sh z) cs i)

of_sizes : (sh : Sheet) (z : List ℕ) (e : Entry) → Mem e (entries_at sh z) → (e.sizes ≡ z) × InBox (code_ranges sh z) e.codes
of_sizes sh z e m =
    let q : (cs : List ℕ) × Mem cs (box (code_ranges sh z)) × (e ≡ entry z cs) = Lists.map_mem (entry z) e (box (code_ranges sh z)) m in
    (ap (λ (d : Entry). d.sizes) q.2, rw (ap (λ (d : Entry). d.codes) q.2) (mem_box (code_ranges sh z) q.0 q.1))

abbrev CodesSooner : Entry → Entry → Type 0
CodesSooner d e = Before d.codes e.codes

sorted_entries : (sh : Sheet) (z : List ℕ) → Sorted CodesSooner (entries_at sh z)
sorted_entries sh z = Lists.sorted_map Before CodesSooner (entry z) (λ x y b. b) (box (code_ranges sh z)) (sorted_box (code_ranges sh z))

-- of equal sums, d comes ahead of e: the sizes that come first; of equal sizes, the codes that come first
abbrev pub Ahead : Entry → Entry → Type 0
Ahead d e = Before d.sizes e.sizes ⊎ ((d.sizes ≡ e.sizes) × Before d.codes e.codes)

-- d comes sooner than e: a smaller sum, or of equal sums ahead
abbrev pub Sooner : Entry → Entry → Type 0
Sooner d e = (sum d.sizes < sum e.sizes) ⊎ ((sum d.sizes ≡ sum e.sizes) × Ahead d e)

ahead_asym : (d e : Entry) → Ahead d e → Ahead e d → ⊥
ahead_asym d e (inl p) (inl q) = before_asym d.sizes e.sizes p q
ahead_asym d e (inl p) (inr q) = before_irrefl d.sizes (rw q.0 at p)
ahead_asym d e (inr p) (inl q) = before_irrefl e.sizes (rw p.0 at q)
ahead_asym d e (inr p) (inr q) = before_asym d.codes e.codes p.1 q.1

pub sooner_asym : (d e : Entry) → Sooner d e → Sooner e d → ⊥
sooner_asym d e (inl p) (inl q) = omega arith
sooner_asym d e (inl p) (inr q) = omega (arith, q.0)
sooner_asym d e (inr p) (inl q) = omega (arith, p.0)
sooner_asym d e (inr p) (inr q) = ahead_asym d e p.1 q.1

-- What fits has sizes in the listing, and codes in range that solve.
pub sum_firsts : (n : ℕ) (f : ℕ → ℕ) → sum (firsts n f) ≡ sum_to n f
sum_firsts n f = ap (λ (k : ℕ). sum_to k (at (firsts n f))) (length_firsts n f) ∙ sum_to_same n (at (firsts n f)) f (at_firsts n f)

module _ (sh : Sheet) (w : WellFormed sh) (size c : ℕ → ℕ) (f : Fits sh size c) where
  n : ℕ
  n = length sh.bounds

  m : ℕ
  m = length sh.terms

  fits_listed : Listed sh (firsts (length sh.bounds) size)
  unfolding n
  fits_listed =
      record {
        sizes = at_box size_range no_bound sh.bounds (firsts n size) (length_firsts n size) in_bounds_lem;
        total = omega (arith, sum_firsts n size, f.bounded.total);
      }
    where
      in_bounds_lem : (s : ℕ) → s < n → InRange (size_range (bound_at sh s)) (at (firsts n size) s)
      in_bounds_lem s h = rw (at_firsts n size s h) (omega (arith, f.bounded.floor s h, f.bounded.ceiling s h))

  fits_in_range : InBox (code_ranges sh (firsts (length sh.bounds) size)) (firsts (length sh.terms) c)
  unfolding n m
  fits_in_range = at_box (code_range sh (firsts n size)) no_term sh.terms (firsts m c) (length_firsts m c) in_range
    where
      in_range : (i : ℕ) → i < m → InRange (code_range sh (firsts n size) (term_at sh i)) (at (firsts m c) i)
      in_range i h =
          let there : sort_at sh i < n = w.result (term_at sh i).symbol (w.symbol i h) in
          rw (at_firsts m c i h, at_firsts n size (sort_at sh i) there) (omega (arith, f.range i h))

  fits_solves : solves sh (firsts (length sh.terms) c) ≡ true
  fits_solves =
      solving sh (firsts (length sh.terms) c)
      (solution_same sh w c (at (firsts (length sh.terms) c)) (λ i h. sym (at_firsts (length sh.terms) c i h)) f.solution)

-- sizes that a candidate may have are those of the listing
listed_candidate : (sh : Sheet) (z : List ℕ) → Listed sh z → CandidateSizes sh z
listed_candidate sh z l =
    record {
      many = long;
      bounded = record {
        floor = λ s h. (sized s h).0;
        ceiling = λ s h. omega (arith, (sized s h).0, (sized s h).1);
        total = subst (λ (k : ℕ). sum_to k (at z) ≤ sh.total) long l.total;
      };
    }
  where
    long : length z ≡ length sh.bounds
    long = box_long size_range no_bound sh.bounds z l.sizes

    sized : (s : ℕ) → s < length sh.bounds → InRange (size_range (bound_at sh s)) (at z s)
    sized = box_at size_range no_bound sh.bounds z l.sizes

-- THE ANSWER AT GIVEN SIZES: it has these sizes, and of the codes in range that solve the sheet the first
pub record ChosenAt (sh : Sheet) (z : List ℕ) (e : Entry) : Type 0 where
  pub sizes : e.sizes ≡ z
  pub fits : Fits sh (at e.sizes) (at e.codes)
  pub codes : firsts (length sh.terms) (at e.codes) ≡ e.codes
  pub first : (size c : ℕ → ℕ) → Fits sh size c → firsts (length sh.bounds) size ≡ z → (firsts (length sh.terms) c ≡ e.codes) ⊎ Before e.codes (firsts (length sh.terms) c)

module _ (sh : Sheet) (w : WellFormed sh) (z : List ℕ) where
  pub chosen_at : CandidateSizes sh z → (e : Entry) → answer_at sh z ≡ some e → ChosenAt sh z e
  unfolding answer_at
  chosen_at k e q =
      let f : First CodesSooner (λ (d : Entry). solves sh d.codes) (entries_at sh z) e = Lists.first_is CodesSooner (λ (d : Entry). solves sh d.codes) (entries_at sh z) e (sorted_entries sh z) q in
      let o : (e.sizes ≡ z) × InBox (code_ranges sh z) e.codes = of_sizes sh z e f.member in
      record {
        sizes = o.0;
        fits = rw o.0 (record {
          bounded = k.bounded;
          range = λ i h. omega (arith, (box_at (code_range sh z) no_term sh.terms e.codes o.1 i h).1);
          solution = solved sh e.codes f.passes;
        });
        codes = firsts_at (length sh.terms) e.codes (box_long (code_range sh z) no_term sh.terms e.codes o.1);
        first = λ size c g same.
            elim (f.least (entry z (firsts (length sh.terms) c)) (codes_mem sh z (firsts (length sh.terms) c) (rw same at (fits_in_range sh w size c g))) (fits_solves sh w size c g)) [
              | inl p ↦ inl (ap (λ (d : Entry). d.codes) p)
              | inr b ↦ inr b
            ];
      }

  pub none_at : answer_at sh z ≡ none → (size c : ℕ → ℕ) → Fits sh size c → firsts (length sh.bounds) size ≡ z → ⊥
  unfolding answer_at
  none_at q size c f same =
      Lists.none_passes (λ (d : Entry). solves sh d.codes) (entries_at sh z) q (entry z (firsts (length sh.terms) c))
      (codes_mem sh z (firsts (length sh.terms) c) (rw same at (fits_in_range sh w size c f))) (fits_solves sh w size c f)

  pub nothing_at : CandidateSizes sh z → ((size c : ℕ → ℕ) → Fits sh size c → firsts (length sh.bounds) size ≡ z → ⊥) → answer_at sh z ≡ none
  nothing_at k h =
      elim (Lists.found_or_none (answer_at sh z)) [
        | inl q ↦ q
        | inr r ↦
            let f = chosen_at k r.0 r.1 in
            absurd (h (at r.0.sizes) (at r.0.codes) f.fits (ap (λ (l : List ℕ). firsts (length sh.bounds) (at l)) f.sizes ∙ firsts_at (length sh.bounds) z k.many))
      ]

-- codes that fit, with none that fit before them, are the answer at their sizes
pub soonest_at : (sh : Sheet) → WellFormed sh → (size c : ℕ → ℕ) → Fits sh size c → ((size' c' : ℕ → ℕ) → Fits sh size' c' → firsts (length sh.bounds) size' ≡ firsts (length sh.bounds) size → Before (firsts (length sh.terms) c') (firsts (length sh.terms) c) → ⊥) → answer_at sh (firsts (length sh.bounds) size) ≡ some (entry_of sh size c)
soonest_at sh w size c f h =
    elim (Lists.found_or_none (answer_at sh z)) [
      | inl q ↦ absurd (none_at sh w z q size c f refl)
      | inr r ↦ r.1 ∙ ap {B = Option Entry} some (same r.0 (chosen_at sh w z (listed_candidate sh z (fits_listed sh w size c f)) r.0 r.1))
    ]
  where
    z : List ℕ
    z = firsts (length sh.bounds) size

    same : (e : Entry) → ChosenAt sh z e → e ≡ entry_of sh size c
    same e k =
        elim (k.first size c f refl) [
          | inl q ↦ ap₂ entry k.sizes (sym q)
          | inr b ↦
              absurd (h (at e.sizes) (at e.codes) k.fits (ap (λ (l : List ℕ). firsts (length sh.bounds) (at l)) k.sizes ∙ firsts_at (length sh.bounds) z (length_firsts (length sh.bounds) size))
              (rw k.codes b))
        ]

-- THE ANSWER is the answer at its own sizes, which are the first that have one
record Given (sh : Sheet) (e : Entry) : Type 0 where
  listed : Listed sh e.sizes
  own : answer_at sh e.sizes ≡ some e
  least : (z : List ℕ) → Listed sh z → (d : Entry) → answer_at sh z ≡ some d → (z ≡ e.sizes) ⊎ SizesSooner e.sizes z

given : (sh : Sheet) → WellFormed sh → (e : Entry) → answer sh ≡ some e → Given sh e
unfolding answer
given sh w e q =
    let g : FirstGiven SizesSooner (answer_at sh) (sizes_in_order sh) e = Lists.first_given_lem SizesSooner (answer_at sh) (sizes_in_order sh) e (sorted_sizes sh) q in
    let l : Listed sh g.from = mem_listed sh g.from g.member in
    let same : e.sizes ≡ g.from = (chosen_at sh w g.from (listed_candidate sh g.from l) e g.given).sizes in
    record {
      listed = rw same l;
      own = ap (answer_at sh) same ∙ g.given;
      least = λ z m d r. subst (λ (y : List ℕ). (z ≡ y) ⊎ SizesSooner y z) (sym same) (g.least z (listed_mem sh z m) d r);
    }

pub answer_at_lem : (sh : Sheet) → WellFormed sh → (e : Entry) → answer sh ≡ some e → answer_at sh e.sizes ≡ some e
answer_at_lem sh w e q = (given sh w e q).own

-- and its sizes are sizes that a candidate may have
pub answer_sizes : (sh : Sheet) → WellFormed sh → (e : Entry) → answer sh ≡ some e → CandidateSizes sh e.sizes
answer_sizes sh w e q = listed_candidate sh e.sizes (given sh w e q).listed

-- the entry that is the answer
pub record Chosen (sh : Sheet) (e : Entry) : Type 0 where
  pub fits : Fits sh (at e.sizes) (at e.codes)
  pub sizes : firsts (length sh.bounds) (at e.sizes) ≡ e.sizes
  pub codes : firsts (length sh.terms) (at e.codes) ≡ e.codes
  pub first : (size c : ℕ → ℕ) → Fits sh size c → (entry_of sh size c ≡ e) ⊎ Sooner e (entry_of sh size c)

pub chosen : (sh : Sheet) → WellFormed sh → (e : Entry) → answer sh ≡ some e → Chosen sh e
chosen sh w e q =
    record {
      fits = k.fits;
      sizes = firsts_at (length sh.bounds) e.sizes (answer_sizes sh w e q).many;
      codes = k.codes;
      first = λ size c f. by size c f (Lists.found_or_none (answer_at sh (firsts (length sh.bounds) size)));
    }
  where
    k : ChosenAt sh e.sizes e
    k = chosen_at sh w e.sizes (answer_sizes sh w e q) e (answer_at_lem sh w e q)

    -- of the same sizes, the codes decide
    alike : (size c : ℕ → ℕ) → Fits sh size c → firsts (length sh.bounds) size ≡ e.sizes → (entry_of sh size c ≡ e) ⊎ Sooner e (entry_of sh size c)
    alike size c f same =
        elim (k.first size c f same) [
          | inl p ↦ inl (ap₂ entry same p)
          | inr b ↦ inr (inr (ap sum (sym same), inr (sym same, b)))
        ]

    by : (size c : ℕ → ℕ) → Fits sh size c → (answer_at sh (firsts (length sh.bounds) size) ≡ none) ⊎ ((d : Entry) × (answer_at sh (firsts (length sh.bounds) size) ≡ some d)) → (entry_of sh size c ≡ e) ⊎ Sooner e (entry_of sh size c)
    by size c f (inl r) = absurd (none_at sh w (firsts (length sh.bounds) size) r size c f refl)
    by size c f (inr d) =
        elim ((given sh w e q).least (firsts (length sh.bounds) size) (fits_listed sh w size c f) d.0 d.1) [
          | inl same ↦ alike size c f same
          | inr later ↦ elim later [ inl l ↦ inr (inl l) | inr b ↦ inr (inr (b.0, inl b.1)) ]
        ]

pub none_fits : (sh : Sheet) → WellFormed sh → answer sh ≡ none → (size c : ℕ → ℕ) → Fits sh size c → ⊥
unfolding answer
none_fits sh w q size c f =
    none_at sh w (firsts (length sh.bounds) size)
    (Lists.none_given (answer_at sh) (sizes_in_order sh) q (firsts (length sh.bounds) size) (listed_mem sh (firsts (length sh.bounds) size) (fits_listed sh w size c f))) size c f refl

pub nothing_fits : (sh : Sheet) → WellFormed sh → ((size c : ℕ → ℕ) → Fits sh size c → ⊥) → answer sh ≡ none
nothing_fits sh w h =
    elim (Lists.found_or_none (answer sh)) [
      | inl q ↦ q
      | inr r ↦ absurd (h (at r.0.sizes) (at r.0.codes) (chosen sh w r.0 r.1).fits)
    ]

-- a sheet that no codes solve has no answer
pub unsolvable : (sh : Sheet) → ((c : ℕ → ℕ) → Solution sh c → ⊥) → answer sh ≡ none
unfolding answer answer_at
unsolvable sh h =
    elim (Lists.found_or_none (answer sh)) [
      | inl q ↦ q
      | inr r ↦
          let g : FirstGiven SizesSooner (answer_at sh) (sizes_in_order sh) r.0 = Lists.first_given_lem SizesSooner (answer_at sh) (sizes_in_order sh) r.0 (sorted_sizes sh) r.1 in
          absurd (h (at r.0.codes) (solved sh r.0.codes
          (Lists.first_is CodesSooner (λ (d : Entry). solves sh d.codes) (entries_at sh g.from) r.0 (sorted_entries sh g.from) g.given).passes))
    ]
