-- Demand 3 of the bytes: what a call gives back and leaves in the buffers is the answer of the sheet, and only that. The answer is that at its own
-- sizes, so what stands in the buffers is known from find_at; that every other candidate comes no earlier is known of the answer.
use Prim.Native.Nat.{ℕ, ◌≤◌, ◌<◌}
use mathlib.Core.Path.{◌≡◌, refl, ap, sym, ◌∙◌}
use mathlib.Core.Logic.{◌⊎◌, inl, inr}
use mathlib.Core.List.{List}
use mathlib.Core.Option.{Option, none, some}
use lib.ListN.{length, drop}
use native.Mathlib.Decide.{dec_lt}
use native.Mathlib.Omega.{arith}
use Rattle.prelude.specs.Causes.{refusal}
use Rattle.std.specs.Prelude.{Ok, Err}
use Rattle.logic.specs.Sheet.{Sheet}
use Rattle.logic.specs.Order.{sizes_of}
use Rattle.logic.specs.WellFormed.{WellFormed}
use Rattle.prelude.specs.Lists.{at}
use Rattle.layout.specs.Layout.{Reading, accepted, reading}
use Rattle.layout.proofs.Answers.{accepted_well_formed}
use Rattle.tables.specs.Layout.{extent, decoded, encoded}
use Rattle.tables.proofs.Tables.{extent_at_ceilings, length_encoded}
use Rattle.judge.specs.Judge.{judged_of, judgement}
use Rattle.tables.specs.declared.Judgement.TheVariants.{Fits}
use Rattle.judge.proofs.Judged.{judged_says}
use Rattle.answer.specs.Answer.{Entry, answer_at, answer, sum, structure_of, unforced}
use Rattle.answer.specs.Demand.{Answers, AnswersBy, AnswersAt, CandidateSizes}
use Rattle.answer.proofs.Lists.{found_or_none}
use Rattle.answer.proofs.Demand.{demand, demand_at}
use Rattle.answer.proofs.Rules.{by_unforced}
use Rattle.answer.proofs.Listing.{answer_at_lem, answer_sizes, sum_firsts}
use Rattle.answer.proofs.Coincide.{coincide_answers, round_trip}
use Rattle.find_at.specs.Found.{turned_down, answered, ceilings, answering}
use Rattle.find_at.specs.Promise.{DeliveredAt, codes_written, tables_written}
use Rattle.find_at.proofs.Delivery as atSizes
use Rattle.finder.specs.Find.{outcome, finding, codes_after, tables_after}
use Rattle.finder.specs.Promise.{Delivered, Promised}
use Rattle.finder.proofs.Outcomes.{outcome_short, outcome_long}
use Rattle.finder.proofs.Buffers.{Exit, exit}

module _ (sh : Sheet) (w : WellFormed sh) (s cs ts : List ℕ) (reads : reading s ≡ accepted sh) (codes_fit : length sh.terms ≤ length cs) (tables_fit : extent sh (ceilings sh) ≤ length ts) where
  -- what the answer makes of the call
  pub exits : (a : Option Entry) → answer sh ≡ a → Exit s cs ts (answering sh a)
  exits a q = exit s cs ts (answering sh a) (outcome_long s sh a (length cs) (length ts) reads codes_fit tables_fit q)

  module _ (e : Entry) (q : answer sh ≡ some e) where
    -- the answer is that at its own sizes
    own : answer_at sh e.sizes ≡ some e
    own = answer_at_lem sh w e q

    right : CandidateSizes sh e.sizes
    right = answer_sizes sh w e q

    given : AnswersAt sh e.sizes e (structure_of sh e)
    given = (demand_at sh w e.sizes right).finds e own

    abbrev cs' : List ℕ
    cs' = codes_after s cs ts

    abbrev ts' : List ℕ
    ts' = tables_after s cs ts

    x : Exit s cs ts (answering sh (some e))
    x = exits (some e) q

    -- the tables in front of the buffer are as long as their own sizes say
    pub extended : extent sh (at ts') ≡ length (encoded (structure_of sh e) sh)
    extended = atSizes.extended sh w e.sizes e given cs ts cs' ts' x.codes x.tables

    tables_room : length (encoded (structure_of sh e) sh) ≤ length ts
    tables_room =
        omega (arith, length_encoded (structure_of sh e) sh w, extent_at_ceilings sh w (structure_of sh e).size given.candidate.bounded)

    whole : ((i : ℕ) → i < length sh.bounds → at ts' i ≤ 16) × (extent sh (at ts') ≤ length ts')
    whole = atSizes.whole sh w e.sizes e given cs ts cs' ts' x.codes x.tables

    pub written : tables_written sh ts' ≡ encoded (structure_of sh e) sh
    written = atSizes.written sh w e.sizes e given cs ts cs' ts' x.codes x.tables

    told : codes_written sh cs' ≡ e.codes
    told = atSizes.told sh w e.sizes e given cs ts cs' ts' x.codes x.tables

    -- what holds of it among the candidates of its sizes, and that every other candidate comes no earlier
    delivered : Delivered sh (sum e.sizes) (codes_written sh cs') (tables_written sh ts')
    delivered =
        let d : DeliveredAt sh e.sizes (sum e.sizes) (codes_written sh cs') (tables_written sh ts') = atSizes.delivered sh w e.sizes e given cs ts cs' ts' x.codes x.tables ((demand sh w).unreached e q) in
        let g : Answers sh e (decoded sh (encoded (structure_of sh e) sh)) = coincide_answers sh w (structure_of sh e) (decoded sh (encoded (structure_of sh e) sh)) (round_trip sh w (structure_of sh e)) e ((demand sh w).finds e q) in
        record {
          laid = d.laid;
          candidate = d.candidate;
          satisfies = d.satisfies;
          sum = d.sum;
          codes = d.codes;
          first = rw written g.first;
          unreached = d.unreached;
        }

    behind_codes_lem : drop (length sh.terms) cs' ≡ drop (length sh.terms) cs
    behind_codes_lem = atSizes.behind_codes_lem sh w e.sizes e given cs ts cs' ts' x.codes x.tables

    behind_tables_lem : drop (extent sh (at ts')) ts' ≡ drop (extent sh (at ts')) ts
    behind_tables_lem = atSizes.behind_tables_lem sh w e.sizes e given cs ts cs' ts' x.codes x.tables

  -- what was found is the answer
  found_is : (n : ℕ) → finding s (length cs) (length ts) ≡ Ok n → (e : Entry) × (answer sh ≡ some e) × (sum e.sizes ≡ n)
  found_is n f = step (answer sh) refl
    where
      step : (a : Option Entry) → answer sh ≡ a → (e : Entry) × (answer sh ≡ some e) × (sum e.sizes ≡ n)
      step none q = let r : Err (refusal 11 0) ≡ Ok n = sym (exits none q).result ∙ f in cc
      step (some e) q = (e, q, (let r : Ok (sum e.sizes) ≡ Ok n = sym (exits (some e) q).result ∙ f in cc))

  refused_none : finding s (length cs) (length ts) ≡ Err (refusal 11 0) → answer sh ≡ none
  refused_none f = step (answer sh) refl
    where
      step : (a : Option Entry) → answer sh ≡ a → answer sh ≡ none
      step none q = q
      step (some e) q = let r : Ok (sum e.sizes) ≡ Err (refusal 11 0) = sym (exits (some e) q).result ∙ f in cc

  -- demand 3 of the call
  pub promised : Promised sh s cs ts
  promised =
      record {
        refuses = (λ f. (demand sh w).refuses.0 (refused_none f), λ h. (exits none ((demand sh w).refuses.1 h)).result);
        either = elim (found_or_none (answer sh)) [ inl q ↦ inl (exits none q).result | inr r ↦ inr (sum r.0.sizes, (exits (some r.0) r.1).result) ];
        delivers = λ n f. let r : _ = found_is n f in rw (← r.2) (delivered r.0 r.1);
        behind_codes = λ n f. let r : _ = found_is n f in behind_codes_lem r.0 r.1;
        behind_tables = λ n f. let r : _ = found_is n f in behind_tables_lem r.0 r.1;
      }

-- THEOREM: demand 3 of every call on an accepted sheet with buffers that suffice
pub accepted_promised : (s cs ts : List ℕ) (sh : Sheet) → reading s ≡ accepted sh → length sh.terms ≤ length cs → extent sh (ceilings sh) ≤ length ts → Promised sh s cs ts
accepted_promised s cs ts sh q = promised sh (accepted_well_formed s sh q) s cs ts q

-- What is found and written does not depend on what the buffers held, nor on how long they are once they suffice.
pub record Same (sh : Sheet) (s cs ts cs' ts' : List ℕ) : Type 0 where
  pub result : finding s (length cs) (length ts) ≡ finding s (length cs') (length ts')
  pub codes : (n : ℕ) → finding s (length cs) (length ts) ≡ Ok n → codes_written sh (codes_after s cs ts) ≡ codes_written sh (codes_after s cs' ts')
  pub tables : (n : ℕ) → finding s (length cs) (length ts) ≡ Ok n → tables_written sh (tables_after s cs ts) ≡ tables_written sh (tables_after s cs' ts')

pub same : (sh : Sheet) → WellFormed sh → (s cs ts cs' ts' : List ℕ) → reading s ≡ accepted sh → length sh.terms ≤ length cs → extent sh (ceilings sh) ≤ length ts → length sh.terms ≤ length cs' → extent sh (ceilings sh) ≤ length ts' → Same sh s cs ts cs' ts'
same sh w s cs ts cs' ts' q h k h' k' =
    record {
      result = (exits sh w s cs ts q h k (answer sh) refl).result ∙ sym (exits sh w s cs' ts' q h' k' (answer sh) refl).result;
      codes = λ n f.
          let r : (e : Entry) × (answer sh ≡ some e) × (sum e.sizes ≡ n) = found_is sh w s cs ts q h k n f in
          told sh w s cs ts q h k r.0 r.1 ∙ sym (told sh w s cs' ts' q h' k' r.0 r.1);
      tables = λ n f.
          let r : (e : Entry) × (answer sh ≡ some e) × (sum e.sizes ≡ n) = found_is sh w s cs ts q h k n f in
          written sh w s cs ts q h k r.0 r.1 ∙ sym (written sh w s cs' ts' q h' k' r.0 r.1);
    }

-- the judge finds that delivered tables fit
pub judged_fits : (s : List ℕ) (sh : Sheet) (n : ℕ) (C T : List ℕ) → reading s ≡ accepted sh → Delivered sh n C T → judgement s T ≡ Ok Fits
unfolding judgement
judged_fits s sh n C T q d =
    ap (λ (r : Reading). judged_of r T) q ∙ (judged_says sh T (Ok Fits)).1 (d.laid, d.candidate, d.satisfies)

-- delivered tables answer the sheet by the rule `unforced`, with their own sizes and the delivered codes
pub delivered_by : (sh : Sheet) (n : ℕ) (C T : List ℕ) → Delivered sh n C T → AnswersBy unforced sh (record { sizes = sizes_of (decoded sh T) sh; codes = C }) (decoded sh T)
delivered_by sh n C T d =
    by_unforced sh (record { sizes = sizes_of (decoded sh T) sh; codes = C }) (decoded sh T)
    (record {
      candidate = d.candidate;
      satisfies = d.satisfies;
      sum = sym (sum_firsts (length sh.bounds) (decoded sh T).size);
      sizes = refl;
      codes = sym d.codes;
      first = d.first;
    })
    d.unreached

-- something is found only where both buffers suffice
module _ (s cs ts : List ℕ) (sh : Sheet) (n : ℕ) (reads : reading s ≡ accepted sh) (found : finding s (length cs) (length ts) ≡ Ok n) where
  not_short : (length cs < length sh.terms) ⊎ (length ts < extent sh (ceilings sh)) → ⊥
  not_short h =
      let r : Err (refusal 10 0) ≡ Ok n = sym (exit s cs ts (turned_down 10 0) (outcome_short s sh (length cs) (length ts) reads h)).result ∙ found in cc

  pub codes_fit_lem : length sh.terms ≤ length cs
  codes_fit_lem = elim (dec_lt (length cs) (length sh.terms)) [ yes h ↦ absurd (not_short (inl h)) | no h ↦ omega arith ]

  tables_fit_lem : extent sh (ceilings sh) ≤ length ts
  tables_fit_lem = elim (dec_lt (length ts) (extent sh (ceilings sh))) [ yes h ↦ absurd (not_short (inr h)) | no h ↦ omega arith ]

  formed : WellFormed sh
  formed = accepted_well_formed s sh reads

  is : (e : Entry) × (answer sh ≡ some e) × (sum e.sizes ≡ n)
  is = found_is sh formed s cs ts reads codes_fit_lem tables_fit_lem n found

  -- the entry that was found, and its sum
  pub found_entry : Entry
  found_entry = is.0

  found_answer : answer sh ≡ some found_entry
  unfolding found_entry
  found_answer = is.1

  pub found_sum : sum found_entry.sizes ≡ n
  unfolding found_entry
  found_sum = is.2

  pub found_outcome : outcome s (length cs) (length ts) ≡ answered sh found_entry
  found_outcome = outcome_long s sh (some found_entry) (length cs) (length ts) reads codes_fit_lem tables_fit_lem found_answer

  -- it stands whole in front of both buffers
  pub found_codes : codes_written sh (codes_after s cs ts) ≡ found_entry.codes
  found_codes = told sh formed s cs ts reads codes_fit_lem tables_fit_lem found_entry found_answer

  pub found_tables : tables_written sh (tables_after s cs ts) ≡ encoded (structure_of sh found_entry) sh
  found_tables = written sh formed s cs ts reads codes_fit_lem tables_fit_lem found_entry found_answer

  pub found_whole : ((i : ℕ) → i < length sh.bounds → at (tables_after s cs ts) i ≤ 16) × (extent sh (at (tables_after s cs ts)) ≤ length (tables_after s cs ts))
  found_whole = whole sh formed s cs ts reads codes_fit_lem tables_fit_lem found_entry found_answer

  pub found_room : extent sh (at (tables_after s cs ts)) ≤ length ts
  found_room =
      omega (arith, extended sh formed s cs ts reads codes_fit_lem tables_fit_lem found_entry found_answer, tables_room sh formed s cs ts reads codes_fit_lem tables_fit_lem found_entry found_answer)
