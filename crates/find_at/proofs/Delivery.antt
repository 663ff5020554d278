-- Demand 3 of the bytes among the candidates of given sizes. The bytes in front are those of the answer's structure; decoded they give a structure alike (the
-- round trip), and so all that holds of the answer holds of what was written.
use Prim.Native.Nat.{ℕ, ◌≤◌, ◌<◌}
use native.Mathlib.Omega.{arith}
use mathlib.Core.Path.{◌≡◌, refl, ap, sym, ◌∙◌}
use mathlib.Core.Logic.{inl, inr}
use mathlib.Core.List.{List}
use mathlib.Core.Option.{Option, none, some}
use lib.ListN.{length, take, drop, length-append, get_or-append}
use Rattle.std.specs.Prelude.{Ok, Err}
use Rattle.prelude.specs.Causes.{refusal}
use Rattle.prelude.specs.Lists.{at, fronted}
use Rattle.logic.specs.Sheet.{Sheet}
use Rattle.logic.specs.WellFormed.{WellFormed}
use Rattle.logic.proofs.Meaning.{length_codes}
use Rattle.layout.specs.Layout.{accepted, reading}
use Rattle.layout.proofs.Answers.{accepted_well_formed}
use Rattle.tables.specs.Layout.{extent, decoded, encoded}
use Rattle.tables.proofs.Tables.{length_encoded, encoded_size, encoded_laid, extent_same}
use Rattle.answer.specs.Answer.{Entry, answer_at, sum, structure_of}
use Rattle.answer.specs.Demand.{CandidateSizes, AnswersAt, Unforced}
use Rattle.prelude.proofs.Fronted.{front_fronted, rest_fronted}
use Rattle.answer.proofs.Lists.{found_or_none}
use Rattle.answer.proofs.Demand.{demand_at}
use Rattle.answer.proofs.Coincide.{coincide_answers_at, coincide_unforced, round_trip}
use Rattle.find_at.specs.Found.{ceilings, answering}
use Rattle.find_at.specs.FindAt.{finding_at, codes_after_at, tables_after_at}
use Rattle.find_at.specs.Promise.{DeliveredAt, PromisedAt, codes_written, tables_written}
use Rattle.find_at.proofs.Outcomes.{not_short, outcome_at_long}
use Rattle.find_at.proofs.Buffers.{ExitAt, exit_at}

-- WHAT STANDS IN THE BUFFERS once an answer of the sizes z was written in front of both
module _ (sh : Sheet) (w : WellFormed sh) (z : List ℕ) (e : Entry) (given : AnswersAt sh z e (structure_of sh e)) (cs ts cs' ts' : List ℕ) (codesAre : cs' ≡ fronted e.codes cs) (tablesAre : ts' ≡ fronted (encoded (structure_of sh e) sh) ts) where
  abbrev bytes : List ℕ
  bytes = encoded (structure_of sh e) sh

  long : length e.codes ≡ length sh.terms
  long = ap length (sym given.codes) ∙ length_codes (structure_of sh e) sh

  -- the sizes in front of the buffer are the answer's
  own_sizes : (i : ℕ) → i < length sh.bounds → at ts' i ≡ (structure_of sh e).size i
  own_sizes i h =
      ap (λ (l : List ℕ). at l i) tablesAre
      ∙ get_or-append bytes (drop (length bytes) ts) 0 i (omega (arith, length_encoded (structure_of sh e) sh w))
      ∙ encoded_size (structure_of sh e) sh w i h

  -- the tables in front of the buffer are as long as their own sizes say
  pub extended : extent sh (at ts') ≡ length bytes
  extended = extent_same sh w (at ts') (structure_of sh e).size own_sizes ∙ sym (length_encoded (structure_of sh e) sh w)

  -- sizes of at most 16 codes, and no table past the buffer's end
  pub whole : ((i : ℕ) → i < length sh.bounds → at ts' i ≤ 16) × (extent sh (at ts') ≤ length ts')
  whole = (
    λ i h. omega (arith, own_sizes i h, given.candidate.bounded.ceiling i h, (w.ceiling i h).1),
    omega (arith, extended, ap length tablesAre, length-append bytes (drop (length bytes) ts)),
  )

  pub written : tables_written sh ts' ≡ bytes
  written = ap (λ (k : ℕ). take k ts') extended ∙ ap (take (length bytes)) tablesAre ∙ front_fronted bytes ts

  pub told : codes_written sh cs' ≡ e.codes
  told = ap (λ (k : ℕ). take k cs') (sym long) ∙ ap (take (length e.codes)) codesAre ∙ front_fronted e.codes cs

  pub delivered : Unforced sh (structure_of sh e) → DeliveredAt sh z (sum e.sizes) (codes_written sh cs') (tables_written sh ts')
  delivered unforced =
      let g : AnswersAt sh z e (decoded sh bytes) = coincide_answers_at sh w (structure_of sh e) (decoded sh bytes) (round_trip sh w (structure_of sh e)) z e given in
      rw (written, told)
      (record {
        laid = encoded_laid (structure_of sh e) sh w given.candidate.interprets (λ i h. omega (arith, given.candidate.bounded.ceiling i h, (w.ceiling i h).1));
        candidate = g.candidate;
        satisfies = g.satisfies;
        sizes = g.sizes;
        sum = sym g.sum;
        codes = sym g.codes;
        first = λ N c s same. rw (← g.codes) (g.first N c s same);
        unreached = coincide_unforced sh w (structure_of sh e) (decoded sh bytes) (round_trip sh w (structure_of sh e)) given.candidate.interprets unforced;
      })

  pub behind_codes_lem : drop (length sh.terms) cs' ≡ drop (length sh.terms) cs
  behind_codes_lem = rw (← long) (ap (drop (length e.codes)) codesAre ∙ rest_fronted e.codes cs)

  pub behind_tables_lem : drop (extent sh (at ts')) ts' ≡ drop (extent sh (at ts')) ts
  behind_tables_lem =
      ap (λ (k : ℕ). drop k ts') extended
      ∙ ap (drop (length bytes)) tablesAre
      ∙ rest_fronted bytes ts
      ∙ ap (λ (k : ℕ). drop k ts) (sym extended)

module _ (sh : Sheet) (w : WellFormed sh) (s z cs ts : List ℕ) (reads : reading s ≡ accepted sh) (right : CandidateSizes sh z) (codes_fit : length sh.terms ≤ length cs) (tables_fit : extent sh (ceilings sh) ≤ length ts) where
  -- what the answer at these sizes makes of the call
  pub exits_at : (a : Option Entry) → answer_at sh z ≡ a → ExitAt s z cs ts (answering sh a)
  exits_at a q =
      exit_at s z cs ts (answering sh a)
      (outcome_at_long s z (length cs) (length ts) sh reads (not_short sh (length cs) (length ts) codes_fit tables_fit) right a q)

  -- what was found is the answer at these sizes
  found_is_at : (n : ℕ) → finding_at s z (length cs) (length ts) ≡ Ok n → (e : Entry) × (answer_at sh z ≡ some e) × (sum e.sizes ≡ n)
  found_is_at n f = step (answer_at sh z) refl
    where
      step : (a : Option Entry) → answer_at sh z ≡ a → (e : Entry) × (answer_at sh z ≡ some e) × (sum e.sizes ≡ n)
      step none q = let r : Err (refusal 11 0) ≡ Ok n = sym (exits_at none q).result ∙ f in cc
      step (some e) q = (e, q, (let r : Ok (sum e.sizes) ≡ Ok n = sym (exits_at (some e) q).result ∙ f in cc))

  refused_none_at : finding_at s z (length cs) (length ts) ≡ Err (refusal 11 0) → answer_at sh z ≡ none
  refused_none_at f = step (answer_at sh z) refl
    where
      step : (a : Option Entry) → answer_at sh z ≡ a → answer_at sh z ≡ none
      step none q = q
      step (some e) q = let r : Ok (sum e.sizes) ≡ Err (refusal 11 0) = sym (exits_at (some e) q).result ∙ f in cc

  module _ (e : Entry) (q : answer_at sh z ≡ some e) where
    answers : AnswersAt sh z e (structure_of sh e)
    answers = (demand_at sh w z right).finds e q

    x : ExitAt s z cs ts (answering sh (some e))
    x = exits_at (some e) q

    delivered_at : DeliveredAt sh z (sum e.sizes) (codes_written sh (codes_after_at s z cs ts)) (tables_written sh (tables_after_at s z cs ts))
    delivered_at = delivered sh w z e answers cs ts (codes_after_at s z cs ts) (tables_after_at s z cs ts) x.codes x.tables ((demand_at sh w z right).unreached e q)

    behind_at : (drop (length sh.terms) (codes_after_at s z cs ts) ≡ drop (length sh.terms) cs) × (drop (extent sh (at (tables_after_at s z cs ts))) (tables_after_at s z cs ts) ≡ drop (extent sh (at (tables_after_at s z cs ts))) ts)
    behind_at = (
      behind_codes_lem sh w z e answers cs ts (codes_after_at s z cs ts) (tables_after_at s z cs ts) x.codes x.tables,
      behind_tables_lem sh w z e answers cs ts (codes_after_at s z cs ts) (tables_after_at s z cs ts) x.codes x.tables,
    )

  promised_at : PromisedAt sh s z cs ts
  promised_at =
      record {
        refuses = (λ f. (demand_at sh w z right).refuses.0 (refused_none_at f), λ h. (exits_at none ((demand_at sh w z right).refuses.1 h)).result);
        either = elim (found_or_none (answer_at sh z)) [ inl q ↦ inl (exits_at none q).result | inr r ↦ inr (sum r.0.sizes, (exits_at (some r.0) r.1).result) ];
        delivers = λ n f. let r : _ = found_is_at n f in rw (← r.2) (delivered_at r.0 r.1);
        behind_codes = λ n f. let r : _ = found_is_at n f in (behind_at r.0 r.1).0;
        behind_tables = λ n f. let r : _ = found_is_at n f in (behind_at r.0 r.1).1;
      }

-- THEOREM: demand 3 at given sizes, of every call on an accepted sheet with sizes that a candidate may have and buffers that suffice
pub accepted_promised_at : (s z cs ts : List ℕ) (sh : Sheet) → reading s ≡ accepted sh → CandidateSizes sh z → length sh.terms ≤ length cs → extent sh (ceilings sh) ≤ length ts → PromisedAt sh s z cs ts
accepted_promised_at s z cs ts sh q = promised_at sh (accepted_well_formed s sh q) s z cs ts q
