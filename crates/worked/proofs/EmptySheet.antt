-- The sheet of zero bytes: what find does is its row of the worked sheets, and what judge says is a row of the theorem about every accepted sheet.
use Rattle.prelude.specs.Causes.{refusal}
use Rattle.std.specs.Prelude.{Result, Ok, Err}
use Rattle.prelude.specs.declared.refusal.Refusal.{Refusal}
use Prim.Native.Nat.{ℕ, ◌+◌, ◌-◌, ◌≤◌, ◌<◌}
use native.Mathlib.Decide.{dec_lt}
use native.Mathlib.Omega.{arith}
use mathlib.Core.Path.{◌≡◌, refl, ap, ◌∙◌}
use mathlib.Core.Bool.{Bool, true, false, cond}
use mathlib.Core.Logic.{◌↔◌}
use mathlib.Core.List.{List, [], ◌∷◌}
use mathlib.Core.Option.{some, or_else}
use lib.ListN.{length, replicate}
use lib.Dec.{eqb}
use borrow.Author.Tests.{le-ltb, ne_eqb}
use Rattle.prelude.specs.Lists.{at, fronted}
use Rattle.prelude.proofs.Tests.{and_first}
use Rattle.logic.specs.Structure.{Structure, codes}
use Rattle.layout.specs.Layout.{empty}
use Rattle.layout.proofs.Encoding.{nothing_read}
use Rattle.layout.proofs.Written.{encode_empty}
use Rattle.tables.specs.Layout.{decoded, WellLaid}
use Rattle.tables.specs.Tests.{well_laid, in_bounds}
use Rattle.tables.proofs.Laid.{well_laid_test}
use Rattle.tables.specs.declared.Judgement.TheVariants as judgements
use Rattle.judge.specs.Judge.{Says, judgement, stretch_of, table_of, nowhere}
use Rattle.judge.proofs.Judged.{judgement_says}
use Rattle.forced.specs.Forcing.{forcing}
use Rattle.group.proofs.Replies.{absent}
use Rattle.answer.specs.Answer.{answer_at, answer, solves}
use Rattle.answer.specs.Demand.{CandidateSizes}
use Rattle.answer.proofs.Demand.{accepted_demand}
use Rattle.sizes.specs.Sizing.{sized as Sizing·sized}
use Rattle.sizes.proofs.Outcomes.{Exit, exit, outcome_long as Sizing·outcome-long}
use Rattle.find_at.specs.Found.{answered, turned_down as Found·turnedDown, short as too_short}
use Rattle.find_at.specs.FindAt.{candidate_sizes, codes_after_at, tables_after_at}
use Rattle.find_at.proofs.Outcomes.{not_short, outcome_at_long, outcome_at_wrong}
use Rattle.find_at.proofs.Buffers.{ExitAt, exit_at}
use Rattle.bundle.specs.Bundle.{Alone, Left, most_sheets, parts_from, parts, summed, joined, summing, refusal as bundle_refusal, gives, bundling}
use Rattle.bundle.specs.Written.{bundle_of}
use Rattle.bundle.proofs.Smallest.{smallest_accepted}
use Rattle.bundle.proofs.Summing.{sharing_within}
use Rattle.fitted_sheet.specs.FittedSheet.{fitted_sheet}
use Rattle.fitted.specs.Filing.{Filing, filed, outcome, fits, fitting, buffer_in, buffer_after}
use Rattle.fitted.proofs.Filings.{outcome_short, outcome_long}
use Rattle.walk.specs.Walk.{Outcome, turned_down, walked, outcome as Walk·outcome, walking, trail_after}
use Rattle.walk.proofs.Outcomes.{outcome_malformed, result_of_lem, trail_of}
use Rattle.walk.proofs.Walked.{written_of, fifteen_exactly}
use Rattle.worked.specs.Worked.{row15, Shown, Shows}
use Rattle.worked.specs.EmptySheet.{OneCandidate, empty_entry, EmptySheet}
use Rattle.worked.proofs.Worked.{worked}

-- LAW: the answer of the sheet of zero bytes is found, without sizes and without codes
pub empty_answer : answer empty ≡ some empty_entry
unfolding answer answer_at or_else solves
empty_answer = refl

one_candidate : (M : Structure) → OneCandidate M
unfolding codes
one_candidate M =
    record {
      candidate =
          record {
            interprets = record { nonempty = λ s h. absurd (omega arith); complete = λ f h cs i. absurd (omega arith) };
            bounded = record { floor = λ s h. absurd (omega arith); ceiling = λ s h. absurd (omega arith); total = omega arith };
          };
      satisfies = λ k h. absurd (omega arith);
      sum = refl;
      sizes = refl;
      codes = refl;
      tables = refl;
    }

-- find, by the row
row : Shows row15
row = worked.1.1.1.1.1.1.1.1.1.1.1.1.1.1.0

shown : (cs ts : List ℕ) → Shown row15 cs ts
shown cs ts = row.shown cs ts (omega arith) (omega arith)

-- sizes: no sizes, of sum 0
sized : (out : List ℕ) → Exit [] out (Sizing·sized [])
sized out = exit [] out (Sizing·sized []) (Sizing·outcome-long [] empty (some empty_entry) (length out) nothing_read (omega arith) empty_answer)

-- find_at: the answer at no sizes, and 17 for any others
empty_answer_at : answer_at empty [] ≡ some empty_entry
unfolding answer_at solves
empty_answer_at = refl

no_sizes : CandidateSizes empty []
no_sizes = record { many = refl; bounded = (one_candidate (decoded empty [])).candidate.bounded }

roomy : (nc nt : ℕ) → too_short empty nc nt ≡ false
roomy nc nt = not_short empty nc nt (omega arith) (omega arith)

answered_at : (cs ts : List ℕ) → ExitAt [] [] cs ts (answered empty empty_entry)
answered_at cs ts =
    exit_at [] [] cs ts (answered empty empty_entry)
    (outcome_at_long [] [] (length cs) (length ts) empty nothing_read (roomy (length cs) (length ts)) no_sizes (some empty_entry) empty_answer_at)

wrong_number_lem : (z : List ℕ) → (z ≡ [] → ⊥) → candidate_sizes empty z ≡ false
wrong_number_lem [] longer = absurd (longer refl)
wrong_number_lem (x ∷ z) longer = and_first (eqb (length (x ∷ z)) 0) (in_bounds empty (at (x ∷ z))) (ne_eqb (length (x ∷ z)) 0 (λ e. omega arith))

refused_at_lem : (z cs ts : List ℕ) → (z ≡ [] → ⊥) → ExitAt [] z cs ts (Found·turnedDown 17 0)
refused_at_lem z cs ts longer =
    exit_at [] z cs ts (Found·turnedDown 17 0)
    (outcome_at_wrong [] z (length cs) (length ts) empty nothing_read (roomy (length cs) (length ts)) (wrong_number_lem z longer))

at_sizes_lem : (z cs ts : List ℕ) → (codes_after_at [] z cs ts ≡ cs) × (tables_after_at [] z cs ts ≡ ts)
at_sizes_lem [] cs ts = ((answered_at cs ts).codes, (answered_at cs ts).tables)
at_sizes_lem (x ∷ z) cs ts = let r = refused_at_lem (x ∷ z) cs ts (λ e. let y : ◌≡◌ {A = ℕ} 0 1 = cc in omega arith) in (r.codes, r.tables)

-- bundle: no part, and one part of zero bytes, whose own sum is 0
bundled_none : (limit : ℕ) → bundling [] limit ≡ bundle_refusal 18 0
unfolding bundling parts parts_from
bundled_none limit = refl

bundled_alone : (limit : ℕ) → bundling (bundle_of ([] ∷ [])) limit ≡ record { sums = replicate most_sheets 0; stock = Left limit }
unfolding bundling summing parts parts_from bundle_of
bundled_alone limit =
    ap (λ (x : Alone). gives limit (joined 4 x (summed []))) (smallest_accepted [] empty (some empty_entry) nothing_read empty_answer)
    ∙ sharing_within limit (0 ∷ []) (omega arith)
    ∙ ap (λ (left : ℕ). record { sums = replicate most_sheets 0; stock = Left left }) (let same : limit - 0 ≡ limit = omega arith in same)

-- judge, by the theorem
well_laid_none : (t : List ℕ) → WellLaid empty t → t ≡ []
well_laid_none [] w = refl
well_laid_none (x ∷ t) w = let e = w.extent in absurd (omega arith)

none_well_laid : WellLaid empty []
none_well_laid = record { sizes = omega arith; size = λ s h. absurd (omega arith); extent = refl; entry = λ f h k l. absurd (omega arith) }

none_fits : (t : List ℕ) → t ≡ [] → judgement [] t ≡ (Ok judgements.Fits)
none_fits t e = ap (judgement []) e ∙ (judgement_says [] [] empty nothing_read (Ok judgements.Fits)).1 says
  where
    says : Says empty [] (Ok judgements.Fits)
    says = (none_well_laid, (one_candidate _).candidate, (one_candidate _).satisfies)

fits_exactly : (t : List ℕ) → (judgement [] t ≡ (Ok judgements.Fits)) ↔ (t ≡ [])
fits_exactly t = (λ e. well_laid_none t ((judgement_says [] t empty nothing_read (Ok judgements.Fits)).0 e).0, none_fits t)

others_refused : (t : List ℕ) → (t ≡ [] → ⊥) → judgement [] t ≡ Err (refusal 12 0)
others_refused t longer = (judgement_says [] t empty nothing_read (Err (refusal 12 0))).1 (refl, refl, λ w. longer (well_laid_none t w))

-- nothing has a number below 0
no_expression : (a b : ℕ) → forcing [] a b ≡ Err (refusal 13 0)
unfolding forcing
no_expression a b = rw (nothing_read, le-ltb a 0 (omega arith))

no_name : (t : List ℕ) (f : ℕ) → table_of [] t f ≡ nowhere
unfolding table_of stretch_of
no_name t f = rw nothing_read (rw (le-ltb f 0 (omega arith)) (go (well_laid empty t)))
  where
    go : (b : Bool) → cond b nowhere nowhere ≡ nowhere
    go true = refl
    go false = refl

-- the fitted sheet of no answer's tables has no record
nothing_filed : (room : ℕ) → 2161 ≤ room → outcome [] room ≡ filed empty
unfolding fitted_sheet
nothing_filed room h = outcome_long [] empty (some empty_entry) room nothing_read h empty_answer

written : (room : ℕ) → 2161 ≤ room → fitting [] room ≡ Ok 0
unfolding fitting
written room h = ap fits (nothing_filed room h) ∙ ap (λ (l : List ℕ). Ok (length l)) encode_empty

short : (room : ℕ) → room < 2161 → fitting [] room ≡ Err (refusal 10 0)
unfolding fitting
short room h = ap fits (outcome_short [] empty room nothing_read h)

untouched : (out : List ℕ) → buffer_after [] out ≡ out
unfolding buffer_after
untouched out =
    elim (dec_lt (length out) 2161) [
      | yes h ↦ ap (λ (x : Filing). buffer_in x out) (outcome_short [] empty (length out) nothing_read h)
      | no h ↦ ap (λ (x : Filing). buffer_in x out) (nothing_filed (length out) (omega arith)) ∙ ap (λ (l : List ℕ). fronted l out) encode_empty
    ]

-- no field is there to walk in
no_walk : (s c : ℕ) (fs : List ℕ) (room start : ℕ) → start + length fs ≤ room → walking [] [] s c fs room start ≡ Err (refusal 15 0)
no_walk s c fs room start h = (fifteen_exactly [] [] s c fs room start empty nothing_read h none_well_laid).1 (λ w. omega (arith, w.sort))

other_tables : (t : List ℕ) (s c : ℕ) (fs : List ℕ) (room start : ℕ) → (t ≡ [] → ⊥) → start + length fs ≤ room → walking [] t s c fs room start ≡ Err (refusal 12 0)
other_tables t s c fs room start longer h =
    result_of_lem [] t s c fs room start (turned_down 12 0) (outcome_malformed [] t s c fs room start empty nothing_read h (by (well_laid empty t) refl))
  where
    by : (b : Bool) → well_laid empty t ≡ b → well_laid empty t ≡ false
    by true e = absurd (longer (well_laid_none t ((well_laid_test empty t).0 e)))
    by false e = e

untrodden : (t : List ℕ) (s c : ℕ) (fs trail : List ℕ) (start : ℕ) → trail_after [] t s c fs trail start ≡ trail
untrodden t s c fs trail start = step (Walk·outcome [] t s c fs (length trail) start) refl
  where
    step : (o : Outcome) → Walk·outcome [] t s c fs (length trail) start ≡ o → trail_after [] t s c fs trail start ≡ trail
    step (turned_down n i) q = trail_of [] t s c fs trail start (turned_down n i) q
    step (walked cs) q =
        let w = written_of [] t s c fs (length trail) start empty nothing_read (length cs) (result_of_lem [] t s c fs (length trail) start (walked cs) q) in
        absurd (omega (arith, w.walkable.sort))

-- THEOREM: the sheet of zero bytes
pub empty_sheet : EmptySheet
empty_sheet =
    record {
      reads = nothing_read;
      answers = empty_answer;
      demand = accepted_demand [] empty nothing_read;
      candidates = one_candidate;
      found = λ cs ts. (shown cs ts).result;
      codes = λ cs ts. (shown cs ts).codes;
      tables = λ cs ts. (shown cs ts).tables;
      sizes = λ out. (sized out).result;
      size_buffer = λ out. (sized out).buffer;
      found_at = λ cs ts. (answered_at cs ts).result;
      wrong_sizes = λ z cs ts longer. (refused_at_lem z cs ts longer).result;
      codes_at = λ z cs ts. (at_sizes_lem z cs ts).0;
      tables_at = λ z cs ts. (at_sizes_lem z cs ts).1;
      no_bundle = bundled_none;
      bundle_alone = bundled_alone;
      fits = fits_exactly;
      others = others_refused;
      forced = no_expression;
      group = λ e. absent [] empty nothing_read e (omega arith);
      table = no_name;
      fitted = written;
      short = short;
      buffer = untouched;
      walk = no_walk;
      walk_others = other_tables;
      trail = untrodden;
    }
