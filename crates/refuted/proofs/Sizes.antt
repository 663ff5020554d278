-- The wrong programs of request (h) are refuted: what a call that sizes, or that finds at given sizes, has written (`FirstSizes`, `DeliveredAt`), with which
-- numbers a call is turned down, and a worked sheet that has an answer at one size and none at another.
use Rattle.std.specs.Prelude.{Result, Ok, Err}
use Rattle.prelude.specs.Causes.{number_of, refusal}
use Rattle.prelude.specs.declared.refusal.Refusal.{Refusal}
use Rattle.sheet.proofs.Refusals.{same_number}
use Prim.Native.Nat.{ℕ}
use native.Mathlib.Decide.{dec_lt}
use native.Mathlib.Omega.{arith}
use mathlib.Core.Path.{◌≡◌, refl, ap, sym, ◌∙◌}
use mathlib.Core.Bool.{false}
use mathlib.Core.List.{List, [], ◌∷◌}
use lib.ListN.{length}
use lib.Seq.{get_or-take}
use lib.Dec.{lit≤}
use Rattle.prelude.specs.Lists.{at, firsts}
use Rattle.prelude.proofs.Lists.{at_firsts}
use Rattle.layout.specs.Layout.{accepted, refused, reading, read_from, cause}
use Rattle.tables.specs.Layout.{extent}
use Rattle.tables.specs.Tests.{in_bounds}
use Rattle.answer.specs.Answer.{answer_at, solves, sum}
use Rattle.answer.specs.Demand.{CandidateSizes}
use Rattle.sizes.specs.Sizing.{sizing, sizes_after}
use Rattle.sizes.specs.Promise.{FirstSizes, sizes_written}
use Rattle.sizes.proofs.Outcomes as sizes
use Rattle.sizes.proofs.Least.{accepted_promised}
use Rattle.find_at.specs.Found.{finds, turned_down, ceilings, short}
use Rattle.find_at.specs.FindAt.{outcome_at, finding_at, codes_after_at, tables_after_at}
use Rattle.find_at.specs.Promise.{DeliveredAt, codes_written, tables_written}
use Rattle.find_at.proofs.Sizes.{candidate_sizes_test}
use Rattle.find_at.proofs.Numbers.{Case, unread, too_short, wrong_sizes_lem, looked, case_of, found_through}
use Rattle.find_at.proofs.Outcomes.{long_enough}
use Rattle.find_at.proofs.Delivery.{accepted_promised_at}
use Rattle.worked.specs.Worked.{row5}
use Rattle.worked.proofs.Worked.{sheet_of}
use Rattle.refuted.specs.WrongSizes.{SizesProgram, MeetsSizes, GivesCeilings, FindAtProgram, MeetsFindAt, LetThroughAt, IgnoresSizes, ElevenOutOfBounds, FindsSmaller, RefutedSizes}

module _ (p : SizesProgram) (meets : MeetsSizes p) where
  not_gives_ceilings : GivesCeilings p → ⊥
  not_gives_ceilings c =
      elim (dec_lt (length c.out) (length c.sheet.bounds)) [
        | yes h ↦
            let r : ◌≡◌ {A = Result ℕ Refusal} (Err (refusal 10 0)) (Ok c.given) = sym (sizes.exit c.bytes c.out _ (sizes.outcome_short c.bytes c.sheet (length c.out) c.reads h)).result ∙ gives in
            let y : ◌≡◌ {A = ℕ} 0 1 = cc in omega arith
        | no h ↦
            let f : FirstSizes c.sheet c.given (sizes_written c.sheet (sizes_after c.bytes c.out)) = (accepted_promised c.bytes c.out c.sheet c.reads (omega arith)).delivers c.given gives in
            let wrote : sizes_written c.sheet (sizes_after c.bytes c.out) ≡ firsts (length c.sheet.bounds) (ceilings c.sheet) = ap (sizes_written c.sheet) (sym (meets c.bytes c.out).buffer) ∙ c.wrote in
            omega (arith, f.sum ∙ ap sum wrote, f.least c.smaller c.candidate c.satisfies, c.less)
      ]
    where
      gives : sizing c.bytes (length c.out) ≡ Ok c.given
      gives = sym (meets c.bytes c.out).result ∙ c.sized

-- two names that differ: no answer at size 1, one at size 2
abbrev blank : List ℕ
blank = 0 ∷ 0 ∷ 0 ∷ 0 ∷ 0 ∷ 0 ∷ []

one_through : LetThroughAt row5.sheet (1 ∷ []) blank blank
unfolding reading read_from cause in_bounds
one_through = record { sheet = sheet_of row5; reads = refl; codes_fit = lit≤ tt; tables_fit = lit≤ tt; right = (candidate_sizes_test (sheet_of row5) (1 ∷ [])).0 refl }

two_through : LetThroughAt row5.sheet (2 ∷ []) blank blank
unfolding reading read_from cause in_bounds
two_through = record { sheet = sheet_of row5; reads = refl; codes_fit = lit≤ tt; tables_fit = lit≤ tt; right = (candidate_sizes_test (sheet_of row5) (2 ∷ [])).0 refl }

none_at_one : finding_at row5.sheet (1 ∷ []) 6 6 ≡ Err (refusal 11 0)
unfolding finding_at outcome_at answer_at solves in_bounds reading read_from cause
none_at_one = refl

found_at_two : finding_at row5.sheet (2 ∷ []) 6 6 ≡ Ok 2
unfolding finding_at outcome_at answer_at solves in_bounds reading read_from cause
found_at_two = refl

module _ (p : FindAtProgram) (meets : MeetsFindAt p) where
  not_ignores_sizes : IgnoresSizes p → ⊥
  not_ignores_sizes wrong =
      let r : ◌≡◌ {A = Result ℕ Refusal} (Err (refusal 11 0)) (Ok 2) =
      sym none_at_one ∙ sym (meets row5.sheet (1 ∷ []) blank blank).result ∙ wrong row5.sheet (1 ∷ []) (2 ∷ []) blank blank one_through two_through ∙ (meets row5.sheet (2 ∷ []) blank blank).result ∙ found_at_two in
      let y : ◌≡◌ {A = ℕ} 0 1 = cc in omega arith

  not_eleven_out_of_bounds : ElevenOutOfBounds p → ⊥
  unfolding finding_at
  not_eleven_out_of_bounds c = by (case_of c.bytes c.sizes (length c.codes) (length c.tables))
    where
      gives : finding_at c.bytes c.sizes (length c.codes) (length c.tables) ≡ Err (refusal 11 0)
      gives = sym (meets c.bytes c.sizes c.codes c.tables).result ∙ c.eleven

      eleven : (m j : ℕ) → outcome_at c.bytes c.sizes (length c.codes) (length c.tables) ≡ turned_down m j → 11 ≡ number_of (refusal m j).cause
      eleven m j o = same_number {A = ℕ} (refusal 11 0) (refusal m j) (sym gives ∙ ap finds o)

      by : Case c.bytes c.sizes (length c.codes) (length c.tables) → ⊥
      by (unread m j q o) = let both : refused m j ≡ accepted c.sheet = sym q ∙ c.reads in let y : ◌≡◌ {A = ℕ} 0 1 = cc in omega arith
      by (too_short sh q o) = omega (arith, eleven 10 0 o)
      by (wrong_sizes_lem sh q w o) = omega (arith, eleven 17 0 o)
      by (looked sh q r right o) =
          let both : accepted sh ≡ accepted c.sheet = sym q ∙ c.reads in
          let same : sh ≡ c.sheet = cc in
          c.wrong (rw same at right)

  not_finds_smaller : FindsSmaller p → ⊥
  not_finds_smaller c =
      omega (
        arith,
        c.smaller,
        ap (λ (l : List ℕ). at l c.sort) (sym given.sizes),
        at_firsts (length c.sheet.bounds) (at (tables_written c.sheet after)) c.sort c.there,
        get_or-take (extent c.sheet (at after)) after c.sort 0 (omega (arith, c.there)),
        ap (λ (l : List ℕ). at l c.sort) (meets c.bytes c.sizes c.codes c.tables).tables,
      )
    where
      after : List ℕ
      after = tables_after_at c.bytes c.sizes c.codes c.tables

      gives : finding_at c.bytes c.sizes (length c.codes) (length c.tables) ≡ Ok c.sum
      gives = sym (meets c.bytes c.sizes c.codes c.tables).result ∙ c.found

      through : (short c.sheet (length c.codes) (length c.tables) ≡ false) × CandidateSizes c.sheet c.sizes
      through = found_through c.bytes c.sizes (length c.codes) (length c.tables) c.sum c.sheet c.reads gives

      given : DeliveredAt c.sheet c.sizes c.sum (codes_written c.sheet (codes_after_at c.bytes c.sizes c.codes c.tables)) (tables_written c.sheet after)
      given =
          let room = long_enough c.sheet (length c.codes) (length c.tables) through.0 in
          (accepted_promised_at c.bytes c.sizes c.codes c.tables c.sheet c.reads through.1 room.0 room.1).delivers c.sum gives

-- THEOREM: the wrong programs of request (h) are refuted
pub refuted_sizes : RefutedSizes
refuted_sizes =
    record {
      gives_ceilings = not_gives_ceilings;
      ignores_sizes = not_ignores_sizes;
      eleven_out_of_bounds = not_eleven_out_of_bounds;
      finds_smaller = not_finds_smaller;
    }
