-- What walk left in the trail, and the line that shows it; that a trail may be cut in front; and what the words of a line ask.
use Prim.Native.Nat.{ℕ, ◌+◌, ◌-◌, ◌≤◌, min}
use native.Mathlib.Decide.{dec_lt}
use native.Mathlib.Omega.{arith}
use mathlib.Core.Path.{◌≡◌, refl, sym, ap, ap₂, ◌∙◌}
use mathlib.Core.Bool.{Bool, true, false}
use mathlib.Core.List.{List}
use lib.ListN.{length, take, drop}
use lib.Dec.{ltb}
use borrow.Author.Tests.{lt-ltb, le-ltb}
use Rattle.std.specs.Prelude.{Ok, Err}
use Rattle.prelude.specs.Causes.{number_of, refusal}
use Rattle.prelude.specs.declared.refusal.Refusal.{Refusal}
use Rattle.text.specs.Ascii.{ascii}
use Rattle.text.specs.Text.{bytes_line}
use Rattle.lines.specs.Lines.{refusal_line}
use Rattle.layout.specs.Layout.{Reading, accepted, refused, reading}
use Rattle.layout.proofs.Answers.{refused_number}
use Rattle.sheet.proofs.Refusals.{in_sheet}
use Rattle.tables.specs.Layout.{decoded}
use Rattle.walk.specs.Walk.{walk, Outcome, turned_down, through, consider, outcome, walking, trail_after}
use Rattle.walk.proofs.Steps.{length_walk}
use Rattle.walk.proofs.Outcomes.{outcome_refused, outcome_short, outcome_malformed, outcome_absent, outcome_walked, Way, unread, short, malformed, absent, there, way, result_of_lem}
use Rattle.walk.proofs.Walked.{allowed_walks, written_walked}
use Rattle.questions.specs.Questions.{bytes_at, number_at}
use Rattle.trails.specs.Trails.{walk_line}
use Rattle.trails.specs.Parts.{WalkNumbers}
use Rattle.trails.specs.declared.Numbers.{Numbers}

-- the line of a call that was turned down
pub turned_down_line :
    (sheet t : List ℕ) (s c : ℕ) (fs : List ℕ) (room start : ℕ) (r : Refusal) → Err r ≡ walking sheet t s c fs room start
    → refusal_line (number_of r.cause) r.place ≡ walk_line (outcome sheet t s c fs room start)
turned_down_line sheet t s c fs room start r f = step (way sheet t s c fs room start)
  where
    show : (m j : ℕ) → number_of (refusal m j).cause ≡ m → outcome sheet t s c fs room start ≡ turned_down m j
        → refusal_line (number_of r.cause) r.place ≡ walk_line (outcome sheet t s c fs room start)
    show m j known o =
        let z : Err r ≡ Err (refusal m j) = f ∙ result_of_lem sheet t s c fs room start (turned_down m j) o in
        let same : r ≡ refusal m j = cc in
        ap (λ (q : Refusal). refusal_line (number_of q.cause) q.place) same ∙ ap (λ (n : ℕ). refusal_line n j) known ∙ ap walk_line (sym o)

    step : Way sheet t s c fs room start → refusal_line (number_of r.cause) r.place ≡ walk_line (outcome sheet t s c fs room start)
    step (unread m j q) = show m j (in_sheet m (refused_number sheet m j q)) (outcome_refused sheet t s c fs room start m j q)
    step (short sh q h) = show 10 0 refl (outcome_short sheet t s c fs room start sh q h)
    step (malformed sh q h l) = show 12 0 refl (outcome_malformed sheet t s c fs room start sh q h l)
    step (absent sh q h l w) = show 15 0 refl (outcome_absent sheet t s c fs room start sh q h l w)
    step (there sh q h l w) =
        let z : Err r ≡ Ok (length (walk (decoded sh t) c fs)) = f ∙ result_of_lem sheet t s c fs room start _ (outcome_walked sheet t s c fs room start sh q h l w) in
        absurd cc

-- the codes that were written stand in the trail from the start on, and the line shows them
module _ (sheet t : List ℕ) (s c : ℕ) (fs trail trail' : List ℕ) (start n : ℕ) (f : walking sheet t s c fs (length trail) start ≡ Ok n) (after : trail' ≡ trail_after sheet t s c fs trail start) where
  pub codes_within : start + n ≤ length trail
  codes_within = let w = written_walked sheet t s c fs trail start n f in omega (arith, w.many, w.allowed.fits)

  pub written_line : bytes_line (ascii "trail") n (take n (drop start trail')) ≡ walk_line (outcome sheet t s c fs (length trail) start)
  written_line =
      let w = written_walked sheet t s c fs trail start n f in
      let o = allowed_walks sheet t s c fs (length trail) start w.read w.reads w.allowed in
      ap₂ (bytes_line (ascii "trail")) (w.many ∙ sym (length_walk (decoded w.read t) c fs)) (ap (λ (l : List ℕ). take n (drop start l)) after ∙ w.codes)
      ∙ ap walk_line (sym o)

-- a trail that is longer than the events of a line may be cut in front, the start with it
pub cut_outcome : (sheet t : List ℕ) (s c : ℕ) (fs : List ℕ) (room start : ℕ) → length fs ≤ 131072 → outcome sheet t s c fs (min room 131072) (start - min start (room - min room 131072)) ≡ outcome sheet t s c fs room start
unfolding outcome
cut_outcome sheet t s c fs room start few = step (reading sheet)
  where
    from : ℕ
    from = start - min start (room - min room 131072) + length fs

    same : ltb (min room 131072) (start - min start (room - min room 131072) + length fs) ≡ ltb room (start + length fs)
    same =
        elim (dec_lt room (start + length fs)) [
          | yes h ↦ lt-ltb (min room 131072) from (omega arith) ∙ sym (lt-ltb room (start + length fs) h)
          | no h ↦ le-ltb (min room 131072) from (omega arith) ∙ sym (le-ltb room (start + length fs) (omega arith))
        ]

    step : (r : Reading) → consider r t s c fs (min room 131072) (start - min start (room - min room 131072)) ≡ consider r t s c fs room start
    step (refused n i) = refl
    step (accepted sh) = ap (λ (b : Bool). elim b as (λ x. Outcome) [ true ↦ turned_down 10 0 | false ↦ through sh t s c fs ]) same

-- what is asked, by the words of a line
pub asked_outcome :
    (l sheet t fs : List ℕ) (w : Numbers) → sheet ≡ bytes_at l 1 → t ≡ bytes_at l 2 → fs ≡ bytes_at l 5 → WalkNumbers l w
    → outcome sheet t w.sort w.code fs w.room w.start ≡ outcome (bytes_at l 1) (bytes_at l 2) (number_at l 3) (number_at l 4) (bytes_at l 5) (number_at l 6) (number_at l 7)
asked_outcome l sheet t fs w es et ef n = cc
