-- What sizes wrote, and the line that shows it; and that a buffer longer than a byte for each sort makes no difference.
use Prim.Native.Nat.{ℕ, ◌≤◌, min}
use native.Mathlib.Decide.{dec_lt}
use native.Mathlib.Omega.{arith}
use mathlib.Core.Path.{◌≡◌, refl, sym, ap, ap₂, ◌∙◌}
use mathlib.Core.Bool.{Bool, true, false}
use mathlib.Core.List.{List}
use mathlib.Core.Option.{Option, none, some}
use lib.ListN.{length, take, drop, length-append}
use lib.Dec.{ltb}
use Rattle.std.specs.Prelude.{Result, Ok, Err}
use Rattle.prelude.specs.Causes.{number_of, refusal}
use Rattle.prelude.specs.declared.refusal.Refusal.{Refusal}
use Rattle.logic.specs.Sheet.{Sheet}
use Rattle.prelude.specs.Lists.{fronted}
use Rattle.prelude.proofs.Lists.{length_firsts}
use Rattle.layout.specs.Layout.{Reading, accepted, refused, reading}
use Rattle.layout.proofs.Answers.{accepted_well_formed, refused_number}
use Rattle.sheet.proofs.Refusals.{in_sheet}
use Rattle.answer.specs.Answer.{Entry, answer, sum, structure_of}
use Rattle.answer.proofs.Demand.{accepted_demand}
use Rattle.prelude.proofs.Fronted.{front_fronted}
use Rattle.sizes.specs.Sizing.{Outcome, turned_down, sized, answering, consider, outcome, gives, sizing, sizes_in, sizes_after}
use Rattle.sizes.proofs.Outcomes.{outcome_refused, outcome_short, outcome_long}
use Rattle.text.specs.Ascii.{ascii}
use Rattle.text.specs.Text.{bytes_line}
use Rattle.lines.specs.Lines.{refusal_line}
use Rattle.questions.proofs.Asking.{cut_test}
use Rattle.sizings.specs.Sizings.{sizes_line}

-- what the test of the buffer makes of a sheet that was read
abbrev branch : Sheet → Bool → Outcome
branch sh b = elim b [ true ↦ turned_down 10 0 | false ↦ answering (answer sh) ]

-- a longer buffer makes no difference
pub cut_outcome : (s : List ℕ) (room : ℕ) → outcome s (min room 8) ≡ outcome s room
unfolding outcome
cut_outcome s room = step (reading s) refl
  where
    step : (r : Reading) → reading s ≡ r → consider r (min room 8) ≡ consider r room
    step (refused n i) q = refl
    step (accepted sh) q = ap (branch sh) (cut_test room 8 (length sh.bounds) (accepted_well_formed s sh q).sorts)

-- the line of a call that was turned down
pub turned_down_line : (s : List ℕ) (room : ℕ) (r : Refusal) → Err r ≡ sizing s room → refusal_line (number_of r.cause) r.place ≡ sizes_line (outcome s room)
unfolding sizing
turned_down_line s room r f = by_reading (reading s) refl
  where
    show : (m j : ℕ) → number_of (refusal m j).cause ≡ m → outcome s room ≡ turned_down m j → refusal_line (number_of r.cause) r.place ≡ sizes_line (outcome s room)
    show m j known o =
        let z : ◌≡◌ {A = Result ℕ Refusal} (Err r) (Err (refusal m j)) = f ∙ ap gives o in
        let same : r ≡ refusal m j = cc in
        ap (λ (q : Refusal). refusal_line (number_of q.cause) q.place) same ∙ ap (λ (n : ℕ). refusal_line n j) known ∙ ap sizes_line (sym o)

    by_answer : (a : Option Entry) → outcome s room ≡ answering a → refusal_line (number_of r.cause) r.place ≡ sizes_line (outcome s room)
    by_answer none o = show 11 0 refl o
    by_answer (some e) o = let z : ◌≡◌ {A = Result ℕ Refusal} (Err r) (Ok (sum e.sizes)) = f ∙ ap gives o in cc

    by_reading : (t : Reading) → reading s ≡ t → refusal_line (number_of r.cause) r.place ≡ sizes_line (outcome s room)
    by_reading (refused m j) t = show m j (in_sheet m (refused_number s m j t)) (outcome_refused s m j room t)
    by_reading (accepted sh) t =
        elim (dec_lt room (length sh.bounds)) [
          | yes h ↦ show 10 0 refl (outcome_short s sh room t h)
          | no h ↦ by_answer (answer sh) (outcome_long s sh (answer sh) room t (omega arith) refl)
        ]

-- sizes that were found are those of a sheet that was read, one for each sort
record Own (s sizes : List ℕ) : Type 0 where
  sheet : Sheet
  reads : reading s ≡ accepted sheet
  long : length sizes ≡ length sheet.bounds

module _ (s sizes : List ℕ) where
  own_answer : (sh : Sheet) → reading s ≡ accepted sh → (a : Option Entry) → answer sh ≡ a → answering a ≡ sized sizes → Own s sizes
  own_answer sh q none e g = let no : ◌≡◌ {A = ℕ} 0 1 = cc in absurd (omega arith)
  own_answer sh q (some d) e g =
      let same : d.sizes ≡ sizes = cc in
      record {
        sheet = sh;
        reads = q;
        long = ap length (sym same) ∙ ap length (sym ((accepted_demand s sh q).finds d e).sizes) ∙ length_firsts (length sh.bounds) (structure_of sh d).size;
      }

  own_tested : (sh : Sheet) → reading s ≡ accepted sh → (b : Bool) → branch sh b ≡ sized sizes → Own s sizes
  own_tested sh q true g = let no : ◌≡◌ {A = ℕ} 0 1 = cc in absurd (omega arith)
  own_tested sh q false g = own_answer sh q (answer sh) refl g

  own_sizes : (room : ℕ) → outcome s room ≡ sized sizes → Own s sizes
  unfolding outcome
  own_sizes room f = step (reading s) refl f
    where
      step : (r : Reading) → reading s ≡ r → consider r room ≡ sized sizes → Own s sizes
      step (refused m i) q g = let no : ◌≡◌ {A = ℕ} 0 1 = cc in absurd (omega arith)
      step (accepted sh) q g = own_tested sh q (ltb room (length sh.bounds)) g

-- where something was found: the sizes, and their sum
record Has (o : Outcome) (n : ℕ) : Type 0 where
  sizes : List ℕ
  is : o ≡ sized sizes
  total : sum sizes ≡ n

has : (o : Outcome) (n : ℕ) → gives o ≡ Ok n → Has o n
has (turned_down m i) n q = let no : ◌≡◌ {A = ℕ} 0 1 = cc in absurd (omega arith)
has (sized sizes) n q = record { sizes = sizes; is = refl; total = cc }

-- the sizes stand in front of the buffer, as many as the sheet has sorts, and the line shows them
module _ (s d d' : List ℕ) (n many : ℕ) (f : sizing s (length d) ≡ Ok n) (after : d' ≡ sizes_after s d) (x : (sh : Sheet) → reading s ≡ accepted sh → many ≡ length sh.bounds) where
  found : Has (outcome s (length d)) n
  unfolding sizing
  found = has (outcome s (length d)) n f

  front : d' ≡ fronted found.sizes d
  unfolding sizes_after
  front = after ∙ ap (λ (o : Outcome). sizes_in o d) found.is

  all : many ≡ length found.sizes
  all = let o = own_sizes s found.sizes (length d) found.is in x o.sheet o.reads ∙ sym o.long

  pub sizes_within : many ≤ length d'
  sizes_within = omega (arith, all, ap length front, length-append found.sizes (drop (length found.sizes) d))

  pub sizes_line_lem : bytes_line (ascii "sizes") n (take many d') ≡ sizes_line (outcome s (length d))
  sizes_line_lem =
      ap₂ (bytes_line (ascii "sizes")) (sym found.total)
      (ap₂ (λ (k : ℕ) (l : List ℕ). take k l) all front ∙ front_fronted found.sizes d)
      ∙ ap sizes_line (sym found.is)
