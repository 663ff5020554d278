-- With which causes a call of find_at is turned down, and that something is found only where no cause applies.
use Prim.Native.Nat.{ℕ}
use native.Mathlib.Omega.{arith}
use mathlib.Core.Path.{◌≡◌, refl, ap, sym, ◌∙◌}
use mathlib.Core.Bool.{Bool, true, false}
use mathlib.Core.Logic.{◌⊎◌, inl, inr}
use mathlib.Core.List.{List}
use mathlib.Core.Option.{Option, none, some}
use Rattle.std.specs.Prelude.{Result, Ok, Err}
use Rattle.prelude.specs.Causes.{number_of, refusal}
use Rattle.prelude.specs.declared.refusal.Refusal.{Refusal}
use Rattle.logic.specs.Sheet.{Sheet}
use Rattle.layout.specs.Layout.{Reading, accepted, refused, reading, InSheet}
use Rattle.sheet.proofs.Refusals.{refused_in_sheet}
use Rattle.answer.specs.Answer.{Entry, answer_at, sum}
use Rattle.answer.specs.Demand.{CandidateSizes}
use Rattle.find_at.specs.Found.{turned_down, short, answering, finds}
use Rattle.find_at.specs.FindAt.{candidate_sizes, outcome_at, finding_at}
use Rattle.find_at.proofs.Sizes.{candidate_sizes_test}
use Rattle.find_at.proofs.Outcomes.{outcome_at_refused, outcome_at_short, outcome_at_wrong, outcome_at_long}

-- a call by its causes: refused with the sheet, too short a buffer, wrong sizes, or answered from the listing at these sizes
pub data Case (s z : List ℕ) (nc nt : ℕ) : Type 0 where
  unread : (n i : ℕ) → reading s ≡ refused n i → outcome_at s z nc nt ≡ turned_down n i → Case s z nc nt
  too_short : (sh : Sheet) → reading s ≡ accepted sh → outcome_at s z nc nt ≡ turned_down 10 0 → Case s z nc nt
  wrong_sizes_lem : (sh : Sheet) → reading s ≡ accepted sh → (CandidateSizes sh z → ⊥) → outcome_at s z nc nt ≡ turned_down 17 0 → Case s z nc nt
  looked : (sh : Sheet) → reading s ≡ accepted sh → short sh nc nt ≡ false → CandidateSizes sh z → outcome_at s z nc nt ≡ answering sh (answer_at sh z) → Case s z nc nt

pub case_of : (s z : List ℕ) (nc nt : ℕ) → Case s z nc nt
case_of s z nc nt = by_reading (reading s) refl
  where
    by_sizes : (sh : Sheet) → reading s ≡ accepted sh → short sh nc nt ≡ false → (b : Bool) → candidate_sizes sh z ≡ b → Case s z nc nt
    by_sizes sh q r true t = let right = (candidate_sizes_test sh z).0 t in looked sh q r right (outcome_at_long s z nc nt sh q r right (answer_at sh z) refl)
    by_sizes sh q r false t =
        wrong_sizes_lem sh q (λ right. let both : true ≡ false = sym ((candidate_sizes_test sh z).1 right) ∙ t in let y : ◌≡◌ {A = ℕ} 0 1 = cc in omega arith)
        (outcome_at_wrong s z nc nt sh q r t)

    by_room : (sh : Sheet) → reading s ≡ accepted sh → (b : Bool) → short sh nc nt ≡ b → Case s z nc nt
    by_room sh q true t = too_short sh q (outcome_at_short s z nc nt sh q t)
    by_room sh q false t = by_sizes sh q t (candidate_sizes sh z) refl

    by_reading : (r : Reading) → reading s ≡ r → Case s z nc nt
    by_reading (refused n i) q = unread n i q (outcome_at_refused s z nc nt n i q)
    by_reading (accepted sh) q = by_room sh q (short sh nc nt) refl

module _ (s z : List ℕ) (nc nt : ℕ) (r : Refusal) (e : finding_at s z nc nt ≡ Err r) where
  abbrev Listed : Type 0
  Listed = InSheet (number_of r.cause) ⊎ (((number_of r.cause ≡ 10) ⊎ ((number_of r.cause ≡ 17) ⊎ (number_of r.cause ≡ 11))) × (r.place ≡ 0))

  same : (m j : ℕ) → outcome_at s z nc nt ≡ turned_down m j → r ≡ refusal m j
  unfolding finding_at
  same m j q = let k : ◌≡◌ {A = Result ℕ Refusal} (Err r) (Err (refusal m j)) = sym e ∙ ap finds q in cc

  -- THEOREM: those of read, 10, 17 or 11, and the place is 0 from 10 on
  pub refusal_number_at : Listed
  unfolding finding_at
  refusal_number_at = by (case_of s z nc nt)
    where
      by_answer : (sh : Sheet) (a : Option Entry) → outcome_at s z nc nt ≡ answering sh a → Listed
      by_answer sh none q = rw (same 11 0 q) (inr (inr (inr refl), refl))
      by_answer sh (some x) q = let k : ◌≡◌ {A = Result ℕ Refusal} (Err r) (Ok (sum x.sizes)) = sym e ∙ ap finds q in cc

      by : Case s z nc nt → Listed
      by (unread m j q o) = rw (same m j o) (inl (refused_in_sheet s m j q))
      by (too_short sh q o) = rw (same 10 0 o) (inr (inl refl, refl))
      by (wrong_sizes_lem sh q w o) = rw (same 17 0 o) (inr (inr (inl refl), refl))
      by (looked sh q k right o) = by_answer sh (answer_at sh z) o

-- something is found only where no cause applies
pub found_through : (s z : List ℕ) (nc nt n : ℕ) (sh : Sheet) → reading s ≡ accepted sh → finding_at s z nc nt ≡ Ok n → (short sh nc nt ≡ false) × CandidateSizes sh z
unfolding finding_at
found_through s z nc nt n sh q f = by (case_of s z nc nt)
  where
    down : (m j : ℕ) → outcome_at s z nc nt ≡ turned_down m j → ⊥
    down m j o = let r : Err (refusal m j) ≡ Ok n = sym (ap finds o) ∙ f in cc

    by : Case s z nc nt → (short sh nc nt ≡ false) × CandidateSizes sh z
    by (unread m j r o) = absurd (down m j o)
    by (too_short sh' r o) = absurd (down 10 0 o)
    by (wrong_sizes_lem sh' r w o) = absurd (down 17 0 o)
    by (looked sh' r room right o) =
        let both : accepted sh' ≡ accepted sh = sym r ∙ q in
        let same : sh' ≡ sh = cc in
        (rw same at room, rw same at right)
