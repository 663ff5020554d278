-- With which causes a call of sizes is turned down.
use Prim.Native.Nat.{ℕ}
use native.Mathlib.Decide.{dec_lt}
use native.Mathlib.Omega.{arith}
use mathlib.Core.Path.{◌≡◌, refl, ap, sym, ◌∙◌}
use mathlib.Core.Logic.{◌⊎◌, inl, inr}
use mathlib.Core.List.{List}
use mathlib.Core.Option.{Option, none, some}
use lib.ListN.{length}
use Rattle.std.specs.Prelude.{Result, Ok, Err}
use Rattle.prelude.specs.Causes.{number_of, refusal}
use Rattle.prelude.specs.declared.refusal.Refusal.{Refusal}
use Rattle.layout.specs.Layout.{Reading, accepted, refused, reading, InSheet}
use Rattle.sheet.proofs.Refusals.{refused_in_sheet}
use Rattle.answer.specs.Answer.{Entry, answer, sum}
use Rattle.sizes.specs.Sizing.{turned_down, answering, outcome, gives, sizing}
use Rattle.sizes.proofs.Outcomes.{outcome_refused, outcome_short, outcome_long}

abbrev Listed : Refusal → Type 0
Listed r = InSheet (number_of r.cause) ⊎ (((number_of r.cause ≡ 10) ⊎ (number_of r.cause ≡ 11)) × (r.place ≡ 0))

-- THEOREM: those of read, 10 or 11, and the place is 0 from 10 on
pub refusal_number_lem : (s : List ℕ) (room : ℕ) (r : Refusal) → sizing s room ≡ Err r → InSheet (number_of r.cause) ⊎ (((number_of r.cause ≡ 10) ⊎ (number_of r.cause ≡ 11)) × (r.place ≡ 0))
unfolding sizing
refusal_number_lem s room r e = by_reading (reading s) refl
  where
    same : (m j : ℕ) → outcome s room ≡ turned_down m j → r ≡ refusal m j
    same m j q = let z : ◌≡◌ {A = Result ℕ Refusal} (Err r) (Err (refusal m j)) = sym e ∙ ap gives q in cc

    by_answer : (a : Option Entry) → outcome s room ≡ answering a → Listed r
    by_answer none q = rw (same 11 0 q) (inr (inr refl, refl))
    by_answer (some x) q = let z : ◌≡◌ {A = Result ℕ Refusal} (Err r) (Ok (sum x.sizes)) = sym e ∙ ap gives q in cc

    by_reading : (t : Reading) → reading s ≡ t → Listed r
    by_reading (refused m j) t = rw (same m j (outcome_refused s m j room t)) (inl (refused_in_sheet s m j t))
    by_reading (accepted sh) t =
        elim (dec_lt room (length sh.bounds)) [
          | yes h ↦ rw (same 10 0 (outcome_short s sh room t h)) (inr (inl refl, refl))
          | no h ↦ by_answer (answer sh) (outcome_long s sh (answer sh) room t (omega arith) refl)
        ]
