-- What becomes of a call, case by case, and what that makes of the result and the buffer.
use Prim.Native.Nat.{ℕ, ◌≤◌, ◌<◌}
use mathlib.Core.Path.{◌≡◌, refl, ap, sym, ◌∙◌}
use mathlib.Core.Bool.{Bool, true, false}
use mathlib.Core.List.{List}
use mathlib.Core.Option.{Option, none, some}
use lib.ListN.{length}
use borrow.Author.Tests.{le-ltb, lt-ltb}
use Rattle.std.specs.Prelude.{Result, Ok, Err}
use Rattle.prelude.specs.Causes.{refusal}
use Rattle.prelude.specs.declared.refusal.Refusal.{Refusal}
use Rattle.logic.specs.Sheet.{Sheet}
use Rattle.layout.specs.Layout.{Reading, accepted, refused, reading}
use Rattle.layout.specs.Encode.{encode}
use Rattle.sheet.specs.Verdict.{parsing}
use Rattle.sheet.proofs.Verdicts.{parsed_refuses}
use Rattle.answer.specs.Answer.{Entry, answer}
use Rattle.fitted_sheet.specs.FittedSheet.{too_many}
use Rattle.fitted_sheet.specs.Kept.{fitted_to}
use Rattle.fitted.specs.Filing.{Filing, turned_down, filed, filing, consider, outcome, fits, fitting, buffer_in, buffer_after, Files}
use Rattle.fitted.specs.Parts.{FilesAnswer}

-- a sheet that is refused
pub outcome_refused : (s : List ℕ) (n i room : ℕ) → reading s ≡ refused n i → outcome s room ≡ turned_down n i
unfolding outcome
outcome_refused s n i room q = ap (λ (r : Reading). consider r room) q

abbrev pub branch : Sheet → Bool → Filing
branch sh b = elim b [ true ↦ turned_down 10 0 | false ↦ filing sh (answer sh) ]

-- cause 10
pub outcome_short : (s : List ℕ) (sh : Sheet) (room : ℕ) → reading s ≡ accepted sh → room < 2161 → outcome s room ≡ turned_down 10 0
unfolding outcome
outcome_short s sh room q h = ap (λ (r : Reading). consider r room) q ∙ ap (branch sh) (lt-ltb room 2161 h)

-- causes 11 and 14, or the sheet
pub outcome_long : (s : List ℕ) (sh : Sheet) (a : Option Entry) (room : ℕ) → reading s ≡ accepted sh → 2161 ≤ room → answer sh ≡ a → outcome s room ≡ filing sh a
unfolding outcome
outcome_long s sh a room q h e = ap (λ (r : Reading). consider r room) q ∙ ap (branch sh) (le-ltb room 2161 h) ∙ ap (filing sh) e

abbrev tested : Sheet → Bool → Filing
tested new b = elim b [ true ↦ turned_down 14 0 | false ↦ filed new ]

pub filing_passed : (sh : Sheet) (e : Entry) → true ≡ too_many (fitted_to sh e) → filing sh (some e) ≡ turned_down 14 0
filing_passed sh e q = ap (tested (fitted_to sh e)) (sym q)

pub filing_few : (sh : Sheet) (e : Entry) → too_many (fitted_to sh e) ≡ false → filing sh (some e) ≡ filed (fitted_to sh e)
filing_few sh e q = ap (tested (fitted_to sh e)) q

-- what the outcome makes of the result and the buffer
outcome_files : (s out out' : List ℕ) (r : Result ℕ Refusal) (o : Filing) → outcome s (length out) ≡ o → r ≡ fits o → out' ≡ buffer_in o out → Files s out out' r
unfolding fitting buffer_after
outcome_files s out out' r o q a b =
    record { result = a ∙ ap fits (sym q); buffer = b ∙ ap (λ (x : Filing). buffer_in x out) (sym q) }

-- a refusal leaves the buffer
pub refusal_files : (s out : List ℕ) (n i : ℕ) → outcome s (length out) ≡ turned_down n i → Files s out out (Err (refusal n i))
refusal_files s out n i q = outcome_files s out out (Err (refusal n i)) (turned_down n i) q refl refl

-- so does what the parser refuses
pub parse_refused : (s out : List ℕ) (r : Refusal) → Err r ≡ parsing (reading s) → Files s out out (Err r)
parse_refused s out r e =
    let a = parsed_refuses s r e in
    rw a.same (refusal_files s out a.number a.place (outcome_refused s a.number a.place (length out) a.reads))

-- where there is no answer
pub none_files : (s out : List ℕ) (sh : Sheet) (r : Refusal) → reading s ≡ accepted sh → 2161 ≤ length out → answer sh ≡ none → r ≡ refusal 11 0 → Files s out out (Err r)
none_files s out sh r q h a e = rw e (refusal_files s out 11 0 (outcome_long s sh none (length out) q h a))

-- what was filed of an answer
pub answer_files : (s out out' : List ℕ) (r : Result ℕ Refusal) (sh : Sheet) (e : Entry) → reading s ≡ accepted sh → 2161 ≤ length out → answer sh ≡ some e → FilesAnswer sh e out out' r → Files s out out' r
answer_files s out out' r sh e q h a f =
    outcome_files s out out' r (filing sh (some e)) (outcome_long s sh (some e) (length out) q h a) f.result f.buffer

pub passed_files : (sh : Sheet) (e : Entry) (out : List ℕ) → true ≡ too_many (fitted_to sh e) → FilesAnswer sh e out out (Err (refusal 14 0))
passed_files sh e out q =
    record {
      result = ap fits (sym (filing_passed sh e q));
      buffer = ap (λ (x : Filing). buffer_in x out) (sym (filing_passed sh e q));
    }

pub few_files : (sh : Sheet) (e : Entry) (out out' : List ℕ) (n : ℕ) → too_many (fitted_to sh e) ≡ false → n ≡ length (encode (fitted_to sh e)) → out' ≡ buffer_in (filed (fitted_to sh e)) out → FilesAnswer sh e out out' (Ok n)
few_files sh e out out' n q l b =
    record {
      result = ap Ok l ∙ ap fits (sym (filing_few sh e q));
      buffer = b ∙ ap (λ (x : Filing). buffer_in x out) (sym (filing_few sh e q));
    }
