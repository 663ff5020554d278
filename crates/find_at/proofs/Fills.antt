-- Find at given sizes passes over fills but for unforced cells, as find does: the result and the codes are those of the sheet without them.
use Prim.Native.Nat.{ℕ}
use mathlib.Core.Path.{◌≡◌, refl, ap, sym, ◌∙◌}
use mathlib.Core.Bool.{Bool, true, false}
use mathlib.Core.List.{List}
use mathlib.Core.Option.{Option, none, some}
use lib.ListN.{length}
use Rattle.logic.specs.Sheet.{Sheet, without_fills}
use Rattle.layout.specs.Layout.{Reading, accepted, reading}
use Rattle.layout.specs.Encode.{encode}
use Rattle.layout.proofs.Answers.{unfilled_read}
use Rattle.tables.specs.Tests.{in_bounds}
use Rattle.answer.specs.Answer.{Entry, answer_at}
use Rattle.answer.proofs.Fills.{passes_over}
use Rattle.find_at.specs.Found.{Outcome, turned_down, short, answering, finds, codes_in}
use Rattle.find_at.specs.FindAt.{candidate_sizes, consider_at, outcome_at, finding_at, codes_after_at}

abbrev branch : Sheet → Option Entry → Bool → Bool → Outcome
branch sh a right b = elim b [ true ↦ turned_down 10 0 | false ↦ elim right [ true ↦ answering sh a | false ↦ turned_down 17 0 ] ]

module _ (s : List ℕ) (sh : Sheet) (q : reading s ≡ accepted sh) (z : List ℕ) where
  -- whatever is read off the outcome that does not depend on the sheet beside the entry
  alike : {A : Type 0} (look : Outcome → A) → ((e : Entry) → look (answering sh (some e)) ≡ look (answering (without_fills sh) (some e))) → (nc nt : ℕ) → look (outcome_at s z nc nt) ≡ look (outcome_at (encode (without_fills sh)) z nc nt)
  unfolding outcome_at in_bounds
  alike look same nc nt =
      ap (λ (r : Reading). look (consider_at r z nc nt)) q
      ∙ step (answer_at sh z) (candidate_sizes sh z) (short sh nc nt)
      ∙ ap (λ (a : Option Entry). look (branch (without_fills sh) a (candidate_sizes sh z) (short sh nc nt))) ((passes_over sh).same_at z)
      ∙ sym (ap (λ (r : Reading). look (consider_at r z nc nt)) (unfilled_read s sh q))
    where
      step : (a : Option Entry) (right b : Bool) → look (branch sh a right b) ≡ look (branch (without_fills sh) a right b)
      step a right true = refl
      step a false false = refl
      step none true false = refl
      step (some e) true false = same e

  pub find_at_passes : (nc nt : ℕ) → finding_at s z nc nt ≡ finding_at (encode (without_fills sh)) z nc nt
  unfolding finding_at
  find_at_passes = alike finds (λ e. refl)

  pub codes_pass_at : (cs ts : List ℕ) → codes_after_at s z cs ts ≡ codes_after_at (encode (without_fills sh)) z cs ts
  unfolding codes_after_at
  codes_pass_at cs ts = alike (λ o. codes_in o cs) (λ e. refl) (length cs) (length ts)
