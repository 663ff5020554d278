-- Find passes over fills but for unforced cells: the result and the codes are those of the sheet without them. What becomes of the tables is
-- `PassesOverFills` of answer/specs/Fills.antt.
use Prim.Native.Nat.{ℕ}
use mathlib.Core.Path.{◌≡◌, refl, ap, sym, ◌∙◌}
use mathlib.Core.Bool.{Bool, true, false}
use mathlib.Core.List.{List}
use mathlib.Core.Option.{Option, none, some}
use lib.ListN.{length}
use Rattle.logic.specs.Sheet.{Sheet, without_fills}
use Rattle.layout.specs.Layout.{Reading, accepted, reading}
use Rattle.layout.specs.Encode.{encode}
use Rattle.layout.proofs.Answers.{unfilled_read}
use Rattle.answer.specs.Answer.{Entry, answer}
use Rattle.answer.proofs.Fills.{passes_over}
use Rattle.find_at.specs.Found.{Outcome, turned_down, short, answering, finds, codes_in}
use Rattle.finder.specs.Find.{consider, outcome, finding, codes_after}

abbrev branch : Sheet → Option Entry → Bool → Outcome
branch sh a b = elim b [ true ↦ turned_down 10 0 | false ↦ answering sh a ]

module _ (s : List ℕ) (sh : Sheet) (q : reading s ≡ accepted sh) where
  -- whatever is read off the outcome that does not depend on the sheet beside the entry
  alike : {A : Type 0} (look : Outcome → A) → ((e : Entry) → look (answering sh (some e)) ≡ look (answering (without_fills sh) (some e))) → (nc nt : ℕ) → look (outcome s nc nt) ≡ look (outcome (encode (without_fills sh)) nc nt)
  unfolding outcome
  alike look same nc nt =
      ap (λ (r : Reading). look (consider r nc nt)) q
      ∙ step (answer sh) (short sh nc nt)
      ∙ ap (λ (a : Option Entry). look (branch (without_fills sh) a (short sh nc nt))) (passes_over sh).same
      ∙ sym (ap (λ (r : Reading). look (consider r nc nt)) (unfilled_read s sh q))
    where
      step : (a : Option Entry) (b : Bool) → look (branch sh a b) ≡ look (branch (without_fills sh) a b)
      step a true = refl
      step none false = refl
      step (some e) false = same e

  pub find_passes : (nc nt : ℕ) → finding s nc nt ≡ finding (encode (without_fills sh)) nc nt
  unfolding finding
  find_passes = alike finds (λ e. refl)

  pub codes_pass : (cs ts : List ℕ) → codes_after s cs ts ≡ codes_after (encode (without_fills sh)) cs ts
  unfolding codes_after
  codes_pass cs ts = alike (λ o. codes_in o cs) (λ e. refl) (length cs) (length ts)
