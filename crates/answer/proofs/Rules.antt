-- The answer does not depend on what the cells hold that no term reaches: whichever rule gives them their codes, as long as these are in range, an entry is the
-- answer exactly when some structure answers with it by that rule.
use Prim.Native.Nat.{ℕ, ◌<◌}
use mathlib.Core.Path.{◌≡◌, ap, ap₂, sym, ◌∙◌, subst}
use mathlib.Core.Logic.{inl, inr, ◌↔◌}
use mathlib.Core.List.{List, map}
use mathlib.Core.Option.{some}
use lib.ListN.{length}
use Rattle.logic.specs.Sheet.{Sheet, symbol_at, term_at, fill_at}
use Rattle.logic.specs.WellFormed.{WellFormed}
use Rattle.logic.specs.Structure.{Structure, InSorts}
use Rattle.logic.proofs.Orders.{no_later_both}
use Rattle.logic.proofs.Meaning.{code_is, of_one_argument}
use Rattle.prelude.specs.Lists.{at}
use Rattle.layout.specs.Layout.{accepted, reading}
use Rattle.layout.proofs.Answers.{accepted_well_formed}
use Rattle.answer.specs.Answer.{Entry, Rule, answer, structure_with, structure_of, unforced}
use Rattle.answer.specs.Demand.{Answers, Unreached, ToItself, Unforced, AnswersBy, SameAnswer, StaysInRange}
use Rattle.answer.proofs.Lists.{found_or_none}
use Rattle.answer.proofs.Listing.{chosen}
use Rattle.answer.proofs.Demand.{demand, answers_with, made_unreached, to_itself_or_not, unforced_kept, unforced_by, fits_nonempty, unforced_in_range}

module _ (sh : Sheet) (w : WellFormed sh) where
  -- a structure that answers a sheet answers it with its answer
  pub answers_only : (e : Entry) (M : Structure) → Answers sh e M → answer sh ≡ some e
  answers_only e M a =
      elim (found_or_none (answer sh)) [
        | inl q ↦ absurd ((demand sh w).refuses.0 q M a.candidate a.satisfies)
        | inr r ↦ r.1 ∙ ap some (same r.0 ((demand sh w).finds r.0 r.1))
      ]
    where
      entry : List ℕ → List ℕ → Entry
      entry sizes codes = record { sizes = sizes; codes = codes }

      same : (d : Entry) → Answers sh d (structure_of sh d) → d ≡ e
      same d b =
          let both = no_later_both sh (structure_of sh d) M (b.first M a.candidate a.satisfies) (a.first (structure_of sh d) b.candidate b.satisfies) in
          ap₂ entry (sym b.sizes ∙ both.0 ∙ a.sizes) (sym b.codes ∙ both.1 ∙ a.codes)

  -- AN ENTRY IS THE ANSWER exactly when some structure answers with it by the rule
  pub answer_by : (rule : Rule) → StaysInRange rule sh → (e : Entry) → (answer sh ≡ some e) ↔ ((M : Structure) × AnswersBy rule sh e M)
  answer_by rule range e = (
    λ q. (
      structure_with (rule sh e) sh e,
      record {
        answers = answers_with sh w e q (rule sh e) (range e q);
        unreached = λ f h xs i free. made_unreached sh w e (chosen sh w e q).fits (rule sh e) f xs free;
      },
    ),
    λ r. answers_only e r.0 r.1.answers,
  )

  -- a term's code stands in its cell
  pub cell_of_term : (e : Entry) (M : Structure) → Answers sh e M → (i : ℕ) → i < length sh.terms → at e.codes i ≡ M.table (term_at sh i).symbol (map (at e.codes) (term_at sh i).args)
  cell_of_term e M a i h =
      subst (λ (cs : List ℕ). at cs i ≡ M.table (term_at sh i).symbol (map (at cs) (term_at sh i).args)) a.codes (code_is M sh w i h)

  same_answer : (rule other : Rule) → StaysInRange rule sh → StaysInRange other sh → SameAnswer rule other sh
  same_answer rule other range range' =
      record {
        answered = λ e. (
          λ r. (answer_by other range' e).0 ((answer_by rule range e).1 r),
          λ r. (answer_by rule range e).0 ((answer_by other range' e).1 r),
        );
        entry = λ e d M N a b. one e d (sym (answers_only e M a.answers) ∙ answers_only d N b.answers);
        reached = λ e M N a b i h. sym (cell_of_term e M a.answers i h) ∙ cell_of_term e N b.answers i h;
      }
    where
      one : (e d : Entry) → some e ≡ some d → e ≡ d
      one e d q = cc

-- what answers a sheet and has unforced cells as `Unforced` says, answers it by the rule `unforced`
pub by_unforced : (sh : Sheet) (e : Entry) (M : Structure) → Answers sh e M → Unforced sh M → AnswersBy unforced sh e M
by_unforced sh e M a u = record { answers = a; unreached = step }
  where
    step : (f : ℕ) → f < length sh.symbols → (xs : List ℕ) → InSorts M.size (symbol_at sh f).params xs → Unreached sh M f xs → M.table f xs ≡ unforced sh e f xs
    step f h xs i free =
        elim (to_itself_or_not sh f) [
          | inl k ↦
              of_one_argument M.size (symbol_at sh f).result (symbol_at sh f).params k (λ ys. Unreached sh M f ys → M.table f ys ≡ unforced sh e f ys)
              (λ x l unreached. u.kept f h k x l unreached ∙ sym (unforced_kept sh e f x k)) xs i free
          | inr r ↦
              unforced_by sh e f xs r.0 (λ v. M.table f xs ≡ v)
              (λ k l q. subst (λ (g : ℕ). (ToItself sh g → ⊥) → InSorts M.size (symbol_at sh g).params xs → Unreached sh M g xs → M.table g xs ≡ at e.codes (fill_at sh k).term) q
              (λ other j unreached. u.filled k l other xs j unreached ∙ ap (λ (cs : List ℕ). at cs (fill_at sh k).term) a.codes) r.0 i free)
              (λ bare. u.zero f h r.0 bare xs i free)
        ]

-- THEOREM: by any two rules that stay in range every accepted sheet has the same answer but for the cells that no term reaches
pub rules_agree : (s : List ℕ) (sh : Sheet) → reading s ≡ accepted sh → (rule other : Rule) → StaysInRange rule sh → StaysInRange other sh → SameAnswer rule other sh
rules_agree s sh q = same_answer sh (accepted_well_formed s sh q)

-- so it is by the rule that all these cells hold 0, and by the rule `unforced`
pub zeros_agree : (s : List ℕ) (sh : Sheet) → reading s ≡ accepted sh → SameAnswer (λ sh e f xs. 0) unforced sh
zeros_agree s sh q =
    let w : WellFormed sh = accepted_well_formed s sh q in
    rules_agree s sh q (λ sh e f xs. 0) unforced (λ e r f h xs i. fits_nonempty sh w (at e.sizes) (at e.codes) (chosen sh w e r).fits (symbol_at sh f).result (w.result f h)) (unforced_in_range sh w)
