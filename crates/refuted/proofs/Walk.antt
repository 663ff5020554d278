-- The wrong programs of request (e) are refuted: what a call that writes has written (`Walked`), that only allowed calls write, and with which numbers a call is turned down.
use Rattle.prelude.specs.Causes.{refusal}
use Prim.Native.Nat.{ℕ, ◌+◌, ◌<◌}
use native.Mathlib.Nat.{add-zero}
use native.Mathlib.Omega.{arith}
use mathlib.Core.Path.{◌≡◌, refl, ap, sym, ◌∙◌}
use mathlib.Core.Logic.{inl, inr}
use mathlib.Core.List.{List}
use lib.ListN.{length}
use Rattle.prelude.specs.Lists.{at}
use Rattle.layout.specs.Layout.{accepted}
use Rattle.walk.specs.Walk.{Outcome, turned_down, walked, outcome}
use Rattle.walk.specs.Promise.{Walked}
use Rattle.walk.proofs.Outcomes.{result_of_lem, trail_of}
use Rattle.walk.proofs.Walked.{written_of, written_walked, refusal_number_lem}
use Rattle.refuted.specs.WrongWalk.{WalkCall, WalkProgram, MeetsWalk, WritingWalk, leads_to, code_before, WritesStartFirst, AppliesToStart, WritesUntested, AnswersThirteen, RefutedWalk}

module _ (p : WalkProgram) (meets : MeetsWalk p) where
  -- the bytes of a call that says that it has written
  module _ (c : WritingWalk p) where
    given : Walked c.call.sheet c.call.tables c.call.sort c.call.code c.call.events c.call.trail c.call.start c.many
    given = written_walked _ _ _ _ _ c.call.trail c.call.start c.many (sym (meets c.call).0 ∙ c.wrote)

    code_there : (k : ℕ) → k < length c.call.events → at (p.trail c.call) (c.call.start + k) ≡ leads_to p c k (code_before p c k)
    code_there k h =
        let both : accepted given.read ≡ accepted c.read = sym given.reads ∙ c.reads in
        let same : given.read ≡ c.read = cc in
        ap (λ (l : List ℕ). at l (c.call.start + k)) (meets c.call).1
        ∙ rw same at (given.code k (omega (arith, given.many)))

  not_writes_start_first : WritesStartFirst p → ⊥
  not_writes_start_first wrong =
      let c = wrong.0 in
      wrong.2 (sym (code_there c 0 wrong.1) ∙ ap (at (p.trail c.call)) (add-zero c.call.start) ∙ wrong.3)

  not_applies_to_start : AppliesToStart p → ⊥
  not_applies_to_start wrong = wrong.3 (sym wrong.4 ∙ code_there wrong.0 wrong.1 wrong.2)

  not_writes_untested : WritesUntested p → ⊥
  not_writes_untested wrong = step (outcome c.sheet c.tables c.sort c.code c.events (length c.trail) c.start) refl
    where
      c : WalkCall
      c = wrong.0

      step : (o : Outcome) → outcome c.sheet c.tables c.sort c.code c.events (length c.trail) c.start ≡ o → ⊥
      step (turned_down n i) q = wrong.6 ((meets c).1 ∙ trail_of _ _ _ _ _ c.trail c.start (turned_down n i) q)
      step (walked cs) q =
          let w = written_of c.sheet c.tables c.sort c.code c.events (length c.trail) c.start wrong.1 wrong.2 (length cs) (result_of_lem _ _ _ _ _ _ _ (walked cs) q) in
          wrong.5 (w.walkable.event wrong.3 wrong.4)

  not_answers_thirteen : AnswersThirteen p → ⊥
  not_answers_thirteen wrong =
      elim (refusal_number_lem _ _ _ _ _ _ _ (refusal 13 wrong.1) (sym (meets wrong.0).0 ∙ wrong.2)) [
        | inl l ↦ elim l [ inl x ↦ omega (arith, x.1) | inr e ↦ omega arith ]
        | inr l ↦ elim l.0 [ inl e ↦ omega arith | inr r ↦ elim r [ inl e ↦ omega arith | inr e ↦ omega arith ] ]
      ]

-- THEOREM: the wrong programs of request (e) are refuted
pub refuted_walk : RefutedWalk
refuted_walk =
    record {
      writes_start_first = not_writes_start_first;
      applies_to_start = not_applies_to_start;
      writes_untested = not_writes_untested;
      answers_thirteen = not_answers_thirteen;
    }
