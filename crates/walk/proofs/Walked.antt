-- What every call of walk gives back and leaves in the trail: when it writes, what it has written then, and with which numbers it is turned down.
use Prim.Native.Nat.{ℕ, ◌+◌, ◌≤◌, ◌<◌}
use native.Mathlib.Omega.{arith}
use mathlib.Core.Path.{◌≡◌, refl, ap, ap₂, sym, ◌∙◌, subst}
use mathlib.Core.Logic.{◌⊎◌, inl, inr, ◌↔◌}
use mathlib.Core.List.{List, []}
use lib.ListN.{length, take, drop}
use Rattle.std.specs.Prelude.{Result, Ok, Err}
use Rattle.prelude.specs.Causes.{number_of, refusal}
use Rattle.prelude.specs.declared.refusal.Refusal.{Refusal}
use Rattle.prelude.specs.Lists.{at}
use Rattle.prelude.specs.Pasted.{pasted}
use Rattle.prelude.proofs.Pasted.{pasted_none, pasted_before, pasted_there, pasted_behind, at_pasted}
use Rattle.logic.specs.Sheet.{Sheet}
use Rattle.layout.specs.Layout.{accepted, reading, InSheet}
use Rattle.sheet.proofs.Refusals.{refused_in_sheet}
use Rattle.tables.specs.Layout.{decoded, WellLaid}
use Rattle.tables.proofs.Laid.{well_laid_test, laid_interprets}
use Rattle.walk.specs.Walk.{walk, Outcome, turned_down, walked, outcome, walking, trail_after}
use Rattle.walk.specs.Promise.{Walkable, Allowed, Walked}
use Rattle.walk.proofs.Steps.{length_walk, walk_at, walk_below}
use Rattle.walk.proofs.Events.{walkable_test, not_walkable}
use Rattle.walk.proofs.Outcomes.{outcome_refused, outcome_short, outcome_malformed, outcome_absent, outcome_walked, Way, unread, short, malformed, absent, there, way, result_of_lem, trail_of}

module _ (sheet t : List ℕ) (s c : ℕ) (fs : List ℕ) (room start : ℕ) where
  -- a call that is allowed walks
  pub allowed_walks : (sh : Sheet) → reading sheet ≡ accepted sh → Allowed sh t s c fs room start → outcome sheet t s c fs room start ≡ walked (walk (decoded sh t) c fs)
  allowed_walks sh q a =
      outcome_walked sheet t s c fs room start sh q a.fits ((well_laid_test sh t).1 a.laid) ((walkable_test sh t s c fs).1 a.walkable)

  -- and only such a call says that it has written
  written_allowed : (n : ℕ) → walking sheet t s c fs room start ≡ Ok n → (sh : Sheet) × (reading sheet ≡ accepted sh) × Allowed sh t s c fs room start
  written_allowed n e = go (way sheet t s c fs room start)
    where
      not_turned_down : (m i : ℕ) → outcome sheet t s c fs room start ≡ turned_down m i → ⊥
      not_turned_down m i q =
          let r : Ok n ≡ Err (refusal m i) = sym e ∙ result_of_lem sheet t s c fs room start (turned_down m i) q in
          cc

      go : Way sheet t s c fs room start → (sh : Sheet) × (reading sheet ≡ accepted sh) × Allowed sh t s c fs room start
      go (unread m i q) = absurd (not_turned_down m i (outcome_refused sheet t s c fs room start m i q))
      go (short sh q h) = absurd (not_turned_down 10 0 (outcome_short sheet t s c fs room start sh q h))
      go (malformed sh q h l) = absurd (not_turned_down 12 0 (outcome_malformed sheet t s c fs room start sh q h l))
      go (absent sh q h l w) = absurd (not_turned_down 15 0 (outcome_absent sheet t s c fs room start sh q h l w))
      go (there sh q h l w) = (sh, q, record { fits = h; laid = (well_laid_test sh t).0 l; walkable = (walkable_test sh t s c fs).0 w })

  -- whatever sheet the bytes are read as
  pub written_of : (sh : Sheet) → reading sheet ≡ accepted sh → (n : ℕ) → walking sheet t s c fs room start ≡ Ok n → Allowed sh t s c fs room start
  written_of sh q n e =
      let w = written_allowed n e in
      let both : accepted w.0 ≡ accepted sh = sym w.1 ∙ q in
      let same : w.0 ≡ sh = cc in
      subst (λ (x : Sheet). Allowed x t s c fs room start) same w.2

  -- THEOREM: on an accepted sheet a call writes a code for each event exactly when no cause behind the sheet's own applies
  pub written_exactly : (sh : Sheet) → reading sheet ≡ accepted sh → (walking sheet t s c fs room start ≡ Ok (length fs)) ↔ Allowed sh t s c fs room start
  written_exactly sh q =
      (written_of sh q (length fs), λ a. result_of_lem sheet t s c fs room start _ (allowed_walks sh q a) ∙ ap Ok (length_walk (decoded sh t) c fs))

  -- THEOREM: 15 exactly when the walk is not well-formed, where no earlier cause applies
  pub fifteen_exactly : (sh : Sheet) → reading sheet ≡ accepted sh → start + length fs ≤ room → WellLaid sh t → (walking sheet t s c fs room start ≡ Err (refusal 15 0)) ↔ (Walkable sh t s c fs → ⊥)
  fifteen_exactly sh q h l = (
    λ e w.
        let r : Err (refusal 15 0) ≡ Ok (length (walk (decoded sh t) c fs)) = sym e ∙ result_of_lem sheet t s c fs room start _ (allowed_walks sh q (record { fits = h; laid = l; walkable = w })) in
        cc,
    λ n. result_of_lem sheet t s c fs room start _ (outcome_absent sheet t s c fs room start sh q h ((well_laid_test sh t).1 l) (not_walkable sh t s c fs n)),
  )

  -- THEOREM: the numbers that it refuses with are those of reading, 10, 12 and 15, from 10 on with place 0
  pub refusal_number_lem : (r : Refusal) → walking sheet t s c fs room start ≡ Err r → InSheet (number_of r.cause) ⊎ (((number_of r.cause ≡ 10) ⊎ ((number_of r.cause ≡ 12) ⊎ (number_of r.cause ≡ 15))) × (r.place ≡ 0))
  refusal_number_lem r e = go (way sheet t s c fs room start)
    where
      Listed : Refusal → Type 0
      Listed q = InSheet (number_of q.cause) ⊎ (((number_of q.cause ≡ 10) ⊎ ((number_of q.cause ≡ 12) ⊎ (number_of q.cause ≡ 15))) × (q.place ≡ 0))

      same : (m j : ℕ) → outcome sheet t s c fs room start ≡ turned_down m j → refusal m j ≡ r
      same m j q = let z : Err (refusal m j) ≡ Err r = sym (result_of_lem sheet t s c fs room start (turned_down m j) q) ∙ e in cc

      go : Way sheet t s c fs room start → Listed r
      go (unread m j q) = subst Listed (same m j (outcome_refused sheet t s c fs room start m j q)) (inl (refused_in_sheet sheet m j q))
      go (short sh q h) = subst Listed (same 10 0 (outcome_short sheet t s c fs room start sh q h)) (inr (inl refl, refl))
      go (malformed sh q h l) = subst Listed (same 12 0 (outcome_malformed sheet t s c fs room start sh q h l)) (inr (inr (inl refl), refl))
      go (absent sh q h l w) = subst Listed (same 15 0 (outcome_absent sheet t s c fs room start sh q h l w)) (inr (inr (inr refl), refl))
      go (there sh q h l w) =
          let z : Err r ≡ Ok (length (walk (decoded sh t) c fs)) = sym e ∙ result_of_lem sheet t s c fs room start _ (outcome_walked sheet t s c fs room start sh q h l w) in
          absurd cc

module _ (sheet t : List ℕ) (s c : ℕ) (fs trail : List ℕ) (start : ℕ) where
  -- THEOREM: a refused call leaves the trail as it was
  pub refused_untouched : (r : Refusal) → walking sheet t s c fs (length trail) start ≡ Err r → trail_after sheet t s c fs trail start ≡ trail
  refused_untouched r e = step (outcome sheet t s c fs (length trail) start) refl
    where
      step : (o : Outcome) → outcome sheet t s c fs (length trail) start ≡ o → trail_after sheet t s c fs trail start ≡ trail
      step (turned_down m j) q = trail_of sheet t s c fs trail start (turned_down m j) q
      step (walked cs) q =
          let z : Err r ≡ Ok (length cs) = sym e ∙ result_of_lem sheet t s c fs (length trail) start (walked cs) q in
          absurd cc

  -- THEOREM: what a call has written
  pub written_walked : (n : ℕ) → walking sheet t s c fs (length trail) start ≡ Ok n → Walked sheet t s c fs trail start n
  written_walked n e =
      let w = written_allowed sheet t s c fs (length trail) start n e in
      let sh = w.0 in
      let a = w.2 in
      let M = decoded sh t in
      let o = allowed_walks sheet t s c fs (length trail) start sh w.1 a in
      let r : ◌≡◌ {A = Result ℕ Refusal} (Ok n) (Ok (length (walk M c fs))) = sym e ∙ result_of_lem sheet t s c fs (length trail) start _ o in
      let long : n ≡ length (walk M c fs) = cc in
      let many : n ≡ length fs = long ∙ length_walk M c fs in
      let fits : start + length (walk M c fs) ≤ length trail = omega (arith, a.fits, long, many) in
      let after : trail_after sheet t s c fs trail start ≡ pasted trail start (walk M c fs) = trail_of sheet t s c fs trail start _ o in
      record {
        read = sh;
        reads = w.1;
        allowed = a;
        many = many;
        before = rw after (pasted_before trail start (walk M c fs) (omega arith));
        codes = ap₂ (λ (m : ℕ) (l : List ℕ). take m (drop start l)) long after ∙ pasted_there trail start (walk M c fs) (omega arith);
        code = λ k h.
            ap (λ (l : List ℕ). at l (start + k)) after
            ∙ at_pasted trail start (walk M c fs) k (omega arith) (omega (arith, long))
            ∙ walk_at M c fs k (omega (arith, many));
        below = λ k h.
            let stands : at (trail_after sheet t s c fs trail start) (start + k) ≡ at (walk M c fs) k =
            ap (λ (l : List ℕ). at l (start + k)) after ∙ at_pasted trail start (walk M c fs) k (omega arith) (omega (arith, long)) in
            subst (λ (x : ℕ). x < at t s) (sym stands)
            (walk_below sh M (laid_interprets sh t a.laid) s c fs a.walkable.code a.walkable.event k (omega (arith, many)));
        behind = ap₂ (λ (m : ℕ) (l : List ℕ). drop (start + m) l) long after ∙ pasted_behind trail start (walk M c fs) fits ∙ ap (λ (m : ℕ). drop (start + m) trail) (sym long);
      }

-- THEOREM: without an event nothing is written
pub no_event : (sheet t : List ℕ) (s c : ℕ) (trail : List ℕ) (start : ℕ) → trail_after sheet t s c [] trail start ≡ trail
no_event sheet t s c trail start = go (way sheet t s c [] (length trail) start)
  where
    go : Way sheet t s c [] (length trail) start → trail_after sheet t s c [] trail start ≡ trail
    go (unread m i q) = trail_of sheet t s c [] trail start _ (outcome_refused sheet t s c [] (length trail) start m i q)
    go (short sh q h) = trail_of sheet t s c [] trail start _ (outcome_short sheet t s c [] (length trail) start sh q h)
    go (malformed sh q h l) = trail_of sheet t s c [] trail start _ (outcome_malformed sheet t s c [] (length trail) start sh q h l)
    go (absent sh q h l w) = trail_of sheet t s c [] trail start _ (outcome_absent sheet t s c [] (length trail) start sh q h l w)
    go (there sh q h l w) = trail_of sheet t s c [] trail start _ (outcome_walked sheet t s c [] (length trail) start sh q h l w) ∙ pasted_none trail start
