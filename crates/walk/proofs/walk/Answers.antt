-- `walk::walk` meets its contract: a refusal of the sheet is the parser's; then the trail is measured, the causes 12 and 15 are tested, and the stretch of the trail is filled with the walk.
use Prim.Native.Nat.{ℕ, ◌+◌, ◌-◌, ◌≤◌}
use native.Mathlib.Omega.{arith}
use mathlib.Core.Path.{◌≡◌, ap, sym, ◌∙◌}
use mathlib.Core.Bool.{Bool, true, false}
use mathlib.Core.List.{List}
use lib.ListN.{length, drop, length-drop}
use lib.Seq.{length-take-le}
use lib.Dec.{ltb}
use borrow.Author.Tests.{ltb-true, ltb-false}
use borrow.Rule.Slice.PartMut.{put_mid}
use Rattle.prelude.proofs.Pasted.{pasted_stretch}
use Rattle.sheet.proofs.Verdicts.{parsed_accepts, parsed_refuses}
use Rattle.logic.specs.Sheet.{Sheet}
use Rattle.tables.specs.Layout.{decoded}
use Rattle.tables.specs.Tests.{well_laid}
use Rattle.judge.proofs.Questions.{parsed_packs, parsed_limited}
use Rattle.walk.specs.Walk.{walk, all_stay, walkable, turned_down, walked, outcome, walking, trail_after}
use Rattle.std.specs.Prelude.{Ok, Err}
use Rattle.std.proofs.lemmas.Result.{err_from_is_err_and}
use Rattle.prelude.specs.Causes.{refusal}
use Rattle.prelude.specs.declared.refusal.Refusal.{Refusal}
use Rattle.walk.proofs.Steps.{length_walk}
use Rattle.walk.proofs.Events.{none_cause, walkable_test, all_stay_test}
use Rattle.walk.proofs.Outcomes.{outcome_refused, outcome_short, outcome_cause, outcome_walked, exit}
use Rattle.walk.proofs.walk.Goals as goal

-- where the trail is not too short, it has room
has_room : (room start many : ℕ) (short : Bool) → short ≡ ltb room (start + many) → short ≡ false → start + many ≤ room
has_room room start many short e h = ltb-false _ _ (sym e ∙ h)

-- where no cause applies, every event stays in the sort
stay : (sh : Sheet) (t : List ℕ) (s c : ℕ) (fs : List ℕ) → (well_laid sh t ≡ true) × (walkable sh t s c fs ≡ true) → all_stay sh s fs ≡ true
stay sh t s c fs tested = (all_stay_test sh s fs).1 ((walkable_test sh t s c fs).0 tested.1).event

-- a refusal, by the outcome
refused_exit :
    (sheet t : List ℕ) (s c : ℕ) (fs trail : List ℕ) (start n i : ℕ) (r : Refusal) → r ≡ refusal n i → outcome sheet t s c fs (length trail) start ≡ turned_down n i
    → (Err r ≡ walking sheet t s c fs (length trail) start) × (trail ≡ trail_after sheet t s c fs trail start)
refused_exit sheet t s c fs trail start n i r e o = let q = exit sheet t s c fs trail start (turned_down n i) o in (ap Err e ∙ q.0, q.1)

pub returns-in_err-p : goal.returns-in_err-p
returns-in_err-p c =
    let s = c.args in
    let p = err_from_is_err_and c.from_residual.result c.from_residual.ensures.1 in
    let f = parsed_refuses s.sheet.now c.in_err-p.field-0.0 c.in_err-p.ensures in
    let r = refused_exit s.sheet.now s.tables.now s.sort s.code s.events.now s.trail.now s.start f.number f.place c.in_err-p.field-0.0 f.same
    (outcome_refused s.sheet.now s.tables.now s.sort s.code s.events.now (length s.trail.now) s.start _ _ f.reads) in
    rw (p.1, p.2) (record { result = r.0; trail = r.1 })

pub returns-then-is_short : goal.returns-then-is_short
returns-then-is_short c =
    let s = c.args in
    let a = parsed_accepts s.sheet.now c.in_ok-p.p c.in_ok-p.ensures in
    let r = refused_exit s.sheet.now s.tables.now s.sort s.code s.events.now s.trail.now s.start 10 0 c.at.result c.at.ensures
    (outcome_short s.sheet.now s.tables.now s.sort s.code s.events.now (length s.trail.now) s.start a.sheet a.reads (ltb-true _ _ (sym c.is_short.ensures ∙ c.if-is_short.true))) in
    record { result = r.0; trail = r.1 }

pub admitted-requires : goal.admitted-requires
admitted-requires c = parsed_limited c.args.sheet.now c.in_ok-p.p c.in_ok-p.ensures

pub returns-in_err-admitted : goal.returns-in_err-admitted
returns-in_err-admitted c =
    let s = c.args in
    let p = err_from_is_err_and c.from_residual-in_err-admitted.result c.from_residual-in_err-admitted.ensures.1 in
    let a = parsed_accepts s.sheet.now c.in_ok-p.p c.in_ok-p.ensures in
    let f = outcome_cause s.sheet.now s.tables.now s.sort s.code s.events.now (length s.trail.now) s.start a.sheet a.reads c.in_err-admitted.field-0.0
    (has_room (length s.trail.now) s.start (length s.events.now) c.is_short.result c.is_short.ensures c.if-is_short.false)
    (c.in_err-admitted.ensures.tests a.sheet (parsed_packs s.sheet.now c.in_ok-p.p c.in_ok-p.ensures a)) in
    let r = refused_exit s.sheet.now s.tables.now s.sort s.code s.events.now s.trail.now s.start f.0 0 c.in_err-admitted.field-0.0 f.1 f.2 in
    rw (p.1, p.2) (record { result = r.0; trail = r.1 })

pub overflow_add-end : goal.overflow_add-end
overflow_add-end c = let s = c.args in let room = has_room (length s.trail.now) s.start (length s.events.now) c.is_short.result c.is_short.ensures c.if-is_short.false in omega arith

pub overflow_cast-code : goal.overflow_cast-code
overflow_cast-code c = omega (arith, c.in_ok-admitted.ensures.code)

pub slice_bounds-write_walk-end : goal.slice_bounds-write_walk-end
slice_bounds-write_walk-end c = let s = c.args in let room = has_room (length s.trail.now) s.start (length s.events.now) c.is_short.result c.is_short.ensures c.if-is_short.false in omega arith

pub write_walk-requires : goal.write_walk-requires
write_walk-requires c =
    let s = c.args in
    let room = has_room (length s.trail.now) s.start (length s.events.now) c.is_short.result c.is_short.ensures c.if-is_short.false in
    let many : s.start + length s.events.now - s.start ≡ length s.events.now = omega arith in (
      parsed_limited s.sheet.now c.in_ok-p.p c.in_ok-p.ensures,
      length-take-le (s.start + length s.events.now - s.start) (drop s.start s.trail.now) (omega (arith, length-drop s.start s.trail.now)) ∙ many,
    )

pub returns : goal.returns
returns c =
    let s = c.args in
    let a = parsed_accepts s.sheet.now c.in_ok-p.p c.in_ok-p.ensures in
    let k = parsed_packs s.sheet.now c.in_ok-p.p c.in_ok-p.ensures a in
    let room = has_room (length s.trail.now) s.start (length s.events.now) c.is_short.result c.is_short.ensures c.if-is_short.false in
    let tested = none_cause a.sheet s.tables.now s.sort s.code s.events.now c.in_ok-admitted.field-0 (c.in_ok-admitted.ensures.tests a.sheet k) in
    let codes = walk (decoded a.sheet s.tables.now) s.code s.events.now in
    let long = length_walk (decoded a.sheet s.tables.now) s.code s.events.now in
    let r =
    exit s.sheet.now s.tables.now s.sort s.code s.events.now s.trail.now s.start (walked codes)
    (outcome_walked s.sheet.now s.tables.now s.sort s.code s.events.now (length s.trail.now) s.start a.sheet a.reads room tested.0 tested.1) in
    record {
      result = ap Ok (sym long) ∙ r.0;
      trail =
          ap (λ (l : List ℕ). put_mid s.start (s.start + length s.events.now - s.start) s.trail.now l)
          (c.write_walk.ensures a.sheet s.sort k (stay a.sheet s.tables.now s.sort s.code s.events.now tested))
          ∙ pasted_stretch s.trail.now s.start (s.start + length s.events.now) codes (omega (arith, long))
          ∙ r.1;
    }
