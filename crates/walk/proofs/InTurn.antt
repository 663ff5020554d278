-- A walk over two lists of events, one after the other, is two walks in turn: of the codes it is `walk_both` (proofs/Steps.antt), and here of the calls, what they give back and what they leave in the trail.
use Prim.Native.Nat.{ℕ, ◌+◌, ◌-◌, ◌≤◌, ◌<◌}
use native.Mathlib.Decide.{dec_lt}
use native.Mathlib.Omega.{arith}
use mathlib.Core.Path.{◌≡◌, ap, sym, ◌∙◌, subst}
use mathlib.Core.List.{List, ◌++◌}
use lib.ListN.{length, length-append, get_or-append}
use lib.Seq.{get_or-append-add}
use Rattle.prelude.specs.Lists.{at}
use Rattle.prelude.specs.Pasted.{pasted}
use Rattle.prelude.proofs.Pasted.{length_pasted, pasted_more}
use Rattle.logic.specs.Sheet.{Sheet}
use Rattle.logic.specs.Structure.{Structure}
use Rattle.layout.specs.Layout.{accepted, reading}
use Rattle.tables.specs.Layout.{decoded}
use Rattle.tables.proofs.Laid.{laid_interprets}
use Rattle.walk.specs.Walk.{walk, end, trail_after}
use Rattle.walk.specs.Promise.{StaysIn, Allowed, InTurn, TwoLists}
use Rattle.walk.proofs.Steps.{length_walk, walk_both, end_below}
use Rattle.walk.proofs.Outcomes.{trail_of}
use Rattle.walk.proofs.Walked.{allowed_walks, written_exactly}

module _ (sh : Sheet) (t : List ℕ) (s c : ℕ) (fs gs : List ℕ) (room start : ℕ) where
  many : length (fs ++ gs) ≡ length fs + length gs
  many = length-append fs gs

  -- the whole is allowed exactly when both parts are
  first_allowed : Allowed sh t s c (fs ++ gs) room start → Allowed sh t s c fs room start
  first_allowed a =
      record {
        fits = omega (arith, a.fits, many);
        laid = a.laid;
        walkable =
            record {
              sort = a.walkable.sort;
              code = a.walkable.code;
              event = λ k h. subst (StaysIn sh s) (get_or-append fs gs 0 k h) (a.walkable.event k (omega (arith, many)));
            };
      }

  second_allowed : Allowed sh t s c (fs ++ gs) room start → Allowed sh t s (end (decoded sh t) c fs) gs room (start + length fs)
  second_allowed a =
      let f = (first_allowed a).walkable in
      record {
        fits = omega (arith, a.fits, many);
        laid = a.laid;
        walkable =
            record {
              sort = f.sort;
              code = end_below sh (decoded sh t) (laid_interprets sh t a.laid) s c fs f.code f.event;
              event = λ k h. subst (StaysIn sh s) (get_or-append-add fs gs k 0) (a.walkable.event (length fs + k) (omega (arith, many)));
            };
      }

  both_allowed : Allowed sh t s c fs room start → Allowed sh t s (end (decoded sh t) c fs) gs room (start + length fs) → Allowed sh t s c (fs ++ gs) room start
  both_allowed a b =
      record {
        fits = omega (arith, b.fits, many);
        laid = a.laid;
        walkable = record { sort = a.walkable.sort; code = a.walkable.code; event = λ k h. each k (omega (arith, many)) };
      }
    where
      each : (k : ℕ) → k < length fs + length gs → StaysIn sh s (at (fs ++ gs) k)
      each k h =
          elim (dec_lt k (length fs)) [
            | yes l ↦ subst (StaysIn sh s) (sym (get_or-append fs gs 0 k l)) (a.walkable.event k l)
            | no l ↦
                let rest : k ≡ length fs + (k - length fs) = omega arith in
                subst (StaysIn sh s) (sym (ap (at (fs ++ gs)) rest ∙ get_or-append-add fs gs (k - length fs) 0)) (b.walkable.event (k - length fs) (omega arith))
          ]

-- THEOREM: a call on two lists of events is two calls in turn
pub two_lists : (sheet t : List ℕ) (sh : Sheet) (s c : ℕ) (fs gs trail : List ℕ) (start : ℕ) → reading sheet ≡ accepted sh → TwoLists sheet t sh s c fs gs trail start
two_lists sheet t sh s c fs gs trail start q =
    record {
      writes = (
        λ e.
            let a = (written_exactly sheet t s c (fs ++ gs) room start sh q).0 e in
            record {
              first = (written_exactly sheet t s c fs room start sh q).1 (first_allowed sh t s c fs gs room start a);
              second = (written_exactly sheet t s between gs room (start + length fs) sh q).1 (second_allowed sh t s c fs gs room start a);
            },
        λ i. (written_exactly sheet t s c (fs ++ gs) room start sh q).1 (both_allowed sh t s c fs gs room start (first i) (second i)),
      );
      same = same;
    }
  where
    M : Structure
    M = decoded sh t

    room : ℕ
    room = length trail

    between : ℕ
    between = end M c fs

    first : InTurn sheet t sh s c fs gs trail start → Allowed sh t s c fs room start
    first i = (written_exactly sheet t s c fs room start sh q).0 i.first

    second : InTurn sheet t sh s c fs gs trail start → Allowed sh t s between gs room (start + length fs)
    second i = (written_exactly sheet t s between gs room (start + length fs) sh q).0 i.second

    same : InTurn sheet t sh s c fs gs trail start → trail_after sheet t s c (fs ++ gs) trail start ≡ trail_after sheet t s between gs (trail_after sheet t s c fs trail start) (start + length fs)
    same i =
        let a = first i in
        let b = second i in
        let long = length_walk M c fs in
        let fits : start + length (walk M c fs) ≤ length trail = omega (arith, a.fits, long) in
        let one = trail_of sheet t s c fs trail start _ (allowed_walks sheet t s c fs room start sh q a) in
        let wide : room ≡ length (trail_after sheet t s c fs trail start) = sym (ap length one ∙ length_pasted trail start (walk M c fs) fits) in
        let two = trail_of sheet t s between gs (trail_after sheet t s c fs trail start) (start + length fs) _
        (allowed_walks sheet t s between gs (length (trail_after sheet t s c fs trail start)) (start + length fs) sh q (subst (λ (n : ℕ). Allowed sh t s between gs n (start + length fs)) wide b)) in
        trail_of sheet t s c (fs ++ gs) trail start _ (allowed_walks sheet t s c (fs ++ gs) room start sh q (both_allowed sh t s c fs gs room start a b))
        ∙ ap (pasted trail start) (walk_both M c fs gs)
        ∙ sym (pasted_more trail start (walk M c fs) (walk M between gs) fits)
        ∙ ap (λ (n : ℕ). pasted (pasted trail start (walk M c fs)) (start + n) (walk M between gs)) long
        ∙ ap (λ (x : List ℕ). pasted x (start + length fs) (walk M between gs)) (sym one)
        ∙ sym two
