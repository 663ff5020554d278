-- `bundle::sums_of` meets its contract.
use Prim.Native.Nat.{ℕ, ◌+◌, ◌-◌, ◌<◌}
use native.Mathlib.Omega.{arith}
use mathlib.Core.Path.{◌≡◌, ap, sym, ◌∙◌}
use mathlib.Core.List.{List}
use lib.ListN.{take, drop, length-set, length-take}
use Rattle.prelude.specs.Lists.{at}
use Rattle.std.specs.Prelude.{Result, Err}
use Rattle.prelude.specs.Causes.{cause_of}
use Rattle.prelude.specs.declared.refusal.Refusal.{Refusal}
use Rattle.bundle.specs.Bundle.{sheet_in, smallest, told, gives, answered, Outcome}
use Rattle.bundle.specs.Promise.{part_at}
use Rattle.bundle.specs.Parts.{Inside}
use Rattle.bundle.specs.declared.Parts.{Parts}
use Rattle.bundle.proofs.Smallest.{smallest_most, alone_place, told_sum, told_refusal}
use Rattle.bundle.proofs.Located.{there, starts_at, sheet_there}
use Rattle.bundle.proofs.Summing.{added_refused, added_next, added_all, sharing_front}
use Rattle.bundle.proofs.sums_of.Goals as goal

-- what comes of a sheet at hand is the sheet's own answer
own : (s : List ℕ) (found : Parts) (k : Inside s found) (i : ℕ) → i < found.many → (r : Result ℕ Refusal)
    → r ≡ told (smallest (take (at found.ends i - at found.starts i) (drop (at found.starts i) s))) → r ≡ told (smallest (sheet_in s (part_at k.parts i)))
own s found k i h r e = e ∙ ap (λ (l : List ℕ). told (smallest l)) (sheet_there s found k i h)

pub overflow_add-place : goal.overflow_add-place
overflow_add-place c =
    let s = c.args.s.now in
    let f = c.args.found in
    let i = c.loop-i.i in
    let h = c.loop-i-test.true in
    let k = c.requires in
    let p = part_at k.parts i in
    let x = told_refusal (smallest (sheet_in s p)) c.in-Err.r (own s f k i h _ c.in-Err.ensures) in
    let there' : c.in-Err.r.place ≡ x.1 = ap (λ (r : Refusal). r.place) x.3 in
    omega (
      arith,
      starts_at s f k i h,
      k.within i (there s f k i h),
      length-take p.len (drop p.start s),
      alone_place (sheet_in s p) x.0 x.1 x.2,
    )

pub returns-in-Err : goal.returns-in-Err
returns-in-Err c k =
    let s = c.args.s.now in
    let f = c.args.found in
    let i = c.loop-i.i in
    let h = c.loop-i-test.true in
    let x = told_refusal (smallest (sheet_in s (part_at k.parts i))) c.in-Err.r (own s f k i h _ c.in-Err.ensures) in
    ap (λ (r : Refusal). Err (record { cause = r.cause; place = at f.starts i + r.place })) x.3
    ∙ ap (λ (m : ℕ). Err (record { cause = cause_of x.0; place = m + x.1 })) (starts_at s f k i h)
    ∙ ap (λ (o : Outcome). answered (gives c.args.limit o)) (added_refused s k.parts i c.loop-i.sums (c.loop-i.invariant.0 k) (there s f k i h) x.0 x.1 x.2)

pub overflow_cast-sums : goal.overflow_cast-sums
overflow_cast-sums c =
    let s = c.args.s.now in
    let f = c.args.found in
    let i = c.loop-i.i in
    let k = c.requires in
    let p = part_at k.parts i in
    omega (arith, smallest_most (sheet_in s p) c.in-Ok.sum (told_sum (smallest (sheet_in s p)) c.in-Ok.sum (own s f k i c.loop-i-test.true _ c.in-Ok.ensures)))

pub loop-i-preserved : goal.loop-i-preserved
loop-i-preserved c =
    let s = c.args.s.now in
    let f = c.args.found in
    let i = c.loop-i.i in
    let h = c.loop-i-test.true in
    let l = c.loop-i.sums in
    let g = c.loop-i.invariant in (
      (λ k. added_next s k.parts i l (g.0 k) (there s f k i h) c.in-Ok.sum (told_sum (smallest (sheet_in s (part_at k.parts i))) c.in-Ok.sum (own s f k i h _ c.in-Ok.ensures)) (omega (arith, g.1, there s f k i h, k.few))),
      length-set l i _ ∙ g.1,
      g.2,
    )

pub returns : goal.returns
returns c k =
    let l = c.loop-i in
    let g = l.invariant.0 k in
    c.settled.ensures
    ∙ ap answered
    (sym (sharing_front l.i l.sums (omega (arith, g.within, k.few)) l.invariant.1 g.clear c.args.limit)
    ∙ ap (gives c.args.limit) (sym (added_all c.args.s.now k.parts l.i l.sums g (omega (arith, k.located.many, c.loop-i-test.false)))))
