-- `walk::write_walk` meets its contract. The codes of the events so far stand in front of the stretch, and the walk is at the code of the last one; an event more is `walked_more`.
use Prim.Native.Nat.{◌<◌}
use native.Mathlib.Omega.{arith}
use mathlib.Core.Path.{◌≡◌, refl, ◌∙◌}
use lib.ListN.{length, length-set}
use Rattle.prelude.specs.Lists.{at}
use Rattle.tables.specs.Layout.{decoded}
use Rattle.tables.proofs.Whole.{laying}
use Rattle.walk.proofs.Steps.{walked_none, walked_more, walked_all}
use Rattle.walk.proofs.Events.{all_stay_test, code_after}
use Rattle.walk.proofs.write_walk.Goals as goal

pub loop-k-init : goal.loop-k-init
loop-k-init c = (omega arith, c.requires.1, λ sh sort p e y a. walked_none _ _ _ _)

pub loop-k-preserved : goal.loop-k-preserved
loop-k-preserved c =
    let l = c in
    let s = l.args in
    let more : l.loop-k.k < length s.events.now = omega arith in (
      omega arith,
      length-set l.loop-k.out l.loop-k.k _ ∙ l.loop-k.invariant.1,
      λ sh sort p e y a.
          walked_more (decoded sh s.t.now) s.code s.events.now l.loop-k.out l.loop-k.k l.loop-k.c c.entry_of-next.result more (omega (arith, l.loop-k.invariant.1))
          (l.loop-k.invariant.2 sh sort p e y a)
          (code_after sh p _ _ s.t.now _ sort (at s.events.now l.loop-k.k) l.loop-k.c _ _ c.entry_of-next.result y ((all_stay_test sh sort s.events.now).0 a l.loop-k.k more) e
          c.wide.ensures.0
          c.wide-in-loop-k.ensures.0
          c.entry_of-next.ensures),
    )

pub returns : goal.returns
returns c =
    let l = c in
    let x = l in
    let s = x.args in
    let done : l.loop-k.k ≡ length s.events.now = omega arith in
    λ sh sort q a.
    walked_all (decoded sh s.t.now) s.code s.events.now l.loop-k.out l.loop-k.c l.loop-k.invariant.1
    (rw done at (l.loop-k.invariant.2 sh sort s.p refl (laying sh s.p _ _ s.t.now q x.sizes_of-sizes.ensures x.extents-offsets.ensures) a))
