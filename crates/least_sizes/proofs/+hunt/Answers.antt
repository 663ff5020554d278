-- `least_sizes::hunt` meets its contract.
use Prim.Native.Nat.{ℕ, ◌<◌, ◌-◌}
use mathlib.Core.Path.{refl, subst}
use Rattle.prelude.specs.Lists.{at, sum_to}
use Rattle.least_sizes.proofs.Regions.{hunting_skip, hunting_more, down_region, down_fewer, hunted_all}
use Rattle.least_sizes.proofs.+hunt.Goals as goal
use Rattle.least_sizes.proofs.+hunt.Goals.{then-b-u, else-b-u}

pub hunt-after-requires : goal.hunt-after-requires
hunt-after-requires t c =
    let i = c.loop-s.invariant in
    let inside = c.in-Boxed.ensures.inside in (
      subst (λ (n : ℕ). sum_to c.args.p.now.sorts (at c.loop-s.up) - sum_to c.args.p.now.sorts (at c.with_size-down.result) < n) c.decreases
          (down_fewer _ _ _ _ _ _ _ c.loop-s.up c.loop-s.s _ _ c.requires.searchable.sorts c.loop-s-test.true i c.wide-b.ensures.0 c.wide-u.ensures.0 inside c.if-b-u.true c.with_size-down.result c.args.low (λ j. refl) c.well_formed.1.0.1.0.1 c.with_size-down.ensures),
      (
        c.requires.searchable,
        (
          down_region _ _ _ _ _ _ _ c.loop-s.up c.loop-s.s _ _ c.requires.searchable.sorts c.loop-s-test.true i c.wide-b.ensures.0 c.wide-u.ensures.0 inside c.if-b-u.true c.with_size-down.result c.args.low (λ j. refl) c.well_formed.1.0.1.0.1 c.with_size-down.ensures,
          (c.requires.bound_le_total, i.candidate),
        ),
      ),
    )

pub loop-s-preserved : goal.loop-s-preserved
loop-s-preserved t c =
    let i = c.loop-s.invariant in
    let inside = c.in-Boxed.ensures.inside in
    elim c.if-b-u.branch [
      | then-b-u w ↦
          rw (w.after-is, w.up-is)
          (hunting_more _ _ _ _ _ _ _ c.loop-s.up c.loop-s.s _ _ c.requires.searchable.sorts c.loop-s-test.true i c.wide-b.ensures.0 c.wide-u.ensures.0 inside w.if-b-u.true w.with_size-down.result c.args.low (λ j. refl) c.well_formed.1.0.1.0.1 w.with_size-down.ensures _ _ w.hunt-after.ensures refl)
      | else-b-u w ↦
          rw (w.after-is, w.up-is)
          (hunting_skip _ _ _ _ _ _ _ c.loop-s.up c.loop-s.s _ _ c.requires.searchable.sorts c.loop-s-test.true i c.wide-b.ensures.0 c.wide-u.ensures.0 w.if-b-u.false)
    ]

pub returns : goal.returns
returns t c = hunted_all _ _ _ _ _ _ _ c.loop-s.up c.loop-s.s c.requires.searchable.sorted c.loop-s-test.false c.in-Boxed.ensures.barren c.loop-s.invariant
