-- `least_sizes::raise` meets its contract: every floor passed is raised.
use Prim.Native.Nat.{ℕ}
use mathlib.Core.Path.{refl, subst}
use Rattle.layout.specs.Packed.{view}
use Rattle.least_sizes.specs.Parts.{Edge}
use Rattle.least_sizes.proofs.Regions.{raising_more}
use Rattle.least_sizes.proofs.raise.Goals as goal

pub loop-s-preserved : goal.loop-s-preserved
loop-s-preserved c =
    raising_more _ _ c.args.high _ _ _ _ c.requires.searchable.sorted c.requires.searchable.sorts c.loop-s-test.true c.requires.greatest c.loop-s.invariant c.wide-lo.ensures.0
    (subst (λ (hi : ℕ). Edge (view c.args.p) c.args.high c.loop-s.s c.wide-lo.result hi c.edge.result) c.wide-hi.ensures.0 c.edge.ensures)
    c.well_formed.1.0.1.0.1 refl
