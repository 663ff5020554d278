-- `assembling::starts_of` meets its contract: the sums before the fields passed stand in their places.
use Prim.Native.Nat.{ℕ, ◌+◌}
use native.Mathlib.Numerals.{add-one}
use native.Mathlib.Omega.{arith}
use mathlib.Core.Path.{◌≡◌, refl, ap}
use lib.ListN.{length-set}
use Rattle.prelude.specs.Lists.{at, sum_to}
use Rattle.prelude.proofs.Lists.{filled_more, sum_to_grows}
use Rattle.assembling.proofs.starts_of.Goals as goal

pub loop-s-init : goal.loop-s-init
loop-s-init c = (omega arith, refl, refl, omega arith, λ i h. absurd (omega arith))

pub loop-s-preserved : goal.loop-s-preserved
loop-s-preserved c =
    let l = c.loop-s in
    let sum : l.sum + c.wide-sum.result ≡ sum_to (l.s + 1) (at c.args.sizes) =
    omega (arith, l.invariant, c.wide-sum.ensures.0, ap (λ (k : ℕ). sum_to k (at c.args.sizes)) (add-one l.s)) in (
      omega arith,
      simp length-set l.invariant.1,
      sum,
      omega (arith, sum, c.requires, sum_to_grows (l.s + 1) c.args.n (at c.args.sizes) (omega arith)),
      filled_more (λ i. sum_to i (at c.args.sizes)) l.starts l.s l.sum (omega (arith, l.invariant)) l.invariant.2 l.invariant.4,
    )

pub returns : goal.returns
returns c s h = c.loop-s.invariant.4 s (omega arith)
