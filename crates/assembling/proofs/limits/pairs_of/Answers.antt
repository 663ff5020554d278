-- `assembling::limits::pairs_of` meets its contract: the pairs of the codes passed have been counted.
use Prim.Native.Nat.{ℕ, suc, ◌-◌}
use native.Mathlib.Numerals.{add-one}
use native.Mathlib.Omega.{arith}
use mathlib.Core.Path.{◌≡◌, refl, ap}
use Rattle.prelude.specs.Lists.{sum_to}
use Rattle.assembling.proofs.limits.pairs_of.Goals as goal

pub loop-c-init : goal.loop-c-init
loop-c-init c = (omega arith, omega (arith, c.requires), refl, omega arith)

pub loop-c-preserved : goal.loop-c-preserved
loop-c-preserved c =
    let l = c.loop-c in (
      omega arith,
      omega arith,
      omega (arith, l.invariant, ap (λ (k : ℕ). sum_to k (λ i. c.args.n - suc i)) (add-one l.c)),
      omega (arith, l.invariant),
    )

pub returns : goal.returns
returns c =
    let l = c.loop-c in
    let n = c.args.n in
    let last : l.c ≡ n = omega arith in
    (omega (arith, l.invariant, ap (λ (k : ℕ). sum_to k (λ i. n - suc i)) last), omega (arith, l.invariant))
