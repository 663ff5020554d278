-- `assembling::limits::all_pairs` meets its contract: the pairs of the fields passed have been counted.
use Prim.Native.Nat.{ℕ, ◌<◌}
use native.Mathlib.Numerals.{add-one}
use native.Mathlib.Omega.{arith}
use mathlib.Core.Path.{◌≡◌, ap, ◌∙◌}
use Rattle.std.proofs.lemmas.List.{length-take-le, get_or-take}
use Rattle.prelude.specs.Lists.{at, sum_to}
use Rattle.assembling.specs.Parts.{pairs}
use Rattle.assembling.proofs.limits.all_pairs.Goals as goal

pub loop-size-preserved : goal.loop-size-preserved
loop-size-preserved c =
    let l = c.loop-size in
    let s = l.size-index in
    let more : s < c.args.n = omega (arith, length-take-le c.args.n c.args.sizes (omega arith)) in (
      omega (
        arith,
        l.invariant,
        c.pairs_of-sum.ensures.0,
        ap pairs (c.wide.ensures.0 ∙ get_or-take c.args.n c.args.sizes s 0 more),
        ap (λ (k : ℕ). sum_to k (λ i. pairs (at c.args.sizes i))) (add-one s),
      ),
      omega (arith, l.invariant, c.pairs_of-sum.ensures.1),
    )

pub returns : goal.returns
returns c =
    let l = c.loop-size in
    let last : l.size-index ≡ c.args.n = omega (arith, length-take-le c.args.n c.args.sizes (omega arith)) in
    (omega (arith, l.invariant, ap (λ (k : ℕ). sum_to k (λ i. pairs (at c.args.sizes i))) last), omega (arith, l.invariant))
