-- `congruence::merged` meets its contract. The places passed are relabelled.
use mathlib.Core.Path.{◌≡◌, ap, ◌∙◌}
use lib.ListN.{length}
use Prim.Native.Nat.{ℕ}
use Rattle.prelude.specs.Lists.{at}
use Rattle.congruence.specs.Closure.{relabel}
use Rattle.congruence.proofs.Replacing.{replaced_none, replaced_more, replaced_map}
use native.Mathlib.Omega.{arith}
use Rattle.congruence.proofs.merged.Goals as goal

pub loop-label-init : goal.loop-label-init
loop-label-init c = let long : length c.args.labels ≡ 128 = omega arith in replaced_none _ _ long

pub loop-label-preserved : goal.loop-label-preserved
loop-label-preserved c =
    let lo = c.args.lo in
    let hi = c.args.hi in
    let old = c.args.labels in
    let k = c.loop-label.label-index in
    let so = c.loop-label.invariant in
    let old-label = so.rest k (omega arith) in
    let f : ℕ → ℕ = λ x. relabel lo hi (at old x) in
    replaced_more f old k _ so _ (omega arith) (c.relabelled.ensures ∙ ap (relabel lo hi) old-label)

pub returns : goal.returns
returns c =
    let long : length c.args.labels ≡ 128 = omega arith in
    let full : c.loop-label.label-index ≡ 128 = omega arith in
    replaced_map _ _ _ long (rw full at c.loop-label.invariant)
