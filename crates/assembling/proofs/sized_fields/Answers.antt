-- `assembling::sized_fields` meets its contract: the fields passed have been added, each at its size.
use Prim.Native.Nat.{ℕ, ◌<◌}
use native.Mathlib.Numerals.{add-one}
use native.Mathlib.Omega.{arith}
use mathlib.Core.Path.{◌≡◌, ap, sym, ◌∙◌}
use Rattle.std.proofs.lemmas.List.{length-take-le, get_or-take}
use Rattle.prelude.specs.Lists.{at}
use Rattle.prelude.proofs.Collect.{length_singles}
use Rattle.logic.specs.Sheet.{Bound}
use Rattle.layout.specs.Packed.{packed}
use Rattle.layout.proofs.Pack.{contents}
use Rattle.assembling.specs.Parts.{sized}
use Rattle.assembling.proofs.sized_fields.Goals as goal

pub loop-size-init : goal.loop-size-init
loop-size-init c = c.nothing-q.ensures

pub with_sort-q-requires : goal.with_sort-q-requires
with_sort-q-requires c =
    let l = c.loop-size in
    let s = l.size-index in
    omega (arith, length-take-le c.args.n c.args.sizes (omega arith), (contents l.q (sized s (at c.args.sizes)) l.invariant).sorts, length_singles {A = Bound} s (λ s. record { floor = at c.args.sizes s; ceiling = at c.args.sizes s }))

pub loop-size-preserved : goal.loop-size-preserved
loop-size-preserved c =
    let l = c.loop-size in
    let s = l.size-index in
    let more : s < c.args.n = omega (arith, length-take-le c.args.n c.args.sizes (omega arith)) in
    rw (get_or-take c.args.n c.args.sizes s 0 more) at (c.with_sort-q.ensures (sized s (at c.args.sizes)) l.invariant)
    ∙ ap (λ (n : ℕ). packed (sized n (at c.args.sizes))) (sym (add-one s))

pub returns : goal.returns
returns c =
    let l = c.loop-size in
    let last : l.size-index ≡ c.args.n = omega (arith, length-take-le c.args.n c.args.sizes (omega arith)) in
    l.invariant ∙ ap (λ (n : ℕ). packed (sized n (at c.args.sizes))) last
