-- `assembling::codes::with_differs` meets its contract: the statements of the fields passed stand behind those that were there.
use Prim.Native.Nat.{ℕ, suc, ◌+◌, ◌-◌}
use native.Mathlib.Omega.{arith}
use mathlib.Core.Path.{◌≡◌, ap, ap₂, ◌∙◌}
use mathlib.Core.List.{List}
use lib.ListN.{length}
use Rattle.prelude.specs.Lists.{at, collect, sum_to}
use Rattle.prelude.proofs.Lists.{sum_to_grows, sum_to_same}
use Rattle.prelude.proofs.Collect.{length_collect}
use Rattle.layout.specs.Packed.{packed}
use Rattle.fitted_sheet.proofs.Lengths.{length_nested}
use Rattle.fitted_sheet.specs.FittedSheet.{differ}
use Rattle.assembling.specs.Parts.{differs_of, more_literals, pairs}
use Rattle.assembling.proofs.Growing.{literals_none, literals_next, literals_building, literals_count}
use Rattle.assembling.proofs.codes.with_differs.Invariants.{apart}
use Rattle.assembling.proofs.codes.with_differs.Goals as goal

apart_many : (sizes starts : List ℕ) (n : ℕ) → length (collect n (apart sizes starts)) ≡ sum_to n (λ s. pairs (at sizes s))
apart_many sizes starts n =
    length_collect n (apart sizes starts)
    ∙ sum_to_same n _ (λ s. pairs (at sizes s)) (λ s h. length_nested (at sizes s) (λ i. at sizes s - suc i) (λ i k. differ (at starts s + i) (at starts s + i + suc k)))

pub loop-s-init : goal.loop-s-init
loop-s-init c = (omega arith, literals_none c.args.q (apart c.args.sizes c.args.starts))

pub with_differs_of-out-requires : goal.with_differs_of-out-requires
with_differs_of-out-requires c =
    let l = c.loop-s in (
      literals_building c.args.q (apart c.args.sizes c.args.starts) l.s l.out c.requires.0 l.invariant.1,
      omega (arith, c.wide-start.ensures.0, c.wide-size.ensures.0, c.requires.3 l.s (omega arith)),
      omega (
        arith,
        c.requires,
        ap pairs c.wide-size.ensures.0,
        literals_count c.args.q (apart c.args.sizes c.args.starts) l.s l.out c.requires.0 l.invariant.1,
        apart_many c.args.sizes c.args.starts l.s,
        sum_to_grows (suc l.s) c.args.n (λ s. pairs (at c.args.sizes s)) (omega arith),
      ),
    )

pub loop-s-preserved : goal.loop-s-preserved
loop-s-preserved c =
    let l = c.loop-s in (
      omega arith,
      literals_next c.args.q (apart c.args.sizes c.args.starts) l.s l.out c.with_differs_of-out.result l.invariant.1
          (λ b. c.with_differs_of-out.ensures b ∙ ap₂ (λ (x y : ℕ). packed (more_literals b.sheet (differs_of x y))) c.wide-start.ensures.0 c.wide-size.ensures.0),
    )

pub returns : goal.returns
returns c b =
    let l = c.loop-s in
    let last : l.s ≡ c.args.n = omega arith in
    rw (← last) (l.invariant.1 b)
