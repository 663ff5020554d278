-- `assembling::codes::with_differs_of` meets its contract: the statements of the codes passed stand behind those that were there.
use Prim.Native.Nat.{ℕ, suc, ◌+◌, ◌-◌}
use native.Mathlib.Numerals.{add-one}
use native.Mathlib.Omega.{arith}
use mathlib.Core.Path.{◌≡◌, ap, ◌∙◌}
use Rattle.prelude.specs.Lists.{collect}
use Rattle.prelude.proofs.Lists.{sum_to_grows}
use Rattle.layout.specs.Packed.{packed}
use Rattle.fitted_sheet.proofs.Lengths.{length_nested}
use Rattle.fitted_sheet.specs.FittedSheet.{differ}
use Rattle.assembling.specs.Parts.{differs_above, more_literals}
use Rattle.assembling.proofs.Growing.{literals_none, literals_next, literals_building, literals_count}
use Rattle.assembling.proofs.codes.with_differs_of.Invariants.{above}
use Rattle.assembling.proofs.codes.with_differs_of.Goals as goal

pub loop-c-init : goal.loop-c-init
loop-c-init c = (omega arith, literals_none c.args.q (above c.args.start c.args.size))

pub with_differs_above-out-requires : goal.with_differs_above-out-requires
with_differs_above-out-requires c =
    let l = c.loop-c in (
      literals_building c.args.q (above c.args.start c.args.size) l.c l.out c.requires.0 l.invariant.1,
      omega (arith, c.requires),
      omega (
        arith,
        c.requires,
        literals_count c.args.q (above c.args.start c.args.size) l.c l.out c.requires.0 l.invariant.1,
        length_nested l.c (λ i. c.args.size - suc i) (λ i k. differ (c.args.start + i) (c.args.start + i + suc k)),
        sum_to_grows (suc l.c) c.args.size (λ i. c.args.size - suc i) (omega arith),
      ),
    )

pub loop-c-preserved : goal.loop-c-preserved
loop-c-preserved c =
    let l = c.loop-c in (
      omega arith,
      literals_next c.args.q (above c.args.start c.args.size) l.c l.out c.with_differs_above-out.result l.invariant.1
          (λ b.
          c.with_differs_above-out.ensures b
          ∙ ap (λ (n : ℕ). packed (more_literals b.sheet (differs_above (c.args.start + l.c) (c.args.size - n)))) (add-one l.c)),
    )

pub returns : goal.returns
returns c b =
    let l = c.loop-c in
    let a = c.args in
    let last : l.c ≡ a.size = omega arith in
    l.invariant.1 b ∙ ap (λ (n : ℕ). packed (more_literals b.sheet (collect n (above a.start a.size)))) last
