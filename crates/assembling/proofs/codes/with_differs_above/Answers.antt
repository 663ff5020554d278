-- `assembling::codes::with_differs_above` meets its contract: the statements made so far stand behind those that were there.
use Prim.Native.Nat.{ℕ, suc, ◌+◌}
use native.Mathlib.Numerals.{add-one}
use native.Mathlib.Omega.{arith}
use mathlib.Core.Path.{◌≡◌, refl, ap, ◌∙◌}
use mathlib.Core.Bool.{false}
use mathlib.Core.List.{[], ◌∷◌}
use Rattle.prelude.proofs.Collect.{length_singles}
use Rattle.layout.specs.Packed.{packed}
use Rattle.fitted_sheet.specs.FittedSheet.{differ}
use Rattle.assembling.specs.Parts.{more_literals}
use Rattle.assembling.proofs.Growing.{literals_none, literals_next, literals_count}
use Rattle.assembling.proofs.codes.with_differs_above.Goals as goal

pub loop-k-init : goal.loop-k-init
loop-k-init c = (omega arith, literals_none c.args.q (λ i. differ c.args.first (c.args.first + suc i) ∷ []))

pub with_literal-out-requires : goal.with_literal-out-requires
with_literal-out-requires c =
    let l = c.loop-k in
    omega (arith, literals_count c.args.q (λ i. differ c.args.first (c.args.first + suc i) ∷ []) l.k l.out c.requires.0 l.invariant.1, length_singles l.k (λ i. differ c.args.first (c.args.first + suc i)))

pub loop-k-preserved : goal.loop-k-preserved
loop-k-preserved c =
    let l = c.loop-k in (
      omega arith,
      literals_next c.args.q (λ i. differ c.args.first (c.args.first + suc i) ∷ []) l.k l.out c.with_literal-out.result l.invariant.1
          (λ b.
          c.with_literal-out.ensures b.sheet false b.same refl
          ∙ ap (λ (n : ℕ). packed (more_literals b.sheet (differ c.args.first (c.args.first + n) ∷ []))) (add-one l.k)),
    )

pub returns : goal.returns
returns c b =
    let l = c.loop-k in
    let last : l.k ≡ c.args.many = omega arith in
    rw (← last) (l.invariant.1 b)
