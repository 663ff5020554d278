-- `assembling::codes::with_symbols_of` meets its contract: the names made so far stand behind those that were there.
use native.Mathlib.Omega.{arith}
use mathlib.Core.Path.{◌≡◌}
use mathlib.Core.List.{[], ◌∷◌}
use Rattle.prelude.proofs.Collect.{length_singles}
use Rattle.assembling.proofs.Growing.{symbols_none, symbols_next, symbols_count, still_early}
use Rattle.fitted_sheet.specs.FittedSheet.{code_symbol}
use Rattle.assembling.proofs.codes.with_symbols_of.Goals as goal

pub loop-c-init : goal.loop-c-init
loop-c-init c = (omega arith, symbols_none c.args.q (λ i. code_symbol c.args.s ∷ []))

pub with_symbol-out-requires : goal.with_symbol-out-requires
with_symbol-out-requires c =
    let l = c.loop-c in
    omega (arith, (symbols_count c.args.q (λ i. code_symbol c.args.s ∷ []) l.c l.out c.requires.0 l.invariant.1).0, length_singles l.c (λ i. code_symbol c.args.s))

pub loop-c-preserved : goal.loop-c-preserved
loop-c-preserved c =
    let l = c.loop-c in
    let none = (symbols_count c.args.q (λ i. code_symbol c.args.s ∷ []) l.c l.out c.requires.0 l.invariant.1).1 in (
      omega arith,
      symbols_next c.args.q (λ i. code_symbol c.args.s ∷ []) l.c l.out c.with_symbol-out.result l.invariant.1
          (λ b. c.with_symbol-out.ensures b.sheet b.same (still_early l.out b (omega (arith, none)))),
    )

pub returns : goal.returns
returns c b =
    let l = c.loop-c in
    let last : l.c ≡ c.args.size = omega arith in
    rw (← last) (l.invariant.1 b)
