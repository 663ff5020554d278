-- `assembling::codes::with_code_terms` meets its contract: the expressions made so far stand behind those that were there.
use Prim.Native.Nat.{◌+◌}
use native.Mathlib.Omega.{arith}
use mathlib.Core.Path.{◌≡◌}
use mathlib.Core.List.{[], ◌∷◌}
use Rattle.prelude.proofs.Collect.{length_singles}
use Rattle.assembling.specs.Parts.{bare_term}
use Rattle.assembling.proofs.Growing.{terms_none, terms_next, terms_count, name_there}
use Rattle.assembling.proofs.codes.with_code_terms.Goals as goal

pub loop-c-init : goal.loop-c-init
loop-c-init c = (omega arith, terms_none c.args.q (λ i. bare_term (c.args.first + i) ∷ []))

pub with_term-out-requires : goal.with_term-out-requires
with_term-out-requires c =
    let l = c.loop-c in
    let many = terms_count c.args.q (λ i. bare_term (c.args.first + i) ∷ []) l.c l.out c.requires.0 l.invariant.1 in
    (omega (arith, many, length_singles l.c (λ i. bare_term (c.args.first + i))), omega (arith, c.requires))

pub loop-c-preserved : goal.loop-c-preserved
loop-c-preserved c =
    let l = c.loop-c in
    let many = terms_count c.args.q (λ i. bare_term (c.args.first + i) ∷ []) l.c l.out c.requires.0 l.invariant.1 in (
      omega arith,
      terms_next c.args.q (λ i. bare_term (c.args.first + i) ∷ []) l.c l.out c.with_term-out.result l.invariant.1
          (λ b. c.with_term-out.ensures b.sheet b.same (name_there l.out b (c.args.first + l.c) (omega (arith, many, c.requires)))),
    )

pub returns : goal.returns
returns c b =
    let l = c.loop-c in
    let last : l.c ≡ c.args.n = omega arith in
    rw (← last) (l.invariant.1 b)
