-- `first_codes::lower` meets its contract: every smaller code passed that is worth trying is dead.
use Prim.Native.Nat.{ℕ}
use mathlib.Core.Path.{◌≡◌, sym, subst, ap, ◌∙◌}
use native.Mathlib.Omega.{arith}
use Rattle.layout.specs.Packed.{view}
use Rattle.prelude.specs.Lists.{at}
use Rattle.solve.proofs.Branching.{code_decided, tried_dead, tried_not}
use Rattle.first_codes.specs.Parts.{LeastAt}
use Rattle.first_codes.proofs.Lowering.{lowest_found, lowest_kept}
use Rattle.first_codes.proofs.lower.Goals as goal
use Rattle.first_codes.proofs.lower.Goals.{then-worth+in_default-solve, else-worth}

pub returns-in-Some-solve : goal.returns-in-Some-solve
returns-in-Some-solve c =
    let b = c.in-Some.ensures in
    let below = (c.worth.ensures.yes c.if-worth.true).below in
    let e = b.0 in
    subst (λ (t : ℕ). LeastAt (view c.args.p) (at c.args.sizes) (at c.args.decided) (at c.in-Some-solve.codes) t) e
    (lowest_found _ _ c.args.decided c.in-Some.plan c.loop-v.v b.1 c.loop-v.invariant _ c.in-Some-solve.codes (omega (arith, c.requires.searchable.terms, c.requires.term_lt_terms.0)) (code_decided _ below b.1.small) c.decide-next.ensures c.in-Some-solve.ensures)

pub loop-v-preserved : goal.loop-v-preserved
loop-v-preserved c =
    elim c.if-worth.branch [
      | then-worth+in_default-solve w ↦ tried_dead _ _ c.args.decided c.in-Some.plan _ c.loop-v.invariant _ w.decide-next.ensures w.in_default-solve.ensures
      | else-worth w ↦ tried_not _ _ c.args.decided c.in-Some.plan _ c.loop-v.invariant (c.worth.ensures.no w.if-worth.false)
    ]

pub returns : goal.returns
returns c =
    let b = c.in-Some.ensures in
    let h = c.loop-v-test.false in
    let i = c.loop-v.auto.v-end in
    let e = c.wide-high.ensures.0 in
    let v : c.loop-v.v ≡ at c.renamed-best.result c.args.term = omega arith in
    subst (λ (t : ℕ). LeastAt (view c.args.p) (at c.args.sizes) (at c.args.decided) (at c.renamed-best.result) t) b.0
    (lowest_kept _ _ c.args.decided c.in-Some.plan c.loop-v.v b.1 c.loop-v.invariant c.renamed-best.result (v ∙ ap (at c.renamed-best.result) (sym b.0)) c.renamed-best.ensures)
