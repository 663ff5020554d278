-- `congruence::label_of` meets its contract. An argument past the terms is its own label.
use native.Mathlib.Omega.{arith}
use mathlib.Core.Path.{ap, sym, ◌∙◌}
use Rattle.prelude.specs.Lists.{at}
use Rattle.congruence.proofs.Sweeps.{named_there, named_missing}
use Rattle.congruence.proofs.label_of.Goals as goal

pub returns-then-i-terms : goal.returns-then-i-terms
returns-then-i-terms c =
    let m = c in
    let args = m.args in
    ap (λ i. at args.labels.now i) m.wide-i.ensures.0 ∙ sym (named_there args.terms (at args.labels.now) args.a (omega (arith, m.wide-i.ensures.0)))

pub returns-else-i-terms : goal.returns-else-i-terms
returns-else-i-terms c =
    let m = c in
    let args = m.args in
    sym (named_missing args.terms (at args.labels.now) args.a (omega (arith, m.wide-i.ensures.0)))
