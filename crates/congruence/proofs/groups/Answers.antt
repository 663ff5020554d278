-- `congruence::groups` meets its contract: labels that are closed and in which the same statements hold name the groups.
use Rattle.prelude.specs.Lists.{at}
use Rattle.layout.specs.Packed.{view}
use Rattle.congruence.proofs.Labels.{step_more}
use Rattle.congruence.proofs.Sweeps.{labels_group, stated_kept, own_lowest}
use native.Mathlib.Omega.{arith}
use Rattle.congruence.proofs.groups.Goals as goal

pub returns : goal.returns
returns c =
    let fits = c.requires in
    let n = fits.terms in
    let own = c.own_numbers-alone.ensures in
    let first = c.stated-labels.ensures in
    let rest = c.saturated.ensures in
    let P = view c.args.p in
    let start = at c.own_numbers-alone.result in
    let m = at c.stated-labels.result in
    let l = at c.saturated.result in
    labels_group P fits start l (own_lowest start own) (λ k b. own k (omega arith)) (step_more P start m l first.0 rest.0) (stated_kept P fits m l first.1 rest.0) rest.1
