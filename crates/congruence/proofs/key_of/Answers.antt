-- `congruence::key_of` meets its contract, label by label.
use Rattle.congruence.proofs.key_of.Goals as goal

pub returns : goal.returns
returns c =
    let x = c.label_of-first.ensures in
    let y = c.label_of-second.ensures in
    λ q. record { symbol = c.args.f; first = x q; second = y q }
