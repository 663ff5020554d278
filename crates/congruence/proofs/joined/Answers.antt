-- `congruence::joined` meets its contract: of two different labels the higher is relabelled, equal ones stay.
use native.Mathlib.Omega.{arith}
use Rattle.congruence.proofs.Labels.{joined_map, joined_none}
use Rattle.congruence.proofs.joined.Goals as goal

pub returns-then-a-b : goal.returns-then-a-b
returns-then-a-b c =
    let args = c.args in
    joined_map args.labels _ args.i args.j _ _ (omega arith) (omega arith) c.merged.ensures

pub returns-then-b-a : goal.returns-then-b-a
returns-then-b-a c =
    let args = c.args in
    joined_map args.labels _ args.i args.j _ _ (omega arith) (omega arith) c.merged-then-b-a.ensures

pub returns : goal.returns
returns c =
    let args = c.args in
    joined_none args.labels args.i args.j (omega arith)
