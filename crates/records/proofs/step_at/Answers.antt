-- Each return is a case of `step_at`, with the position behind it.
use Prim.Native.Nat.{◌+◌}
use native.Mathlib.Omega.{arith}
use Rattle.records.specs.Record.{kind_at, length_at}
use Rattle.records.specs.declared.Step.TheVariants.{Record, Cut, End}
use Rattle.records.proofs.Steps.{cut_head, cut_payload, step_end, step_cut, step_record, stepped_as}
use Rattle.records.proofs.step_at.Goals as goal

pub returns-then-n-at : goal.returns-then-n-at
returns-then-n-at c = let a = c.args in stepped_as a.s.now a.at End (step_end a.s.now a.at (omega arith))

pub returns-then-n-at-lt4 : goal.returns-then-n-at-lt4
returns-then-n-at-lt4 c =
    let a = c.args in
    stepped_as a.s.now a.at Cut (step_cut a.s.now a.at (omega arith) (cut_head a.s.now a.at (omega arith)))

pub returns-then-n-at-2 : goal.returns-then-n-at-2
returns-then-n-at-2 c =
    let a = c.args in
    stepped_as a.s.now a.at Cut (step_cut a.s.now a.at (omega arith) (cut_payload a.s.now a.at (omega arith)))

pub returns : goal.returns
returns c =
    let a = c.args in
    rw (c.two_bytes-kind.ensures.0, c.two_bytes-len.ensures.0)
    (stepped_as a.s.now a.at (Record (kind_at a.s.now a.at) (a.at + 4) (length_at a.s.now a.at)) (step_record a.s.now a.at (omega arith)))
