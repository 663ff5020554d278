-- The three bytes are those of the payload.
use native.Mathlib.Omega.{arith}
use Rattle.layout.proofs.Payloads.{short_lem, short_bytes}
use Rattle.sheet.proofs.payload_of.Goals as goal

pub invariant_of-result : goal.invariant_of-result
invariant_of-result c =
    let a = c.args in
    record { short = short_lem a.s.now a.start a.len c.byte_or.result c.byte_or-2.result c.byte_or-3.result (omega arith) (omega arith) (omega arith) c.byte_or-2.ensures c.byte_or-3.ensures }

pub returns : goal.returns
returns c =
    let a = c.args in
    short_bytes a.s.now a.start a.len c.byte_or.result c.byte_or-2.result c.byte_or-3.result (omega arith) (omega arith) (omega arith) c.byte_or-2.ensures c.byte_or-3.ensures c.byte_or.ensures
