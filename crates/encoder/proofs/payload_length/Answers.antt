-- `encoder::payload_length` meets its contract: the first byte, and those of the other two that are there.
use native.Mathlib.Omega.{arith}
use Rattle.encoder.proofs.ShortRecords.{there_none, there_one, there_two}
use Rattle.encoder.proofs.payload_length.Goals as goal

pub returns-then-b1-eq-MISSING : goal.returns-then-b1-eq-MISSING
returns-then-b1-eq-MISSING c =
    let m = c.args in
    omega (arith, there_none m.b1 m.b2 (omega arith))

pub returns-then-b2-eq-MISSING : goal.returns-then-b2-eq-MISSING
returns-then-b2-eq-MISSING c =
    let m = c.args in
    omega (arith, there_one m.b1 m.b2 (λ e. omega arith) (omega arith))

pub returns : goal.returns
returns c =
    let m = c.args in
    omega (arith, there_two m.b1 m.b2 (λ e. omega arith) (λ e. omega arith))
