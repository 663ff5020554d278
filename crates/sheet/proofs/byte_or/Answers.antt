-- A byte of a payload, or MISSING past its end.
use native.Mathlib.Omega.{arith}
use Rattle.layout.proofs.Payloads.{byte_inside, byte_past}
use Rattle.sheet.proofs.byte_or.Goals as goal

pub returns-then-k-len : goal.returns-then-k-len
returns-then-k-len c = let a = c.args in byte_inside a.s.now a.start a.len a.k (omega arith) (omega arith)

pub returns-else-k-len : goal.returns-else-k-len
returns-else-k-len c = let a = c.args in byte_past a.s.now a.start a.len a.k (omega arith) (omega arith)
