-- The byte is not at the places before i.
use Rattle.std.proofs.Common.{◌≡◌, ◌+◌, ◌≤◌}
use Rattle.prelude.specs.Bytes.{index_of, slice}
use Rattle.prelude.proofs.find_byte.Given as goal

abbrev pub invariant-loop-i : goal.invariant-loop-i
invariant-loop-i l = (l.from ≤ l.i) × (l.i ≤ l.to) × (l.from + index_of l.b (slice l.from l.to l.s) ≡ l.i + index_of l.b (slice l.i l.to l.s))
