-- `encoder::write_records` meets its contract: the records of the numbers passed stand in the buffer, one behind the other.
use Rattle.std.specs.Prelude.{ℕ, List}
use Rattle.prelude.specs.Lists.{collect}
use Rattle.prelude.specs.Pasted.{Wrote}
use Rattle.encoder.specs.Parts.{Gives}
use Rattle.encoder.proofs.write_records.Given as goal

abbrev pub invariant-loop-i : goal.invariant-loop-i
invariant-loop-i g l = (bytes : ℕ → List ℕ) → Gives (goal.F-post g l.make) l.n bytes → Wrote l.initial.out l.start (collect l.i bytes) l.out l.end
