-- `consistency::consistent` meets its contract: the symbols passed are congruent, and every part of the test that fails refutes the whole.
use Prim.Native.Nat.{ℕ, ◌≤◌, ◌<◌}
use Rattle.layout.specs.Packed.{view}
use Rattle.prelude.specs.Lists.{at}
use Rattle.consistency.specs.Parts.{Functional}
use Rattle.consistency.proofs.consistent.Given as goal

abbrev pub invariant-loop-f : goal.invariant-loop-f
invariant-loop-f l = (l.f ≤ l.p.symbols) × ((g : ℕ) → g < l.f → Functional (view l.p) (at l.codes) g)
