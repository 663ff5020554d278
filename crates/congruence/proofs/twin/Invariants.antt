-- `congruence::twin` meets its contract. No term below i has the key of j.
use Prim.Native.Nat.{ℕ, ◌<◌}
use mathlib.Core.Path.{◌≡◌}
use Rattle.prelude.specs.Lists.{at}
use Rattle.layout.specs.Packed.{view}
use Rattle.congruence.specs.Parts.{key}
use Rattle.congruence.proofs.twin.Given as goal

abbrev pub invariant-loop-i : goal.invariant-loop-i
invariant-loop-i l = (k : ℕ) → k < l.i → key (view l.p) (at l.labels) k ≡ key (view l.p) (at l.labels) l.j → ⊥
