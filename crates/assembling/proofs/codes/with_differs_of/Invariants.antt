-- `assembling::codes::with_differs_of` meets its contract: the statements of the codes passed stand behind those that were there.
use Prim.Native.Nat.{ℕ, suc, ◌+◌, ◌-◌, ◌≤◌}
use mathlib.Core.List.{List}
use Rattle.logic.specs.Sheet.{Literal}
use Rattle.assembling.specs.Parts.{differs_above}
use Rattle.assembling.proofs.Growing.{LiteralsTo}
use Rattle.assembling.proofs.codes.with_differs_of.Given as goal

abbrev pub above : ℕ → ℕ → ℕ → List Literal
above start size i = differs_above (start + i) (size - suc i)

abbrev pub invariant-loop-c : goal.invariant-loop-c
invariant-loop-c l = (l.c ≤ l.size) × LiteralsTo l.initial.out l.c (above l.start l.size) l.out
