-- `assembling::codes::with_differs` meets its contract: the statements of the fields passed stand behind those that were there.
use Prim.Native.Nat.{ℕ, ◌≤◌}
use mathlib.Core.List.{List}
use Rattle.prelude.specs.Lists.{at}
use Rattle.logic.specs.Sheet.{Literal}
use Rattle.assembling.specs.Parts.{differs_of}
use Rattle.assembling.proofs.Growing.{LiteralsTo}
use Rattle.assembling.proofs.codes.with_differs.Given as goal

abbrev pub apart : List ℕ → List ℕ → ℕ → List Literal
apart sizes starts s = differs_of (at starts s) (at sizes s)

abbrev pub invariant-loop-s : goal.invariant-loop-s
invariant-loop-s l = (l.s ≤ l.n) × LiteralsTo l.initial.out l.s (apart l.sizes l.starts) l.out
