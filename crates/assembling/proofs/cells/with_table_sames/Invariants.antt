-- `assembling::cells::with_table_sames` meets its contract: the statements of the cells passed stand behind those that were there.
use Prim.Native.Nat.{ℕ, ◌+◌}
use mathlib.Core.List.{List, [], ◌∷◌}
use Rattle.prelude.specs.Lists.{at}
use Rattle.logic.specs.Sheet.{Literal}
use Rattle.fitted_sheet.specs.FittedSheet.{same}
use Rattle.assembling.proofs.Growing.{LiteralsTo}
use Rattle.assembling.proofs.cells.with_table_sames.Given as goal

abbrev pub one : ℕ → ℕ → List ℕ → ℕ → Literal
one first start cells i = same (first + i) (start + at cells i)

abbrev pub invariant-loop-k : goal.invariant-loop-k
invariant-loop-k l = LiteralsTo l.initial.out l.k (λ i. one l.first (at l.starts l.s) l.cells i ∷ []) l.out
