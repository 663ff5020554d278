-- `assembling::codes::with_differs_above` meets its contract: the statements made so far stand behind those that were there.
use Prim.Native.Nat.{suc, ◌+◌, ◌≤◌}
use mathlib.Core.List.{[], ◌∷◌}
use Rattle.fitted_sheet.specs.FittedSheet.{differ}
use Rattle.assembling.proofs.Growing.{LiteralsTo}
use Rattle.assembling.proofs.codes.with_differs_above.Given as goal

abbrev pub invariant-loop-k : goal.invariant-loop-k
invariant-loop-k l = (l.k ≤ l.many) × LiteralsTo l.initial.out l.k (λ i. differ l.first (l.first + suc i) ∷ []) l.out
