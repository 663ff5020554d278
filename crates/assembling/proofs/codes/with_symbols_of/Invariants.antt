-- `assembling::codes::with_symbols_of` meets its contract: the names made so far stand behind those that were there.
use Prim.Native.Nat.{◌≤◌}
use mathlib.Core.List.{[], ◌∷◌}
use Rattle.assembling.proofs.Growing.{SymbolsTo}
use Rattle.fitted_sheet.specs.FittedSheet.{code_symbol}
use Rattle.assembling.proofs.codes.with_symbols_of.Given as goal

abbrev pub invariant-loop-c : goal.invariant-loop-c
invariant-loop-c l = (l.c ≤ l.size) × SymbolsTo l.initial.out l.c (λ i. code_symbol l.s ∷ []) l.out
