-- `assembling::codes::with_code_symbols` meets its contract: the names of the fields passed stand behind those that were there.
use Prim.Native.Nat.{ℕ}
use mathlib.Core.List.{List, [], ◌∷◌}
use Rattle.prelude.specs.Lists.{at, collect}
use Rattle.logic.specs.Sheet.{Symbol}
use Rattle.fitted_sheet.specs.FittedSheet.{code_symbol}
use Rattle.assembling.proofs.Growing.{SymbolsTo}
use Rattle.assembling.proofs.codes.with_code_symbols.Given as goal

abbrev pub names : List ℕ → ℕ → List Symbol
names sizes s = collect (at sizes s) (λ k. code_symbol s ∷ [])

abbrev pub invariant-loop-s : goal.invariant-loop-s
invariant-loop-s l = SymbolsTo l.initial.out l.s (names l.fn.sizes) l.out
