-- `assembling::cells::with_cell_terms` meets its contract: the expressions of the tables passed stand behind those that were there.
use Prim.Native.Nat.{◌≤◌}
use mathlib.Core.Path.{◌≡◌}
use Rattle.prelude.specs.Lists.{at}
use Rattle.fitted_sheet.specs.FittedSheet.{table_terms}
use Rattle.assembling.specs.Parts.{Source, SizesOf, StartsOf}
use Rattle.assembling.proofs.Growing.{TermsTo}
use Rattle.assembling.proofs.cells.with_cell_terms.Given as goal

abbrev pub invariant-loop-f : goal.invariant-loop-f
invariant-loop-f l = (l.f ≤ l.n) × (l.n ≡ l.p.symbols) × ((t : Source l.p) → SizesOf t (at l.sizes) → StartsOf t (at l.starts) → TermsTo l.initial.out l.f (table_terms t.sheet t.structure) l.out)
