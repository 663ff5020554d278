-- `assembling::cells::with_sames` meets its contract: the statements of the tables passed stand behind those that were there.
use Prim.Native.Nat.{◌≤◌}
use mathlib.Core.Path.{◌≡◌}
use Rattle.prelude.specs.Lists.{at}
use Rattle.logic.specs.Order.{sum_of}
use Rattle.fitted_sheet.specs.FittedSheet.{table_sames}
use Rattle.assembling.specs.Parts.{Source, StartsOf, OffsetsOf, TablesOf}
use Rattle.assembling.proofs.Growing.{LiteralsTo}
use Rattle.assembling.proofs.cells.with_sames.Given as goal

abbrev pub invariant-loop-f : goal.invariant-loop-f
invariant-loop-f l = (l.f ≤ l.n) × (l.n ≤ 64) × (l.n ≡ l.p.symbols) × (l.sorts ≡ l.p.sorts) × ((t : Source l.p) → StartsOf t (at l.starts) → OffsetsOf t (at l.offsets) → TablesOf t l.tables → l.codes ≡ sum_of t.structure t.sheet → LiteralsTo l.initial.out l.f (table_sames t.sheet t.structure) l.out)
