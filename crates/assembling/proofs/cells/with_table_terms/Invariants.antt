-- `assembling::cells::with_table_terms` meets its contract: the expressions of the cells passed stand behind those that were there.
use Prim.Native.Nat.{◌/◌, ◌%◌, ◌≤◌, ◌<◌}
use mathlib.Core.List.{[], ◌∷◌}
use lib.ListN.{length}
use Rattle.prelude.specs.Lists.{at}
use Rattle.assembling.specs.Parts.{Source, StartsOf}
use Rattle.assembling.proofs.Growing.{TermsTo}
use Rattle.assembling.proofs.TableCells.{cell_term_at}
use Rattle.assembling.proofs.cells.with_table_terms.Given as goal

abbrev pub invariant-loop-k : goal.invariant-loop-k
invariant-loop-k l = (l.k ≤ l.many) × ((t : Source l.p) → StartsOf t (at l.starts) → l.f < length t.sheet.symbols → TermsTo l.initial.out l.k (λ i. cell_term_at t.sheet t.structure l.f (i / l.columns) (i % l.columns) ∷ []) l.out)
