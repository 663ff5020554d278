-- `tables::entries_right` meets its contract. The entries of the first f tables are right; `entries_test` joins a stretch to its table.
use Prim.Native.Nat.{◌≤◌}
use mathlib.Core.Path.{◌≡◌}
use Rattle.tables.proofs.Entries.{EntriesTo}
use Rattle.tables.proofs.entries_right.Given as goal

abbrev pub invariant-loop-f : goal.invariant-loop-f
invariant-loop-f l = (l.f ≤ l.n) × (l.n ≡ l.p.symbols) × EntriesTo l.p l.sizes l.offsets l.t l.f
