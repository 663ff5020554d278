-- `writing::write_tables` meets its contract: the tables of the symbols passed stand in the buffer, each in its stretch.
use Prim.Native.Nat.{◌≤◌}
use mathlib.Core.Path.{◌≡◌}
use Rattle.prelude.specs.Lists.{at}
use Rattle.writing.proofs.Writing.{TablesTo}
use Rattle.writing.proofs.write_tables.Given as goal

abbrev pub invariant-loop-f : goal.invariant-loop-f
invariant-loop-f l = TablesTo l.p (at l.sizes) (at l.codes) l.offsets l.initial.out l.f l.out × (l.n ≡ l.p.symbols) × (l.n ≤ 64)
