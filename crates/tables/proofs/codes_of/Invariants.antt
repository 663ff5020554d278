-- `tables::codes_of` meets its contract. The codes of the first i terms stand, and nothing behind them; `code_now` is the next one.
use Prim.Native.Nat.{◌≤◌}
use mathlib.Core.Path.{◌≡◌}
use lib.ListN.{length}
use Rattle.tables.proofs.TermCodes.{CodesTo}
use Rattle.tables.proofs.codes_of.Given as goal

abbrev pub invariant-loop-i : goal.invariant-loop-i
invariant-loop-i l = (l.i ≤ l.n) × (l.n ≡ l.p.terms) × (length l.codes ≡ 256) × CodesTo l.p l.sizes l.offsets l.t l.i l.codes
