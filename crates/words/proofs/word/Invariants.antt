-- `words::word` meets its contract.
use Prim.Native.Nat.{◌≤◌, ◌-◌}
use mathlib.Core.Path.{◌≡◌}
use lib.ListN.{length, drop}
use Rattle.words.specs.Words.{word_at}
use Rattle.words.proofs.word.Given as goal

abbrev pub invariant-loop-i : goal.invariant-loop-i
invariant-loop-i l = (l.from ≤ length l.line) × (l.i ≤ l.k) × (word_at (drop l.from l.line) (l.k - l.i) ≡ word_at l.line l.k)
