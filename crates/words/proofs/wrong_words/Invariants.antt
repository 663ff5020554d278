-- `words::wrong_words` meets its contract.
use Prim.Native.Nat.{◌+◌}
use mathlib.Core.Path.{◌≡◌}
use lib.ListN.{drop}
use Rattle.words.specs.Complaints.{wrong_words}
use Rattle.words.proofs.wrong_words.Given as goal

abbrev pub invariant-loop-i : goal.invariant-loop-i
invariant-loop-i l = wrong_words (drop l.i l.kinds) (l.i + 1) l.line ≡ wrong_words l.kinds 1 l.line
