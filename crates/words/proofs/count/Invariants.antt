-- `words::count` meets its contract: the blanks so far.
use mathlib.Core.Path.{◌≡◌}
use lib.Dec.{eqb}
use lib.ListN.{take}
use Rattle.std.specs.List.{count_by}
use Rattle.words.proofs.count.Given as goal

abbrev pub invariant-loop-c : goal.invariant-loop-c
invariant-loop-c l = l.blanks ≡ count_by (λ x. eqb x 32) (take l.c-index l.line)
