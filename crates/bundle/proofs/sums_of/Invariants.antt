-- `bundle::sums_of` meets its contract.
use mathlib.Core.Path.{◌≡◌}
use lib.ListN.{length}
use Rattle.bundle.specs.Bundle.{most_sheets}
use Rattle.bundle.specs.Parts.{Inside}
use Rattle.bundle.proofs.Summing.{Added}
use Rattle.bundle.proofs.sums_of.Given as goal

abbrev pub invariant-loop-i : goal.invariant-loop-i
invariant-loop-i l = ((k : Inside l.s l.found) → Added l.s k.parts l.i l.sums) × (length l.sums ≡ most_sheets) × Inside l.s l.found

-- the sheet at hand starts and ends within the bytes
