-- `bundle::parts_of` meets its contract.
use Prim.Native.Nat.{◌-◌}
use mathlib.Core.Path.{◌≡◌}
use lib.ListN.{length}
use Rattle.bundle.specs.Bundle.{most_sheets}
use Rattle.bundle.proofs.Located.{Reached}
use Rattle.bundle.proofs.parts_of.Given as goal

abbrev pub invariant-loop-at : goal.invariant-loop-at
invariant-loop-at l = Reached l.s l.at l.many l.starts l.ends × (length l.starts ≡ most_sheets) × (length l.ends ≡ most_sheets)

abbrev pub decreases-loop-at : goal.decreases-loop-at
decreases-loop-at l = most_sheets - l.many

-- the bytes, and what `record_at` gave
