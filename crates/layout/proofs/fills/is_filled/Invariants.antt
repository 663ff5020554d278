-- The invariant: a fill is of the symbol exactly when one from here on is.
use Prim.Native.Nat.{◌≤◌}
use mathlib.Core.Path.{◌≡◌}
use lib.ListN.{drop}
use Rattle.layout.specs.Layout.{is_filled}
use Rattle.layout.specs.Parts.{PartRead}
use Rattle.layout.proofs.fills.is_filled.Given as goal

abbrev pub invariant-loop-k : goal.invariant-loop-k
invariant-loop-k l = (l.k ≤ l.p.fills) × ((q : PartRead l.p) → is_filled l.symbol q.sheet.fills ≡ is_filled l.symbol (drop l.k q.sheet.fills))
