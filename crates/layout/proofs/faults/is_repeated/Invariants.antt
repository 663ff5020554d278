-- The invariant: the term occurs exactly when it occurs from here on.
use Prim.Native.Nat.{◌≤◌}
use mathlib.Core.Path.{◌≡◌}
use lib.ListN.{drop}
use Rattle.layout.specs.Layout.{occurs}
use Rattle.layout.specs.Parts.{PartRead}
use Rattle.layout.proofs.AtMostTwo.{args_of}
use Rattle.layout.proofs.faults.is_repeated.Given as goal

abbrev pub invariant-loop-i : goal.invariant-loop-i
invariant-loop-i l =
    (l.i ≤ l.p.terms) ×
    ((k : PartRead l.p) → occurs l.q.b0 (args_of l.q) k.sheet.terms ≡ occurs l.q.b0 (args_of l.q) (drop l.i k.sheet.terms))
