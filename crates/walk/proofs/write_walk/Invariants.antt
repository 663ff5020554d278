-- `walk::write_walk` meets its contract. The codes of the events so far stand in front of the stretch, and the walk is at the code of the last one; an event more is `walked_more`.
use Prim.Native.Nat.{ℕ, ◌≤◌}
use mathlib.Core.Path.{◌≡◌}
use mathlib.Core.Bool.{true}
use lib.ListN.{length}
use Rattle.logic.specs.Sheet.{Sheet}
use Rattle.layout.specs.declared.Parsed.{Parsed}
use Rattle.tables.specs.Layout.{decoded}
use Rattle.tables.specs.Parts.{Laying}
use Rattle.walk.specs.Walk.{all_stay}
use Rattle.walk.proofs.Steps.{WalkedTo}
use Rattle.walk.proofs.write_walk.Given as goal

abbrev pub invariant-loop-k : goal.invariant-loop-k
invariant-loop-k l =
    (l.k ≤ length l.events)
    × (length l.out ≡ length l.events)
    × ((sh : Sheet) (sort : ℕ) (p : Parsed) → l.param1 ≡ p.param1 → Laying sh p l.sizes l.offsets l.t → all_stay sh sort l.events ≡ true → WalkedTo (decoded sh l.t) l.code l.events l.out l.k l.c)
