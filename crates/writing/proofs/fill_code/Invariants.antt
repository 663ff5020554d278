-- `writing::fill_code` meets its contract: what is filled in is what the fills from here on say.
use Prim.Native.Nat.{◌≤◌}
use mathlib.Core.Path.{◌≡◌}
use mathlib.Core.Option.{get_or}
use lib.ListN.{drop}
use Rattle.prelude.specs.Lists.{at}
use Rattle.logic.specs.Sheet.{Sheet}
use Rattle.tables.specs.Parts.{Packs}
use Rattle.answer.specs.Answer.{fill_code}
use Rattle.writing.proofs.fill_code.Given as goal

abbrev pub invariant-loop-k : goal.invariant-loop-k
invariant-loop-k l =
    (l.k ≤ l.p.fills)
    × ((sh : Sheet) → Packs sh l.p → get_or (fill_code (at l.codes) l.symbol sh.fills) 0 ≡ get_or (fill_code (at l.codes) l.symbol (drop l.k sh.fills)) 0)
