-- Floors, ceilings, total, differ statements and fills play no part: accepted sheets with the same symbols, terms and same statements are answered alike.
use Prim.Native.Nat.{ℕ}
use native.Mathlib.Decide.{dec_lt}
use native.Mathlib.Omega.{arith}
use mathlib.Core.Path.{◌≡◌, ap, sym, ◌∙◌}
use mathlib.Core.List.{List}
use lib.ListN.{length}
use Rattle.logic.specs.Sheet.{Sheet, without_fills}
use Rattle.layout.specs.Layout.{accepted, reading}
use Rattle.layout.specs.Encode.{encode}
use Rattle.layout.proofs.Answers.{accepted_well_formed, unfilled_read}
use Rattle.congruence.specs.Forced.{SameStatements}
use Rattle.congruence.proofs.NoPart.{group_alike, without_fills_lem}
use Rattle.std.specs.Prelude.{Ok}
use Rattle.group.specs.Grouping.{grouping}
use Rattle.group.proofs.Replies.{absent, named}

pub answered_alike : (sh other : Sheet) → SameStatements sh other → (s t : List ℕ) (e : ℕ) → reading s ≡ accepted sh → reading t ≡ accepted other → grouping s e ≡ grouping t e
answered_alike sh other same s t e q r =
    let count = ap length same.terms in
    elim (dec_lt e (length sh.terms)) [
      | yes b ↦
          named s sh q e b
          ∙ ap Ok (group_alike sh other same (accepted_well_formed s sh q) (accepted_well_formed t other r) e b)
          ∙ sym (named t other r e (omega arith))
      | no b ↦ absent s sh q e (omega arith) ∙ sym (absent t other r e (omega arith))
    ]

-- THEOREM: group passes over fills: the answer is that of the sheet without them
pub group_passes : (s : List ℕ) (sh : Sheet) → reading s ≡ accepted sh → (e : ℕ) → grouping s e ≡ grouping (encode (without_fills sh)) e
group_passes s sh q e = answered_alike sh (without_fills sh) (without_fills_lem sh) s (encode (without_fills sh)) e q (unfilled_read s sh q)
