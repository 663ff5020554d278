-- Sizes passes over fills: result and buffer are those of the sheet without them.
use Prim.Native.Nat.{ℕ}
use mathlib.Core.Path.{◌≡◌, ap, sym, ◌∙◌}
use mathlib.Core.Bool.{true, false}
use mathlib.Core.List.{List}
use mathlib.Core.Option.{Option}
use lib.ListN.{length}
use lib.Dec.{ltb}
use Rattle.logic.specs.Sheet.{Sheet, without_fills}
use Rattle.layout.specs.Layout.{Reading, accepted, reading}
use Rattle.layout.specs.Encode.{encode}
use Rattle.layout.proofs.Answers.{unfilled_read}
use Rattle.answer.specs.Answer.{Entry}
use Rattle.answer.proofs.Fills.{passes_over}
use Rattle.sizes.specs.Sizing.{Outcome, turned_down, answering, consider, outcome, gives, sizing, sizes_in, sizes_after}

abbrev branch : ℕ → ℕ → Option Entry → Outcome
branch n room a = elim (ltb room n) [ true ↦ turned_down 10 0 | false ↦ answering a ]

module _ (s : List ℕ) (sh : Sheet) (q : reading s ≡ accepted sh) where
  alike : (room : ℕ) → outcome s room ≡ outcome (encode (without_fills sh)) room
  unfolding outcome
  alike room =
      ap (λ (r : Reading). consider r room) q
      ∙ ap (branch (length sh.bounds) room) (passes_over sh).same
      ∙ sym (ap (λ (r : Reading). consider r room) (unfilled_read s sh q))

  pub sizes_pass : (room : ℕ) → sizing s room ≡ sizing (encode (without_fills sh)) room
  unfolding sizing
  sizes_pass room = ap gives (alike room)

  pub buffer_passes : (out : List ℕ) → sizes_after s out ≡ sizes_after (encode (without_fills sh)) out
  unfolding sizes_after
  buffer_passes out = ap (λ (o : Outcome). sizes_in o out) (alike (length out))
