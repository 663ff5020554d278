-- Walk passes over fills: the answer and the trail are those of the sheet without them.
use Prim.Native.Nat.{ℕ}
use mathlib.Core.Path.{◌≡◌, ap, sym, ◌∙◌}
use mathlib.Core.List.{List}
use lib.ListN.{length}
use Rattle.logic.specs.Sheet.{Sheet, without_fills}
use Rattle.layout.specs.Layout.{Reading, accepted, reading}
use Rattle.layout.specs.Encode.{encode}
use Rattle.layout.proofs.Answers.{unfilled_read}
use Rattle.tables.specs.Tests.{well_laid}
use Rattle.walk.specs.Walk.{Outcome, walkable, consider, outcome, walks, walking, trail_in, trail_after}

module _ (sheet : List ℕ) (sh : Sheet) (q : reading sheet ≡ accepted sh) (t : List ℕ) (s c : ℕ) (fs : List ℕ) (start : ℕ) where
  same_outcome : (room : ℕ) → outcome sheet t s c fs room start ≡ outcome (encode (without_fills sh)) t s c fs room start
  unfolding outcome well_laid walkable
  same_outcome room =
      ap (λ (r : Reading). consider r t s c fs room start) q ∙ sym (ap (λ (r : Reading). consider r t s c fs room start) (unfilled_read sheet sh q))

  pub walk_passes : (room : ℕ) → walking sheet t s c fs room start ≡ walking (encode (without_fills sh)) t s c fs room start
  unfolding walking
  walk_passes room = ap walks (same_outcome room)

  pub trail_passes : (trail : List ℕ) → trail_after sheet t s c fs trail start ≡ trail_after (encode (without_fills sh)) t s c fs trail start
  unfolding trail_after
  trail_passes trail = ap (λ (o : Outcome). trail_in o trail start) (same_outcome (length trail))
