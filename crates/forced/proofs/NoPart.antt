-- Floors, ceilings, total, differ statements and fills play no part: accepted sheets with the same symbols, terms and same statements are answered alike.
use Prim.Native.Nat.{ℕ}
use mathlib.Core.Path.{◌≡◌, refl, ap₂, sym, ◌∙◌}
use mathlib.Core.Bool.{Bool, true, false, ◌&&◌}
use mathlib.Core.List.{List}
use lib.ListN.{length, get_or}
use lib.Dec.{ltb, eqb}
use borrow.Author.Tests.{ltb-true}
use Rattle.logic.specs.Sheet.{Sheet, Symbol, Term, no_symbol, no_term, without_fills}
use Rattle.prelude.proofs.Tests.{and_both}
use Rattle.layout.specs.Layout.{accepted, reading}
use Rattle.layout.specs.Encode.{encode}
use Rattle.layout.proofs.Answers.{accepted_well_formed, unfilled_read}
use Rattle.congruence.specs.Forced.{SameStatements}
use Rattle.congruence.proofs.NoPart.{group_alike, without_fills_lem}
use Rattle.std.specs.Prelude.{Ok}
use Rattle.forced.specs.Forcing.{comparable, forcing}
use Rattle.forced.proofs.Replies.{turned_down_lem, decided}

-- what `comparable` tests, by the lists that it reads
abbrev sort_in : List Term → List Symbol → ℕ → ℕ
sort_in ts fs i = (get_or fs (get_or ts i no_term).symbol no_symbol).result

abbrev test : List Term → List Symbol → ℕ → ℕ → Bool
test ts fs a b = ltb a (length ts) && (ltb b (length ts) && eqb (sort_in ts fs a) (sort_in ts fs b))

module _ (sh other : Sheet) (same : SameStatements sh other) where
  comparable_alike : (a b : ℕ) → comparable sh a b ≡ comparable other a b
  comparable_alike a b = ap₂ (λ ts fs. test ts fs a b) same.terms same.symbols

  pub answered_alike : (s t : List ℕ) (a b : ℕ) → reading s ≡ accepted sh → reading t ≡ accepted other → forcing s a b ≡ forcing t a b
  answered_alike s t a b e d = go (comparable sh a b) refl
    where
      go : (c : Bool) → comparable sh a b ≡ c → forcing s a b ≡ forcing t a b
      go true h =
          let there = and_both _ _ h in
          let alike = group_alike sh other same (accepted_well_formed s sh e) (accepted_well_formed t other d) in
          let first = alike a (ltb-true _ _ there.0) in
          let second = alike b (ltb-true _ _ (and_both _ _ there.1).0) in
          decided s sh e a b h
          ∙ ap₂ (λ x y. Ok (eqb x y)) first second
          ∙ sym (decided t other d a b (sym (comparable_alike a b) ∙ h))
      go false h = turned_down_lem s sh e a b h ∙ sym (turned_down_lem t other d a b (sym (comparable_alike a b) ∙ h))

-- THEOREM: forced passes over fills: the answer is that of the sheet without them
pub forced_passes : (s : List ℕ) (sh : Sheet) → reading s ≡ accepted sh → (a b : ℕ) → forcing s a b ≡ forcing (encode (without_fills sh)) a b
forced_passes s sh q a b = answered_alike sh (without_fills sh) (without_fills_lem sh) s (encode (without_fills sh)) a b q (unfilled_read s sh q)
