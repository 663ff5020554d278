-- Laws of lists of decided codes: what one more decided code changes, and that decisions come to an end.
use Prim.Native.Nat.{ℕ, zero, suc, ◌+◌, ◌<◌}
use mathlib.Core.Path.{◌≡◌, sym, ap, ◌∙◌}
use mathlib.Core.Bool.{Bool, true, false}
use mathlib.Core.List.{List, [], ◌∷◌}
use mathlib.Core.Logic.{inl, inr}
use native.Mathlib.Omega.{arith}
use lib.ListN.{set}
use lib.Dec.{eqb}
use borrow.Author.Tests.{eq-eqb, ne_eqb}
use Rattle.prelude.proofs.Lists.{at_set}
use Rattle.prelude.specs.Lists.{at}
use Rattle.prelude.specs.Limits.{undecided}
use Rattle.logic.specs.Problem.{Problem, Extends}

module _ (P : Problem) (l : List ℕ) (i v : ℕ) (c : ℕ → ℕ) where
  -- codes that keep to the decisions, and to one more
  pub decide_more : Extends P (at l) c → c i ≡ v → Extends P (at (set l i v)) c
  decide_more x e j h d =
      elim (at_set l i v j) [
        | inl s ↦ x j h (λ u. d (s ∙ u)) ∙ sym s
        | inr s ↦ ap c s.0 ∙ e ∙ sym s.1
      ]

  pub decide_less : at l i ≡ undecided → Extends P (at (set l i v)) c → Extends P (at l) c
  decide_less u x j h d =
      elim (at_set l i v j) [
        | inl s ↦ x j h (λ e. d (sym s ∙ e)) ∙ s
        | inr s ↦ absurd (d (ap (at l) s.0 ∙ u))
      ]

-- how many codes are not decided
abbrev one : Bool → ℕ
one true = 1
one false = 0

unfoldable pub openings : List ℕ → ℕ
openings [] = 0
openings (x ∷ xs) = one (eqb x undecided) + openings xs

pub decide_fewer : (l : List ℕ) (i v : ℕ) → at l i ≡ undecided → (v ≡ undecided → ⊥) → openings (set l i v) < openings l
unfolding openings
decide_fewer [] i v u n = absurd (zero_decided u)
  where
    zero_decided : 0 ≡ undecided → ⊥
    zero_decided e = omega arith
decide_fewer (x ∷ xs) zero v u n = rw (ne_eqb v undecided n, eq-eqb x undecided u) (omega arith)
decide_fewer (x ∷ xs) (suc i) v u n = let h = decide_fewer xs i v u n in omega arith
