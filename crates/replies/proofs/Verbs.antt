-- What the test of a line's verb against a word says.
use Prim.Native.Nat.{ℕ}
use mathlib.Core.Path.{◌≡◌, sym, ap, ◌∙◌}
use mathlib.Core.Bool.{Bool}
use mathlib.Core.List.{List}
use Rattle.prelude.specs.Tests.{same_list}

pub told : (w : List ℕ) {v f : List ℕ} {r b : Bool} → v ≡ f → r ≡ same_list v w → r ≡ b → same_list f w ≡ b
told w verb test is = ap (λ (x : List ℕ). same_list x w) (sym verb) ∙ sym test ∙ is
