-- Interface, for `ascii`: a quoted text by its characters.
use Rattle.std.specs.Prelude.{ℕ}
use Prim.Native.Char.{code}
use Prim.Native.String.{String, [], ◌∷◌}

-- from the last character to the first
abbrev pub folded : {A : Type 0} → A → (ℕ → A → A) → String → A
folded none more [] = none
folded none more (c ∷ s) = more (code c) (folded none more s)
