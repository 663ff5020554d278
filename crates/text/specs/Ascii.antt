-- Interface. Texts as bytes.
use Rattle.std.specs.Prelude.{ℕ, List, [], ◌∷◌}
use Prim.Native.String.{String}
use Rattle.text.specs.Letters.{folded}

-- the bytes of a text of ASCII characters
abbrev pub ascii : String → List ℕ
ascii = folded [] (λ (c : ℕ) (l : List ℕ). c ∷ l)
