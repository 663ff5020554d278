-- A forced question with one fixed reply breaks the contract, even where every sheet is accepted and every two terms are comparable: of one
-- sheet with two symbols without parameters the first term is forced together with itself, and not with the second.
use Prim.Native.Nat.{ℕ}
use mathlib.Core.Path.{◌≡◌, refl, ◌∙◌}
use mathlib.Core.Bool.{Bool, true, false}
use mathlib.Core.List.{List, [], ◌∷◌, flat_map}
use Rattle.logic.specs.Sheet.{Sheet}
use Rattle.layout.specs.Encode.{encode}
use Rattle.layout.specs.Layout.{accepted, cause, read_from, reading}
use Rattle.congruence.specs.Closure.{stated, round, rounds, labels}
use Rattle.prelude.specs.declared.refusal.Refusal.{Refusal}
use Rattle.std.specs.Prelude.{Result, Ok}
use Rattle.forced.specs.Forcing.{comparable, forcing}

-- one sort of one code, two symbols without parameters, and their terms
abbrev two : Sheet
two =
    record {
      bounds = record { floor = 1; ceiling = 1 } ∷ [];
      symbols = record { result = 0; params = [] } ∷ record { result = 0; params = [] } ∷ [];
      terms = record { symbol = 0; args = [] } ∷ record { symbol = 1; args = [] } ∷ [];
      literals = [];
      fills = [];
      total = 1;
    }

two_bytes_lem : List ℕ
two_bytes_lem = encode two

reads_two : reading two_bytes_lem ≡ accepted two
unfolding two_bytes_lem encode flat_map reading read_from cause
reads_two = refl

with_itself : forcing two_bytes_lem 0 0 ≡ Ok true
unfolding two_bytes_lem encode flat_map forcing reading read_from cause labels rounds round stated
with_itself = refl

with_the_other : forcing two_bytes_lem 0 1 ≡ Ok false
unfolding two_bytes_lem encode flat_map forcing reading read_from cause labels rounds round stated
with_the_other = refl

pub no_fixed_reply : (r : Result Bool Refusal) → ((s : List ℕ) (sh : Sheet) (a b : ℕ) → reading s ≡ accepted sh → comparable sh a b ≡ true → r ≡ forcing s a b) → ⊥
no_fixed_reply r h =
    let y : r ≡ Ok true = h two_bytes_lem two 0 0 reads_two refl ∙ with_itself in
    let n : r ≡ Ok false = h two_bytes_lem two 0 1 reads_two refl ∙ with_the_other in
    cc
