-- The parts of a line as they are written one behind the other.
use Prim.Native.Nat.{ℕ}
use mathlib.Core.Path.{◌≡◌, sym, ap, ◌∙◌}
use mathlib.Core.List.{List, [], ◌∷◌, ◌++◌, append_assoc, append-nil}
use Rattle.prelude.specs.Pasted.{Wrote}
use Rattle.text.specs.Text.{decimal, spaced, line, line_feed}

-- what was written under an equal name
pub renamed : {d : List ℕ} {i : ℕ} {s t d' : List ℕ} {r : ℕ} → s ≡ t → Wrote d i s d' r → Wrote d i t d' r
renamed {d} {i} {s} {t} {d'} {r} e w = rw e at w

module _ {d : List ℕ} {i : ℕ} {d' : List ℕ} {r : ℕ} where
  pub spaced_one : (n : ℕ) → Wrote d i (32 ∷ decimal n) d' r → Wrote d i (spaced (n ∷ [])) d' r
  spaced_one n w = renamed (ap {B = List ℕ} (λ l. 32 ∷ l) (sym (append-nil (decimal n)))) w

  pub line_more :
      (word : List ℕ) (a : ℕ) (ns : List ℕ) → Wrote d i (word ++ spaced (a ∷ []) ++ spaced ns ++ (10 ∷ [])) d' r → Wrote d i (line word (a ∷ ns)) d' r
  line_more word a ns w =
      renamed
      (append_assoc (word ++ spaced (a ∷ [])) (spaced ns) line_feed
      ∙ append_assoc word (spaced (a ∷ [])) (spaced ns ++ line_feed)
      ∙ ap (λ (l : List ℕ). word ++ l)
      (sym (append_assoc (spaced (a ∷ [])) (spaced ns) line_feed)
      ∙ ap {B = List ℕ} (λ l. 32 ∷ (l ++ spaced ns) ++ line_feed) (append-nil (decimal a))))
      w
