-- What fitted filed, and the line that shows it.
use Prim.Native.Nat.{ℕ, ◌≤◌}
use native.Mathlib.Omega.{arith}
use mathlib.Core.Path.{◌≡◌, refl, sym, ap, ap₂, ◌∙◌}
use mathlib.Core.List.{List}
use lib.ListN.{length, take}
use Rattle.std.specs.Prelude.{Result, Ok, Err}
use Rattle.prelude.specs.Causes.{number_of, refusal}
use Rattle.prelude.specs.declared.refusal.Refusal.{Refusal}
use Rattle.logic.specs.Sheet.{Sheet}
use Rattle.layout.specs.Encode.{encode}
use Rattle.fitted.specs.Filing.{Filing, turned_down, filed, outcome, fits, fitting, buffer_after}
use Rattle.fitted.proofs.Filed.{turned_down_known}
use Rattle.fitted.proofs.Rooms.{written_front, written_fits}
use Rattle.text.specs.Ascii.{ascii}
use Rattle.text.specs.Text.{bytes_line}
use Rattle.lines.specs.Lines.{refusal_line}
use Rattle.filings.specs.Filings.{fitted_line}

-- the line of a call that was turned down
pub turned_down_line : (s : List ℕ) (room : ℕ) (r : Refusal) → Err r ≡ fitting s room → refusal_line (number_of r.cause) r.place ≡ fitted_line (outcome s room)
unfolding fitting
turned_down_line s room r f = step (outcome s room) refl
  where
    step : (o : Filing) → outcome s room ≡ o → refusal_line (number_of r.cause) r.place ≡ fitted_line (outcome s room)
    step (turned_down m j) o =
        let z : ◌≡◌ {A = Result ℕ Refusal} (Err r) (Err (refusal m j)) = f ∙ ap fits o in
        let same : r ≡ refusal m j = cc in
        ap (λ (q : Refusal). refusal_line (number_of q.cause) q.place) same ∙ ap (λ (n : ℕ). refusal_line n j) (turned_down_known s room m j o) ∙ ap fitted_line (sym o)
    step (filed new) o = let z : ◌≡◌ {A = Result ℕ Refusal} (Err r) (Ok (length (encode new))) = f ∙ ap fits o in cc

-- the sheet that was filed stands in front of the buffer, and the line shows it
module _ (s d d' : List ℕ) (n : ℕ) (f : fitting s (length d) ≡ Ok n) (after : d' ≡ buffer_after s d) where
  is : (new : Sheet) × (outcome s (length d) ≡ filed new) × (length (encode new) ≡ n)
  unfolding fitting
  is = step (outcome s (length d)) refl f
    where
      step : (o : Filing) → outcome s (length d) ≡ o → fits o ≡ Ok n → (new : Sheet) × (outcome s (length d) ≡ filed new) × (length (encode new) ≡ n)
      step (turned_down m j) q g = let z : ◌≡◌ {A = ℕ} 0 1 = cc in absurd (omega arith)
      step (filed new) q g = (new, q, cc)

  pub sheet_shown : n ≤ length d
  sheet_shown = omega (arith, is.2, written_fits s d is.0 is.1)

  pub written_line : bytes_line (ascii "sheet") n (take n d') ≡ fitted_line (outcome s (length d))
  written_line =
      ap₂ (bytes_line (ascii "sheet")) (sym is.2) (ap₂ (λ (m : ℕ) (l : List ℕ). take m l) (sym is.2) after ∙ written_front s d is.0 is.1)
      ∙ ap fitted_line (sym is.1)
