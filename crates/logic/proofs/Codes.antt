-- The codes of terms under two structures: they depend on the cells that terms reach and on nothing else.
use Prim.Native.Nat.{ℕ, ◌≤◌, ◌<◌}
use native.Mathlib.Decide.{dec_lt}
use native.Mathlib.Omega.{arith}
use mathlib.Core.Path.{◌≡◌, sym, ◌∙◌}
use mathlib.Core.List.{map}
use lib.ListN.{length, get_or-eq_default}
use lib.Seq.{ext_get_or}
use Rattle.logic.specs.Sheet.{Sheet, Literal, symbol_at, term_at, literal_at}
use Rattle.logic.specs.Structure.{Structure, InSorts, Interprets, codes, code, Holds, Satisfies}
use Rattle.logic.specs.WellFormed.{WellFormed}
use Rattle.logic.proofs.Meaning.{length_codes, code_is, arguments_in_sorts, code_below, codes_own}

-- there is no code past the terms
pub code_past : (M : Structure) (sh : Sheet) (i : ℕ) → length sh.terms ≤ i → code M sh i ≡ 0
code_past M sh i h = get_or-eq_default (codes M sh) 0 (omega (arith, length_codes M sh))

-- the cells that terms reach lie in their tables
pub reached_in_params : (M : Structure) (sh : Sheet) → WellFormed sh → Interprets M sh → (i : ℕ) → i < length sh.terms → InSorts M.size (symbol_at sh (term_at sh i).symbol).params (map (code M sh) (term_at sh i).args)
reached_in_params M sh w m i h = arguments_in_sorts sh w M.size (code M sh) i h (λ a l. code_below M sh w m a (omega arith))

-- Two structures whose tables agree at the cells that the terms of one of them reach give every term the same code.
module _ (M N : Structure) (sh : Sheet) (w : WellFormed sh) (agree : (i : ℕ) → i < length sh.terms → M.table (term_at sh i).symbol (map (code M sh) (term_at sh i).args) ≡ N.table (term_at sh i).symbol (map (code M sh) (term_at sh i).args)) where
  pub same_code : (i : ℕ) → code M sh i ≡ code N sh i
  same_code i =
      elim (dec_lt i (length sh.terms)) [
        | yes b ↦ sym (codes_own N sh w (code M sh) (λ j h. code_is M sh w j h ∙ agree j h) i b)
        | no b ↦ code_past M sh i (omega arith) ∙ sym (code_past N sh i (omega arith))
      ]

  pub same_codes : codes M sh ≡ codes N sh
  same_codes = ext_get_or 0 (codes M sh) (codes N sh) (length_codes M sh ∙ sym (length_codes N sh)) (λ i h. same_code i)

-- statements hold alike of equal codes
pub holds_same : (c d : ℕ → ℕ) (l : Literal) → c l.left ≡ d l.left → c l.right ≡ d l.right → Holds c l → Holds d l
holds_same c d l e f h = rw (e, f) at h

pub satisfies_same : (M N : Structure) (sh : Sheet) → ((i : ℕ) → code M sh i ≡ code N sh i) → Satisfies M sh → Satisfies N sh
satisfies_same M N sh e h k l = holds_same (code M sh) (code N sh) (literal_at sh k) (e _) (e _) (h k l)
