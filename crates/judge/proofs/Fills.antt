-- Judge and table of a name pass over fills: the answer is that of the sheet without them.
use Prim.Native.Nat.{ℕ}
use mathlib.Core.Path.{◌≡◌, ap, sym, ◌∙◌}
use mathlib.Core.List.{List}
use Rattle.logic.specs.Sheet.{Sheet, without_fills}
use Rattle.logic.specs.Structure.{codes}
use Rattle.layout.specs.Layout.{Reading, accepted, reading}
use Rattle.layout.specs.Encode.{encode}
use Rattle.layout.proofs.Answers.{unfilled_read}
use Rattle.tables.specs.Tests.{well_laid, in_bounds}
use Rattle.judge.specs.Judge.{judged, judged_of, judgement, stretch_of, stretch_in, table_of}

module _ (s t : List ℕ) (sh : Sheet) (q : reading s ≡ accepted sh) where
  pub judge_passes : judgement s t ≡ judgement (encode (without_fills sh)) t
  unfolding judgement judged well_laid in_bounds codes
  judge_passes = ap (λ (r : Reading). judged_of r t) q ∙ sym (ap (λ (r : Reading). judged_of r t) (unfilled_read s sh q))

  pub table_passes : (f : ℕ) → table_of s t f ≡ table_of (encode (without_fills sh)) t f
  unfolding table_of stretch_of well_laid
  table_passes f = ap (λ (r : Reading). stretch_in r t f) q ∙ sym (ap (λ (r : Reading). stretch_in r t f) (unfilled_read s sh q))
