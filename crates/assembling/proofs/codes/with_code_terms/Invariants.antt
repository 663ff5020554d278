-- `assembling::codes::with_code_terms` meets its contract: the expressions made so far stand behind those that were there.
use Prim.Native.Nat.{◌+◌, ◌≤◌}
use mathlib.Core.List.{[], ◌∷◌}
use Rattle.assembling.specs.Parts.{bare_term}
use Rattle.assembling.proofs.Growing.{TermsTo}
use Rattle.assembling.proofs.codes.with_code_terms.Given as goal

abbrev pub invariant-loop-c : goal.invariant-loop-c
invariant-loop-c l = (l.c ≤ l.n) × TermsTo l.initial.out l.c (λ i. bare_term (l.first + i) ∷ []) l.out
