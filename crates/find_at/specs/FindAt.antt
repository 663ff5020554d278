-- Interface. What "find_at" gives back for every call, and what both buffers hold afterwards (docs/FORMAT.md, "The questions" and "Refusals").
use Rattle.std.specs.Prelude.{ℕ, ◌≡◌, Bool, true, false, ◌&&◌, List, length, eqb, Result}
use Rattle.prelude.specs.Lists.{at}
use Rattle.logic.specs.Sheet.{Sheet}
use Rattle.layout.specs.Layout.{Reading, accepted, refused, reading}
use Rattle.tables.specs.Tests.{in_bounds}
use Rattle.answer.specs.Answer.{answer_at}
use Rattle.find_at.specs.Found.{Outcome, turned_down, short, answering, finds, codes_in, tables_in}
use Rattle.prelude.specs.declared.refusal.Refusal.{Refusal}

-- Cause 17 does not apply: there are as many sizes as fields, they lie from floor to ceiling and sum to at most the total. `in_bounds` is the judge's
-- test; that this test is `CandidateSizes` of answer/specs/Demand.antt: `candidate_sizes_test` of proofs/Sizes.antt.
abbrev pub candidate_sizes : Sheet → List ℕ → Bool
candidate_sizes sh sizes = eqb (length sizes) (length sh.bounds) && in_bounds sh (at sizes)

-- cause 17, then cause 11, or the answer at these sizes
abbrev pub at_sizes : Sheet → List ℕ → Outcome
at_sizes sh sizes = elim (candidate_sizes sh sizes) [ true ↦ answering sh (answer_at sh sizes) | false ↦ turned_down 17 0 ]

-- causes 1 to 9 and 16 as the sheet is read, then 10, 17 and 11
abbrev pub consider_at : Reading → List ℕ → ℕ → ℕ → Outcome
consider_at (refused n i) sizes code_bytes table_bytes = turned_down n i
consider_at (accepted sh) sizes code_bytes table_bytes =
    elim (short sh code_bytes table_bytes) [ true ↦ turned_down 10 0 | false ↦ at_sizes sh sizes ]

-- what becomes of a call with these sheet bytes and sizes, and code and table buffers of these lengths
unfoldable pub outcome_at : List ℕ → List ℕ → ℕ → ℕ → Outcome
outcome_at s sizes code_bytes table_bytes = consider_at (reading s) sizes code_bytes table_bytes

-- THE RESULT
unfoldable pub finding_at : List ℕ → List ℕ → ℕ → ℕ → Result ℕ Refusal
finding_at s sizes code_bytes table_bytes = finds (outcome_at s sizes code_bytes table_bytes)

-- THE BUFFERS at exit, from the sheet's bytes, the sizes and both buffers at entry
unfoldable pub codes_after_at : List ℕ → List ℕ → List ℕ → List ℕ → List ℕ
codes_after_at s sizes codes tables = codes_in (outcome_at s sizes (length codes) (length tables)) codes

unfoldable pub tables_after_at : List ℕ → List ℕ → List ℕ → List ℕ → List ℕ
tables_after_at s sizes codes tables = tables_in (outcome_at s sizes (length codes) (length tables)) tables

-- WHAT FIND_AT PROMISES of a call on the bytes s and the sizes z, the three clauses of its contract: the result, and every byte of both buffers. A
-- primed buffer is the buffer at exit.
pub record FindsAt (s z cs ts cs' ts' : List ℕ) (r : Result ℕ Refusal) : Type 0 where
  pub result : r ≡ finding_at s z (length cs) (length ts)
  pub codes : cs' ≡ codes_after_at s z cs ts
  pub tables : ts' ≡ tables_after_at s z cs ts
