-- Interface. What "find" gives back for every call, and what both buffers hold afterwards (docs/FORMAT.md, "The questions" and "Refusals").
use Rattle.std.specs.Prelude.{ℕ, ◌≡◌, true, false, List, length, Result}
use Rattle.layout.specs.Layout.{Reading, accepted, refused, reading}
use Rattle.answer.specs.Answer.{answer}
use Rattle.find_at.specs.Found.{Outcome, turned_down, short, answering, finds, codes_in, tables_in}
use Rattle.prelude.specs.declared.refusal.Refusal.{Refusal}

-- causes 1 to 9 and 16 as the sheet is read, then 10, then 11: no interpretation satisfies sheet and bounds
abbrev pub consider : Reading → ℕ → ℕ → Outcome
consider (refused n i) code_bytes table_bytes = turned_down n i
consider (accepted sh) code_bytes table_bytes =
    elim (short sh code_bytes table_bytes) [ true ↦ turned_down 10 0 | false ↦ answering sh (answer sh) ]

-- what becomes of a call with these sheet bytes, and code and table buffers of these lengths
unfoldable pub outcome : List ℕ → ℕ → ℕ → Outcome
outcome s code_bytes table_bytes = consider (reading s) code_bytes table_bytes

-- THE RESULT
unfoldable pub finding : List ℕ → ℕ → ℕ → Result ℕ Refusal
finding s code_bytes table_bytes = finds (outcome s code_bytes table_bytes)

-- THE BUFFERS at exit, from the sheet's bytes and both buffers at entry
unfoldable pub codes_after : List ℕ → List ℕ → List ℕ → List ℕ
codes_after s codes tables = codes_in (outcome s (length codes) (length tables)) codes

unfoldable pub tables_after : List ℕ → List ℕ → List ℕ → List ℕ
tables_after s codes tables = tables_in (outcome s (length codes) (length tables)) tables

-- WHAT FIND PROMISES of a call on the bytes s, the three clauses of its contract: the result, and every byte of both buffers. A primed
-- buffer is the buffer at exit.
pub record Finds (s cs ts cs' ts' : List ℕ) (r : Result ℕ Refusal) : Type 0 where
  pub result : r ≡ finding s (length cs) (length ts)
  pub codes : cs' ≡ codes_after s cs ts
  pub tables : ts' ≡ tables_after s cs ts
