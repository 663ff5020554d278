-- Interface. What find and find_at share: the test of both buffers, and what an outcome makes of the result and of the buffers (docs/FORMAT.md, "The
-- questions" and "Refusals").
use Rattle.std.specs.Prelude.{ℕ, Bool, ◌||◌, List, length, ltb, Result, Ok, Err}
use Rattle.std.proofs.Math.Option.{Option, none, some}
use Rattle.prelude.specs.Causes.{refusal}
use Rattle.prelude.specs.Lists.{fronted}
use Rattle.logic.specs.Sheet.{Sheet, bound_at}
use Rattle.tables.specs.Layout.{extent, encoded}
use Rattle.answer.specs.Answer.{Entry, sum, structure_of}
use Rattle.prelude.specs.declared.refusal.Refusal.{Refusal}

-- a call is turned down with a number and a place, or the sheet has an answer
pub data Outcome : Type 0 where
  turned_down : ℕ → ℕ → Outcome
  answered : Sheet → Entry → Outcome

-- the sizes, each at its ceiling
abbrev pub ceilings : Sheet → ℕ → ℕ
ceilings sh s = (bound_at sh s).ceiling

-- Cause 10: the code buffer has less than one byte per expression, or the table buffer is shorter than the tables would be with every
-- size at its ceiling.
abbrev pub short : Sheet → ℕ → ℕ → Bool
short sh code_bytes table_bytes = ltb code_bytes (length sh.terms) || ltb table_bytes (extent sh (ceilings sh))

-- Cause 11: there is no answer.
abbrev pub answering : Sheet → Option Entry → Outcome
answering sh none = turned_down 11 0
answering sh (some e) = answered sh e

-- THE RESULT: the sum of the sizes, or the refusal
abbrev pub finds : Outcome → Result ℕ Refusal
finds (turned_down n i) = Err (refusal n i)
finds (answered sh e) = Ok (sum e.sizes)

-- THE BUFFERS at exit, from the buffers at entry
abbrev pub codes_in : Outcome → List ℕ → List ℕ
codes_in (turned_down n i) codes = codes
codes_in (answered sh e) codes = fronted e.codes codes

abbrev pub tables_in : Outcome → List ℕ → List ℕ
tables_in (turned_down n i) tables = tables
tables_in (answered sh e) tables = fronted (encoded (structure_of sh e) sh) tables
