-- Interface. What "sizes" gives back for every call, and what the buffer holds afterwards (docs/FORMAT.md, "The questions" and "Refusals").
use Rattle.std.specs.Prelude.{ℕ, ◌≡◌, true, false, List, length, ltb, Result, Ok, Err}
use Rattle.std.proofs.Math.Option.{Option, none, some}
use Rattle.prelude.specs.Causes.{refusal}
use Rattle.prelude.specs.Lists.{fronted}
use Rattle.prelude.specs.declared.refusal.Refusal.{Refusal}
use Rattle.layout.specs.Layout.{Reading, accepted, refused, reading}
use Rattle.answer.specs.Answer.{Entry, answer, sum}

-- a call is turned down with a number and a place, or the sheet has an answer with these sizes
pub data Outcome : Type 0 where
  turned_down : ℕ → ℕ → Outcome
  sized : List ℕ → Outcome

-- Cause 11: no interpretation satisfies sheet and bounds. Otherwise the sizes of the answer.
abbrev pub answering : Option Entry → Outcome
answering none = turned_down 11 0
answering (some e) = sized e.sizes

-- Causes 1 to 9 and 16 as the sheet is read, then 10: the buffer has less than one byte per field; then 11.
abbrev pub consider : Reading → ℕ → Outcome
consider (refused n i) room = turned_down n i
consider (accepted sh) room = elim (ltb room (length sh.bounds)) [ true ↦ turned_down 10 0 | false ↦ answering (answer sh) ]

-- what becomes of a call with these sheet bytes and a buffer of this length
unfoldable pub outcome : List ℕ → ℕ → Outcome
outcome s room = consider (reading s) room

-- THE RESULT: the sum of the sizes, or the refusal
abbrev pub gives : Outcome → Result ℕ Refusal
gives (turned_down n i) = Err (refusal n i)
gives (sized sizes) = Ok (sum sizes)

unfoldable pub sizing : List ℕ → ℕ → Result ℕ Refusal
sizing s room = gives (outcome s room)

-- THE BUFFER at exit, from the sheet's bytes and the buffer at entry
abbrev pub sizes_in : Outcome → List ℕ → List ℕ
sizes_in (turned_down n i) out = out
sizes_in (sized sizes) out = fronted sizes out

unfoldable pub sizes_after : List ℕ → List ℕ → List ℕ
sizes_after s out = sizes_in (outcome s (length out)) out

-- WHAT SIZES PROMISES of a call on the bytes s, both clauses of its contract. A primed buffer is the buffer at exit.
pub record Sizes (s out out' : List ℕ) (r : Result ℕ Refusal) : Type 0 where
  pub result : r ≡ sizing s (length out)
  pub buffer : out' ≡ sizes_after s out
