-- Interface. What "fitted" gives back for every call, and what the buffer holds afterwards (docs/FORMAT.md, "The questions" and "Refusals").
use Rattle.std.specs.Prelude.{ℕ, ◌≡◌, true, false, List, length, ltb, Result, Ok, Err}
use Rattle.std.proofs.Math.Option.{Option, none, some}
use Rattle.prelude.specs.Causes.{refusal}
use Rattle.prelude.specs.declared.refusal.Refusal.{Refusal}
use Rattle.prelude.specs.Limits.{most_written_bytes}
use Rattle.prelude.specs.Lists.{fronted}
use Rattle.logic.specs.Sheet.{Sheet}
use Rattle.layout.specs.Layout.{Reading, accepted, refused, reading}
use Rattle.layout.specs.Encode.{encode}
use Rattle.answer.specs.Answer.{Entry, answer, structure_of}
use Rattle.fitted_sheet.specs.FittedSheet.{fitted_sheet, too_many}

-- a call is turned down with a number and a place, or a sheet is filed
pub data Filing : Type 0 where
  turned_down : ℕ → ℕ → Filing
  filed : Sheet → Filing

-- Cause 14: the new sheet would pass a limit.
abbrev pub within : Sheet → Filing
within new = elim (too_many new) [ true ↦ turned_down 14 0 | false ↦ filed new ]

-- Cause 11: no interpretation satisfies sheet and bounds. Otherwise the answer's tables are filed.
abbrev pub filing : Sheet → Option Entry → Filing
filing sh none = turned_down 11 0
filing sh (some e) = within (fitted_sheet sh (structure_of sh e))

-- Causes 1 to 9 and 16 as the sheet is read, then 10: the buffer is shorter than the longest sheet without fills; then 11 and 14.
abbrev pub consider : Reading → ℕ → Filing
consider (refused n i) room = turned_down n i
consider (accepted sh) room = elim (ltb room most_written_bytes) [ true ↦ turned_down 10 0 | false ↦ filing sh (answer sh) ]

-- what becomes of a call with these sheet bytes and a buffer of this length
unfoldable pub outcome : List ℕ → ℕ → Filing
outcome s room = consider (reading s) room

-- THE RESULT: the length of the new sheet, or the refusal
abbrev pub fits : Filing → Result ℕ Refusal
fits (turned_down n i) = Err (refusal n i)
fits (filed new) = Ok (length (encode new))

unfoldable pub fitting : List ℕ → ℕ → Result ℕ Refusal
fitting s room = fits (outcome s room)

-- THE BUFFER at exit, from the sheet's bytes and the buffer at entry
abbrev pub buffer_in : Filing → List ℕ → List ℕ
buffer_in (turned_down n i) out = out
buffer_in (filed new) out = fronted (encode new) out

unfoldable pub buffer_after : List ℕ → List ℕ → List ℕ
buffer_after s out = buffer_in (outcome s (length out)) out

-- WHAT FITTED PROMISES of a call on the bytes s, both clauses of its contract. A primed buffer is the buffer at exit.
pub record Files (s out out' : List ℕ) (r : Result ℕ Refusal) : Type 0 where
  pub result : r ≡ fitting s (length out)
  pub buffer : out' ≡ buffer_after s out
