-- For the proofs alone: what the parts of the parser promise of one record.
use Rattle.std.specs.Prelude.{ℕ, zero, suc, List, Result, Ok, Err}
use Rattle.prelude.specs.Causes.{cause_of}
use Rattle.prelude.specs.declared.refusal.Cause.{Cause}
use Rattle.logic.specs.Sheet.{Sheet}
use Rattle.layout.specs.Layout.{kind_of, add}
use Rattle.layout.specs.Packed.{packed}
use Rattle.sheet.specs.declared.Taken.{Taken}

-- what a record gives, by the number of its cause: added to the sheet so far where there is none, and else the cause
abbrev pub taken : ℕ → ℕ → ℕ → List ℕ → Sheet → Result Taken Cause
taken zero next k payload sh = Ok (record { next = next; sheet = packed (add sh (kind_of k) payload) })
taken (suc n) next k payload sh = Err (cause_of (suc n))
