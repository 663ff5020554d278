-- The interface: what the parser hands over and what the question "read" answers, as functions of the reading that the bytes define.
use Rattle.std.specs.Prelude.{ℕ, ◌≡◌, List, Result, Ok, Err}
use Rattle.prelude.specs.Causes.{refusal}
use Rattle.prelude.specs.declared.refusal.Refusal.{Refusal}
use Rattle.logic.specs.Sheet.{Sheet}
use Rattle.layout.specs.Layout.{Reading, accepted, refused, reading}
use Rattle.layout.specs.Packed.{packed}
use Rattle.layout.specs.declared.Parsed.{Parsed}

-- what the parser hands over: the sheet, or the refusal
unfoldable pub parsing : Reading → Result Parsed Refusal
parsing (accepted sh) = Ok (packed sh)
parsing (refused n i) = Err (refusal n i)

-- the answer to the question "read"
unfoldable pub verdict : Reading → Result (Unit {0}) Refusal
verdict (accepted sh) = Ok tt
verdict (refused n i) = Err (refusal n i)

-- a parsed sheet with the bytes that it was read from
pub record ReadFrom (p : Parsed) : Type 0 where
  pub bytes : List ℕ
  pub sheet : Sheet
  pub reads : reading bytes ≡ accepted sheet
  pub same : p ≡ packed sheet
