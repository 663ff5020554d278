-- Interface. What a bundle is, and what the question "bundle" gives back for every call (docs/FORMAT.md, "The bundle" and "Refusals").
use Rattle.std.specs.Prelude.{ℕ, zero, suc, ◌+◌, ◌-◌, cond, Result, Ok, Err, List, [], ◌∷◌, map, take, drop, replicate, ltb, eqb}
use Rattle.std.proofs.Math.Option.{Option, none, some, get_or}
use Rattle.prelude.specs.Lists.{at, firsts}
use Rattle.records.specs.Step.{step_at}
use Rattle.records.specs.declared.Step.TheVariants.{Record, Cut, End}
use Rattle.layout.specs.Layout.{Reading, accepted, refused, reading}
use Rattle.answer.specs.Answer.{Entry, answer, sum}
use Rattle.prelude.specs.Causes as causes
use Rattle.prelude.specs.declared.refusal.Refusal.{Refusal}
use Rattle.bundle.specs.declared.Shares.{Shares}

-- the most sheets of a bundle, and the kind of its records
abbrev pub most_sheets : ℕ
most_sheets = 8

abbrev pub sheet_kind : ℕ
sheet_kind = 9

-- a payload: where it starts in the bundle's bytes, and how many bytes it has; these bytes
pub record Part : Type 0 where
  pub start : ℕ
  pub len : ℕ

abbrev pub sheet_in : List ℕ → Part → List ℕ
sheet_in s p = take p.len (drop p.start s)

-- one part more in front
abbrev pub cons_part : Part → Option (List Part) → Option (List Part)
cons_part p none = none
cons_part p (some ps) = some (p ∷ ps)

-- The parts from a position on, where there may be n of them: records of kind 9 up to the end. None where a record is cut short or of another kind, or
-- where there is one more.
unfoldable pub parts_from : ℕ → List ℕ → ℕ → Option (List Part)
parts_from zero s i = elim (step_at s i) [ Record kind start len ↦ none | Cut ↦ none | End ↦ some [] ]
parts_from (suc n) s i =
    elim (step_at s i) [
      | Record kind start len ↦ cond (eqb kind sheet_kind) (cons_part (record { start = start; len = len }) (parts_from n s (start + len))) none
      | Cut ↦ none
      | End ↦ some []
    ]

-- THE PARTS OF A BUNDLE, from 1 to 8. There is none exactly where the bundle itself is at fault, since one without a record is at fault too.
unfoldable pub parts : List ℕ → List Part
parts s = get_or (parts_from most_sheets s 0) []

-- the sheets of a bundle
abbrev pub sheets : List ℕ → List (List ℕ)
sheets s = map (sheet_in s) (parts s)

-- what a sheet answers by itself: a sum, or a refusal's number and place
pub data Alone : Type 0 where
  sum_alone : ℕ → Alone
  refused_alone : ℕ → ℕ → Alone

-- A SHEET'S OWN ANSWER: its smallest sum, which is that of the sizes of its answer; or the number and place with which it is refused, 11 where it has none
abbrev pub smallest_of : Option Entry → Alone
smallest_of none = refused_alone 11 0
smallest_of (some e) = sum_alone (sum e.sizes)

abbrev pub smallest_read : Reading → Alone
smallest_read (refused n i) = refused_alone n i
smallest_read (accepted sh) = smallest_of (answer sh)

unfoldable pub smallest : List ℕ → Alone
smallest sheet = smallest_read (reading sheet)

-- the same as the question sizes gives it
abbrev pub told : Alone → Result ℕ Refusal
told (sum_alone n) = Ok n
told (refused_alone n i) = Err (causes.refusal n i)

-- what becomes of the sheets: one is turned down, its place counted from the bundle's start, or each has its sum
pub data Outcome : Type 0 where
  turned_down : ℕ → ℕ → Outcome
  summed : List ℕ → Outcome

-- of a sheet that starts there, with this answer of its own, and of the sheets behind it: the first that is refused decides
abbrev pub joined : ℕ → Alone → Outcome → Outcome
joined start (refused_alone n i) rest = turned_down n (start + i)
joined start (sum_alone k) (turned_down n i) = turned_down n i
joined start (sum_alone k) (summed sums) = summed (k ∷ sums)

unfoldable pub summing : List ℕ → List Part → Outcome
summing s [] = summed []
summing s (p ∷ ps) = joined p.start (smallest (sheet_in s p)) (summing s ps)

-- What becomes of the board's stock of codes: what is left of the limit, or the refusal's number and place; and with the sums of the sheets, 0 in unused
-- places and where the call is turned down.
pub data Stock : Type 0 where
  Left : ℕ → Stock
  Refused : ℕ → ℕ → Stock

pub record Bundling : Type 0 where
  pub sums : List ℕ
  pub stock : Stock

-- a call that is turned down: eight zeros, number and place
abbrev pub refusal : ℕ → ℕ → Bundling
refusal n i = record { sums = replicate most_sheets 0; stock = Refused n i }

-- Cause 19: the sums exceed the limit. Otherwise the sums, in a list of eight with 0 in unused places, and what is left of the limit.
unfoldable pub sharing : ℕ → List ℕ → Bundling
sharing limit sums =
    cond (ltb limit (sum sums)) (refusal 19 0) (record { sums = firsts most_sheets (at sums); stock = Left (limit - sum sums) })

abbrev pub gives : ℕ → Outcome → Bundling
gives limit (turned_down n i) = refusal n i
gives limit (summed sums) = sharing limit sums

-- Cause 18: the bundle itself is at fault. It comes before any sheet is read.
abbrev pub consider : List ℕ → ℕ → List Part → Bundling
consider s limit [] = refusal 18 0
consider s limit (p ∷ ps) = gives limit (summing s (p ∷ ps))

-- what becomes of the call, from the bundle's bytes and the limit
unfoldable pub bundling : List ℕ → ℕ → Bundling
bundling s limit = consider s limit (parts s)

-- THE RESULT: the sums and what is left, or the refusal
abbrev pub shared_out : List ℕ → Stock → Result Shares Refusal
shared_out sums (Left left) = Ok (record { sums = sums; left = left })
shared_out sums (Refused n i) = Err (causes.refusal n i)

abbrev pub answered : Bundling → Result Shares Refusal
answered b = shared_out b.sums b.stock
