-- The interface: the causes of src/refusal.rt and their numbers (docs/FORMAT.md, "Refusals"), which definitions speak of.
use Rattle.std.specs.Prelude.{ℕ, zero, suc, List, [], ◌∷◌, get_or, Result, Ok, Err}
use Rattle.prelude.specs.declared.refusal.Cause.{Cause}
use Rattle.prelude.specs.declared.refusal.Cause.TheVariants.{TooLong, CutShort, Misplaced, WrongLength, OneTooMany, OutOfRange, IllSorted, Repeated, NoTotal, ShortBuffer, NoAnswer, IllLaid, NotThere, PastLimit, NoWalk, Refilled, WrongSizes, IllBundled, OverLimit}
use Rattle.prelude.specs.declared.refusal.Refusal.{Refusal}

abbrev pub number_of : Cause → ℕ
number_of TooLong = 1
number_of CutShort = 2
number_of Misplaced = 3
number_of WrongLength = 4
number_of OneTooMany = 5
number_of OutOfRange = 6
number_of IllSorted = 7
number_of Repeated = 8
number_of NoTotal = 9
number_of ShortBuffer = 10
number_of NoAnswer = 11
number_of IllLaid = 12
number_of NotThere = 13
number_of PastLimit = 14
number_of NoWalk = 15
number_of Refilled = 16
number_of WrongSizes = 17
number_of IllBundled = 18
number_of OverLimit = 19

-- The causes in the order of their numbers, from 1 on.
abbrev pub causes : List Cause
causes =
    TooLong ∷ CutShort ∷ Misplaced ∷ WrongLength ∷ OneTooMany ∷ OutOfRange ∷ IllSorted ∷ Repeated ∷ NoTotal ∷ ShortBuffer
    ∷ NoAnswer ∷ IllLaid ∷ NotThere ∷ PastLimit ∷ NoWalk ∷ Refilled ∷ WrongSizes ∷ IllBundled ∷ OverLimit ∷ []

-- The cause that has a number from 1 to 19 (`numbers` and `cause_number` of proofs/Causes.antt); no definition asks it of another.
abbrev pub cause_of : ℕ → Cause
cause_of n = get_or (TooLong ∷ causes) n TooLong

-- a refusal by its number and its place
abbrev pub refusal : ℕ → ℕ → Refusal
refusal n i = record { cause = cause_of n; place = i }

-- what a test gives, by the number of the cause that it finds, 0 where it finds none
abbrev pub tested : ℕ → Result (Unit {0}) Cause
tested zero = Ok tt
tested (suc n) = Err (cause_of (suc n))
