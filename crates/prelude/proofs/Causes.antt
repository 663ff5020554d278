-- A cause and its number stand for one another.
use Rattle.std.specs.Prelude.{◌≡◌, ◌≤◌, ℕ, zero, suc, [], ◌∷◌, map, Ok}
use Rattle.std.proofs.lemmas.List.{get_or-map}
use Rattle.std.proofs.lemmas.List.FromFn.{get_or-range_with_len}
use Rattle.std.proofs.Common.{refl, ap, sym, ◌∙◌, arith}
use Rattle.prelude.specs.declared.refusal.Cause.{Cause}
use Rattle.prelude.specs.declared.refusal.Cause.TheVariants.{TooLong, CutShort, Misplaced, WrongLength, OneTooMany, OutOfRange, IllSorted, Repeated, NoTotal, ShortBuffer, NoAnswer, IllLaid, NotThere, PastLimit, NoWalk, Refilled, WrongSizes, IllBundled, OverLimit}
use Rattle.prelude.specs.Causes.{number_of, causes, cause_of, tested}

-- the numbers are 1 to 19, in the list's order
pub numbers : map number_of causes ≡ 1 ∷ 2 ∷ 3 ∷ 4 ∷ 5 ∷ 6 ∷ 7 ∷ 8 ∷ 9 ∷ 10 ∷ 11 ∷ 12 ∷ 13 ∷ 14 ∷ 15 ∷ 16 ∷ 17 ∷ 18 ∷ 19 ∷ []
numbers = refl

pub cause_number : (c : Cause) → cause_of (number_of c) ≡ c
cause_number TooLong = refl
cause_number CutShort = refl
cause_number Misplaced = refl
cause_number WrongLength = refl
cause_number OneTooMany = refl
cause_number OutOfRange = refl
cause_number IllSorted = refl
cause_number Repeated = refl
cause_number NoTotal = refl
cause_number ShortBuffer = refl
cause_number NoAnswer = refl
cause_number IllLaid = refl
cause_number NotThere = refl
cause_number PastLimit = refl
cause_number NoWalk = refl
cause_number Refilled = refl
cause_number WrongSizes = refl
cause_number IllBundled = refl
cause_number OverLimit = refl

-- and a number from 1 to 19 is that of its cause
pub number_cause : (n : ℕ) → 1 ≤ n → n ≤ 19 → number_of (cause_of n) ≡ n
number_cause zero h k = absurd (omega arith)
number_cause (suc n) h k = sym (get_or-map number_of causes n TooLong 1 (omega arith)) ∙ get_or-range_with_len 1 19 n 1 (omega arith) ∙ omega arith

-- so two such numbers of one cause are the same
pub one_number : (m n : ℕ) → 1 ≤ m → m ≤ 19 → 1 ≤ n → n ≤ 19 → cause_of m ≡ cause_of n → m ≡ n
one_number m n a b c d e = sym (number_cause m a b) ∙ ap number_of e ∙ number_cause n c d

-- a test that passes has found no cause
pub tested_ok : (n : ℕ) (u : Unit {0}) → Ok u ≡ tested n → n ≡ 0
tested_ok zero u e = refl
tested_ok (suc n) u e = cc
