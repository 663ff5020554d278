-- The interface: the answers of find, sizes, find_at and judge as one number of 32 bits: a refusal has its number in the upper 16 bits and its
-- place in the lower.
use Rattle.std.specs.Prelude.{ℕ, ◌+◌, ◌*◌, ◌≤◌, ◌<◌, Result, Ok, Err}
use Rattle.prelude.specs.Causes.{number_of}
use Rattle.prelude.specs.declared.refusal.Refusal.{Refusal}
use Rattle.tables.specs.declared.Judgement.{Judgement}
use Rattle.tables.specs.declared.Judgement.TheVariants.{Fits, OutOfBounds, Broken}

abbrev pub refusal_number : ℕ → ℕ → ℕ
refusal_number n place = n * 65536 + place

-- judge: 0 fits, 1 out of bounds, 2 + k for the first broken statement k
abbrev pub judge_number : Result Judgement Refusal → ℕ
judge_number (Ok Fits) = 0
judge_number (Ok OutOfBounds) = 1
judge_number (Ok (Broken k)) = 2 + k
judge_number (Err r) = refusal_number (number_of r.cause) r.place

-- find and find_at: the sum of the sizes
abbrev pub find_number : Result ℕ Refusal → ℕ
find_number (Ok sum) = sum
find_number (Err r) = refusal_number (number_of r.cause) r.place

-- sizes: their sum
abbrev pub sizes_number : Result ℕ Refusal → ℕ
sizes_number = find_number

-- Not the interface: what `found_number` asks of an answer, that its number has 32 bits. All that find, sizes and find_at give back are so
-- (`find_small`, `sizes_small` and `find_at_small` of proofs/Numbers.antt).
abbrev pub Small : Result ℕ Refusal → Type 0
Small (Ok sum) = sum ≤ 128
Small (Err r) = r.place < 65536
