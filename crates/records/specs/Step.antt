-- The interface: one record of a sheet: what stands at a position, and where the next one starts.
use Rattle.std.specs.Prelude.{ℕ, ◌+◌, List, cond, length, leb}
use Rattle.records.specs.Record.{cut, kind_at, length_at}
use Rattle.records.specs.declared.Step.{Step}
use Rattle.records.specs.declared.Step.TheVariants.{Record, Cut, End}
use Rattle.records.specs.declared.Stepped.{Stepped}

-- The record at a position, for every position: nothing at the end or past it, a record that is cut short, or a whole one with its
-- kind and where its payload lies.
abbrev pub step_at : List ℕ → ℕ → Step
step_at s i = cond (leb (length s) i) End (cond (cut s i) Cut (Record (kind_at s i) (i + 4) (length_at s i)))

-- The position behind what stands at a position: the end of a whole record; at a record that is cut short and at the end, where it was.
abbrev pub behind : ℕ → Step → ℕ
behind i (Record kind start len) = start + len
behind i Cut = i
behind i End = i

-- what stands at a position, and the position behind it
abbrev pub stepped : List ℕ → ℕ → Stepped
stepped s i = record { step = step_at s i; behind = behind i (step_at s i) }

-- The number of the cause that each case shows by itself: 2 for a record that is cut short. A whole record shows none, nor does the end.
abbrev pub step_cause : Step → ℕ
step_cause (Record kind start len) = 0
step_cause Cut = 2
step_cause End = 0
