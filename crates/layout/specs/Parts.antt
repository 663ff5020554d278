-- Between this crate and the parser: what holds of the part of a sheet that has been read, and what the tests of a record and adding it
-- promise in the words of the layout.
use Rattle.std.specs.Prelude.{ℕ, ◌≤◌, ◌≡◌, false, cond, List, [], ◌∷◌, length, take, drop}
use Rattle.logic.specs.Sheet.{Sheet}
use Rattle.logic.specs.WellFormed.{Formed}
use Rattle.layout.specs.Layout.{Kind, kind_of, reached, misplaced, wrong_length, too_many, out_of_range, ill_sorted, repeated, refilled, cause}
use Rattle.layout.specs.Packed.{packed}
use Rattle.records.specs.Step.{step_at, step_cause}
use Rattle.layout.specs.declared.Parsed.{Parsed}
use Rattle.records.specs.declared.Step.{Step}
use Rattle.records.specs.declared.Step.TheVariants.{Record, Cut, End}
use Rattle.layout.specs.declared.Payload.{Payload}

-- whatever has been read, a sort came first
abbrev pub SortFirst : Sheet → Type 0
SortFirst sh = 1 ≤ reached sh → 1 ≤ length sh.bounds

-- the part of a sheet that has been read, after each good record
abbrev pub SoFar : Sheet → Type 0
SoFar sh = Formed SortFirst sh

-- the parsed sheet stands for the part that has been read
pub record PartRead (p : Parsed) : Type 0 where
  pub sheet : Sheet
  pub same : p ≡ packed sheet
  pub sofar : SoFar sheet

-- the bytes of a payload
abbrev pub payload_bytes : Payload → List ℕ
payload_bytes q = take q.len (q.b0 ∷ q.b1 ∷ q.b2 ∷ [])

-- the causes 5 to 8 and 16, where neither 3 nor 4 applies
abbrev pub later : Sheet → Kind → List ℕ → ℕ
later sh k p =
    cond (too_many sh k) 5
    (cond (out_of_range sh k p) 6
    (cond (ill_sorted sh k p) 7
    (cond (repeated sh k p) 8
    (cond (refilled sh k p) 16
    0))))

-- no cause applies to a whole record of kind number k and a short payload
pub record Good (sh : Sheet) (k : ℕ) (q : Payload) : Type 0 where
  pub placed : misplaced sh (kind_of k) ≡ false
  pub sized : wrong_length k q.len ≡ false
  pub none : later sh (kind_of k) (payload_bytes q) ≡ 0

-- the number of the cause that a step over the bytes s gives after the sheet so far: of a whole record the causes 3 to 8 and 16, 0 where
-- none applies; else the step's own
abbrev pub fault_of : List ℕ → Sheet → Step → ℕ
fault_of s sh (Record kind start len) = cause sh kind (take len (drop start s))
fault_of s sh Cut = step_cause Cut
fault_of s sh End = step_cause End

-- the number of the cause at a position, 0 where a good record stands there
abbrev pub fault_at : List ℕ → ℕ → Sheet → ℕ
fault_at s i sh = fault_of s sh (step_at s i)
