-- Interface. What a call of sizes has written, among all structures. Proved for every accepted sheet and every buffer that suffices: `accepted_promised` of
-- proofs/Least.antt.
use Rattle.std.specs.Prelude.{ℕ, ◌≤◌, ◌≡◌, ◌↔◌, ◌⊎◌, List, length, take, drop, Ok, Err}
use Rattle.prelude.specs.Causes.{refusal}
use Rattle.logic.specs.Sheet.{Sheet}
use Rattle.logic.specs.Structure.{Structure, Candidate, Satisfies}
use Rattle.logic.specs.Order.{Before, sizes_of, sum_of}
use Rattle.answer.specs.Answer.{sum}
use Rattle.answer.specs.Demand.{Hopeless}
use Rattle.sizes.specs.Sizing.{sizing, sizes_after}

-- The sizes z, of sum n, come first: some candidate that satisfies every statement has exactly them; and every such candidate has at least that sum, and
-- where its sum is the same, the same sizes or sizes that come later.
pub record FirstSizes (sh : Sheet) (n : ℕ) (z : List ℕ) : Type 0 where
  pub had : (M : Structure) × Candidate M sh × Satisfies M sh × (sizes_of M sh ≡ z)
  pub sum : n ≡ sum z
  pub least : (N : Structure) → Candidate N sh → Satisfies N sh → n ≤ sum_of N sh
  pub first : (N : Structure) → Candidate N sh → Satisfies N sh → sum_of N sh ≡ n → (sizes_of N sh ≡ z) ⊎ Before z (sizes_of N sh)

-- the sizes in front of the buffer
abbrev pub sizes_written : Sheet → List ℕ → List ℕ
sizes_written sh buffer = take (length sh.bounds) buffer

-- A call on an accepted sheet, with a buffer that suffices: cause 11 exactly when no candidate satisfies every statement, and otherwise the sizes that come
-- first stand in front of the buffer, and no byte behind them is touched
pub record Promised (sh : Sheet) (s out : List ℕ) : Type 0 where
  pub refuses : (sizing s (length out) ≡ Err (refusal 11 0)) ↔ Hopeless sh
  pub either : (sizing s (length out) ≡ Err (refusal 11 0)) ⊎ ((n : ℕ) × (sizing s (length out) ≡ Ok n))
  pub delivers : (n : ℕ) → sizing s (length out) ≡ Ok n → FirstSizes sh n (sizes_written sh (sizes_after s out))
  pub behind : (n : ℕ) → sizing s (length out) ≡ Ok n → drop (length sh.bounds) (sizes_after s out) ≡ drop (length sh.bounds) out
