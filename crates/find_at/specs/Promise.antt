-- Interface. Demand 3 of the bytes among the candidates of given sizes: what a call of find_at gives back and leaves in the buffers. Proved for every
-- accepted sheet and all sizes that a candidate may have: `accepted_promised_at` of proofs/Delivery.antt.
use Rattle.std.specs.Prelude.{ℕ, ◌≡◌, ◌↔◌, ◌⊎◌, List, length, take, drop, Ok, Err}
use Rattle.prelude.specs.Causes.{refusal}
use Rattle.prelude.specs.Lists.{at}
use Rattle.logic.specs.Sheet.{Sheet}
use Rattle.logic.specs.Structure.{Structure, Candidate, Satisfies, codes}
use Rattle.logic.specs.Order.{Before, sizes_of, sum_of}
use Rattle.tables.specs.Layout.{extent, decoded, WellLaid}
use Rattle.answer.specs.Demand.{HopelessAt, Unforced}
use Rattle.find_at.specs.FindAt.{finding_at, codes_after_at, tables_after_at}

-- What `DemandAt` says of the answer at given sizes, said of what a call leaves behind: the number it gives, the codes C and the tables T that it wrote.
-- The tables are well laid, and the structure that they hold is a candidate of exactly these sizes that satisfies every statement; the sum and the codes
-- are its own; every other such candidate of these sizes has the same codes, or codes that come later; and the cells that no term reaches hold what
-- `Unforced` says.
pub record DeliveredAt (sh : Sheet) (z : List ℕ) (n : ℕ) (C T : List ℕ) : Type 0 where
  pub laid : WellLaid sh T
  pub candidate : Candidate (decoded sh T) sh
  pub satisfies : Satisfies (decoded sh T) sh
  pub sizes : sizes_of (decoded sh T) sh ≡ z
  pub sum : n ≡ sum_of (decoded sh T) sh
  pub first : (N : Structure) → Candidate N sh → Satisfies N sh → sizes_of N sh ≡ z → (codes N sh ≡ C) ⊎ Before C (codes N sh)
  pub codes : C ≡ codes (decoded sh T) sh
  pub unreached : Unforced sh (decoded sh T)

-- the codes and the tables in front of the two buffers
abbrev pub codes_written : Sheet → List ℕ → List ℕ
codes_written sh buffer = take (length sh.terms) buffer

abbrev pub tables_written : Sheet → List ℕ → List ℕ
tables_written sh buffer = take (extent sh (at buffer)) buffer

-- A call on an accepted sheet with sizes z that a candidate may have, and with buffers that suffice: cause 11 exactly when no candidate of exactly these
-- sizes satisfies every statement, and otherwise something is found; it is delivered in front of both buffers, and no byte behind it is touched
pub record PromisedAt (sh : Sheet) (s z cs ts : List ℕ) : Type 0 where
  pub refuses : (finding_at s z (length cs) (length ts) ≡ Err (refusal 11 0)) ↔ HopelessAt sh z
  pub either : (finding_at s z (length cs) (length ts) ≡ Err (refusal 11 0)) ⊎ ((n : ℕ) × (finding_at s z (length cs) (length ts) ≡ Ok n))
  pub delivers : (n : ℕ) → finding_at s z (length cs) (length ts) ≡ Ok n → DeliveredAt sh z n (codes_written sh (codes_after_at s z cs ts)) (tables_written sh (tables_after_at s z cs ts))
  pub behind_codes : (n : ℕ) → finding_at s z (length cs) (length ts) ≡ Ok n → drop (length sh.terms) (codes_after_at s z cs ts) ≡ drop (length sh.terms) cs
  pub behind_tables : (n : ℕ) → finding_at s z (length cs) (length ts) ≡ Ok n → drop (extent sh (at (tables_after_at s z cs ts))) (tables_after_at s z cs ts) ≡ drop (extent sh (at (tables_after_at s z cs ts))) ts
