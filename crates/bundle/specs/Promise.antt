-- Interface. What a call of bundle promises: of each sheet, among all structures; and of the bundle and the limit. Proved for every call: `promised` of
-- proofs/Promised.antt.
use Rattle.std.specs.Prelude.{ℕ, ◌+◌, ◌-◌, ◌≤◌, ◌<◌, ◌≡◌, ◌↔◌, ◌⊎◌, List, [], length, get_or, replicate}
use Rattle.std.proofs.Math.Option.{Option, none, some}
use Rattle.prelude.specs.Lists.{at, firsts}
use Rattle.logic.specs.Sheet.{Sheet}
use Rattle.logic.specs.Structure.{Structure, Candidate, Satisfies}
use Rattle.logic.specs.Order.{sum_of}
use Rattle.layout.specs.Layout.{accepted, refused, reading}
use Rattle.answer.specs.Answer.{sum}
use Rattle.answer.specs.Demand.{Hopeless}
use Rattle.bundle.specs.Bundle.{Part, most_sheets, sheet_in, parts, bundling, Stock, Left, Refused}

-- part k of a list of parts, an empty one past its end; sheet k of a bundle
abbrev pub part_at : List Part → ℕ → Part
part_at ps k = get_or ps k (record { start = 0; len = 0 })

abbrev pub sheet_at : List ℕ → ℕ → List ℕ
sheet_at s k = sheet_in s (part_at (parts s) k)

-- The bytes of a sheet have the smallest sum n: they are accepted, some candidate that satisfies every statement has this sum, and every such candidate has
-- at least this sum.
pub record SmallestSum (bytes : List ℕ) (n : ℕ) : Type 0 where
  pub sheet : Sheet
  pub reads : reading bytes ≡ accepted sheet
  pub had : (M : Structure) × Candidate M sheet × Satisfies M sheet × (sum_of M sheet ≡ n)
  pub least : (N : Structure) → Candidate N sheet → Satisfies N sheet → n ≤ sum_of N sheet

-- a sheet that has none, with the number and place that it is refused with by itself: it is not accepted, or it is and no candidate satisfies every statement
abbrev pub RefusedAlone : List ℕ → ℕ → ℕ → Type 0
RefusedAlone bytes n i =
    (reading bytes ≡ refused n i)
    ⊎ ((sheet : Sheet) × (reading bytes ≡ accepted sheet) × Hopeless sheet × (n ≡ 11) × (i ≡ 0))

-- there is a sheet, and these are the smallest sums of all of them, in their order
pub record AllSums (s sums : List ℕ) : Type 0 where
  pub any : 1 ≤ length (parts s)
  pub many : length sums ≡ length (parts s)
  pub own : (k : ℕ) → k < length (parts s) → SmallestSum (sheet_at s k) (at sums k)

-- a sheet is refused with number n, every sheet before it has a smallest sum, and its place, counted from the bundle's start, is i
pub record FirstRefused (s : List ℕ) (n i : ℕ) : Type 0 where
  pub which : ℕ
  pub there : which < length (parts s)
  pub earlier : (k : ℕ) → k < which → (m : ℕ) × SmallestSum (sheet_at s k) m
  pub place : ℕ
  pub alone : RefusedAlone (sheet_at s which) n place
  pub counted : i ≡ (part_at (parts s) which).start + place

-- the answer: the sums stand in the list of eight with 0 behind them, and spent and left add up to the limit
pub record Shared (s : List ℕ) (limit left : ℕ) (eight : List ℕ) : Type 0 where
  pub sums : List ℕ
  pub all : AllSums s sums
  pub listed : eight ≡ firsts most_sheets (at sums)
  pub spent : sum sums + left ≡ limit

-- EVERY CALL
pub record Promised (s : List ℕ) (limit : ℕ) : Type 0 where
  -- 18 exactly where the bundle itself is at fault, so that it has no parts
  pub at_fault : ((bundling s limit).stock ≡ Refused 18 0) ↔ (parts s ≡ [])
  -- 19 exactly where every sheet has an answer and the sums exceed the limit
  pub exceeds : ((bundling s limit).stock ≡ Refused 19 0) ↔ ((sums : List ℕ) × AllSums s sums × (limit < sum sums))
  -- the first sheet that is refused decides, and nothing else is a refusal
  pub decides : (n i : ℕ) → FirstRefused s n i → (bundling s limit).stock ≡ Refused n i
  pub refuses : (n i : ℕ) → (bundling s limit).stock ≡ Refused n i → ((n ≡ 18) × (i ≡ 0)) ⊎ ((n ≡ 19) × (i ≡ 0)) ⊎ FirstRefused s n i
  pub zeros : (n i : ℕ) → (bundling s limit).stock ≡ Refused n i → (bundling s limit).sums ≡ replicate most_sheets 0
  -- otherwise there is an answer, exactly where every sheet has one and the sums do not exceed the limit
  pub shares : (left : ℕ) → (bundling s limit).stock ≡ Left left → Shared s limit left (bundling s limit).sums
  pub answers : (sums : List ℕ) → AllSums s sums → sum sums ≤ limit → (bundling s limit).stock ≡ Left (limit - sum sums)

-- what is left, where the call is not turned down. The same sheets in another order leave the same: `order_leaves` of proofs/Neighbours.antt.
abbrev pub left_in : Stock → Option ℕ
left_in (Left left) = some left
left_in (Refused n i) = none
