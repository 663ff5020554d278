-- The interface: the wrong programs of request (i), about bundle. A program is what it gives back for every call; to meet the contract is to do so at every
-- call. `refuted_bundle` of proofs/Bundle.antt: none of these meets it.
use Rattle.std.specs.Prelude.{Result, Err}
use Rattle.prelude.specs.Causes.{refusal}
use Rattle.prelude.specs.declared.refusal.Refusal.{Refusal}
use Rattle.bundle.specs.declared.Shares.{Shares}
use Rattle.std.specs.Prelude.{ℕ, ◌<◌, ◌≡◌, ◌⊎◌, List, [], length}
use Rattle.prelude.specs.Lists.{at}
use Rattle.logic.specs.Sheet.{Sheet}
use Rattle.layout.specs.Layout.{accepted, reading, InSheet}
use Rattle.answer.specs.Answer.{sum}
use Rattle.answer.specs.Demand.{Hopeless}
use Rattle.bundle.specs.Bundle.{parts, bundling, answered}
use Rattle.bundle.specs.Promise.{sheet_at, SmallestSum, FirstRefused}

-- the result, from the bundle's bytes and the limit
abbrev pub BundleProgram : Type 0
BundleProgram = List ℕ → ℕ → Result Shares Refusal

-- the contract of bundle::bundle
abbrev pub MeetsBundle : BundleProgram → Type 0
MeetsBundle p = (s : List ℕ) (limit : ℕ) → p s limit ≡ answered (bundling s limit)

-- stops at the first sum past the limit: to some bundle it answers 19, where the sums of some sheets exceed the limit and a sheet behind them is refused
pub record StopsAtLimit (p : BundleProgram) : Type 0 where
  pub bytes : List ℕ
  pub limit : ℕ
  pub number : ℕ
  pub place : ℕ
  pub first : FirstRefused bytes number place
  pub sums : List ℕ
  pub many : length sums ≡ first.which
  pub own : (k : ℕ) → k < first.which → SmallestSum (sheet_at bytes k) (at sums k)
  pub past : limit < sum sums
  pub nineteen : p bytes limit ≡ Err (refusal 19 0)

-- reports the place within the sheet: to some bundle it gives the number of the first sheet that is refused, and the place that the sheet has by itself
pub record PlaceWithinSheet (p : BundleProgram) : Type 0 where
  pub bytes : List ℕ
  pub limit : ℕ
  pub number : ℕ
  pub place : ℕ
  pub first : FirstRefused bytes number place
  pub within : p bytes limit ≡ Err (refusal number first.place)

-- reads a sheet before the bundle's own faults are known: to some bundle that is itself at fault it answers with a number that a sheet is refused with
pub record ReadsFirst (p : BundleProgram) : Type 0 where
  pub bytes : List ℕ
  pub limit : ℕ
  pub faulty : parts bytes ≡ []
  pub number : ℕ
  pub place : ℕ
  pub sheets : InSheet number ⊎ (number ≡ 11)
  pub answered : p bytes limit ≡ Err (refusal number place)

-- answers 19 to some bundle one of whose sheets has no answer
pub record NineteenForNone (p : BundleProgram) : Type 0 where
  pub bytes : List ℕ
  pub limit : ℕ
  pub which : ℕ
  pub there : which < length (parts bytes)
  pub sheet : Sheet
  pub reads : reading (sheet_at bytes which) ≡ accepted sheet
  pub hopeless : Hopeless sheet
  pub nineteen : p bytes limit ≡ Err (refusal 19 0)

pub record RefutedBundle : Type 0 where
  pub stops_at_limit : (p : BundleProgram) → MeetsBundle p → StopsAtLimit p → ⊥
  pub place_within_sheet : (p : BundleProgram) → MeetsBundle p → PlaceWithinSheet p → ⊥
  pub reads_first : (p : BundleProgram) → MeetsBundle p → ReadsFirst p → ⊥
  pub nineteen_for_none : (p : BundleProgram) → MeetsBundle p → NineteenForNone p → ⊥
