-- Interface. What bundle answers of bundles of the worked sheets (docs/FORMAT.md, "The bundle") as one table. A row has the bytes, the limit, and what bundle is
-- to give back.
use Rattle.std.specs.Prelude.{ℕ, ◌≡◌, List, [], ◌∷◌, ◌++◌, take, replicate}
use Rattle.layout.specs.Encode.{packet}
use Rattle.bundle.specs.Bundle.{refusal, bundling}
use Rattle.bundle.specs.Written.{bundle_of}
use Rattle.bundle.specs.Bundle.{Bundling}
use Rattle.bundle.specs.Bundle.{Left}
use Rattle.worked.specs.Worked.{row3, row5, row10, All}

pub record BundleRow : Type 0 where
  pub bytes : List ℕ
  pub limit : ℕ
  pub result : Bundling

-- the sums of two sheets, or of none but empty ones, and what is left
abbrev pub leaves : ℕ → ℕ → ℕ → Bundling
leaves a b left = record { sums = a ∷ b ∷ replicate 6 0; stock = Left left }

-- sheets 5 and 10, whose sums are 2 and 2
abbrev pub two : List ℕ
two = bundle_of (row5.sheet ∷ row10.sheet ∷ [])

abbrev pub bundle_rows : List BundleRow
bundle_rows =
    record { bytes = two; limit = 5; result = leaves 2 2 1 }
    ∷ record { bytes = two; limit = 4; result = leaves 2 2 0 }
    ∷ record { bytes = two; limit = 3; result = refusal 19 0 }
    ∷ record { bytes = bundle_of (row3.sheet ∷ row5.sheet ∷ row10.sheet ∷ []); limit = 3; result = refusal 11 4 }
    ∷ record { bytes = bundle_of (row5.sheet ∷ row10.sheet ∷ row3.sheet ∷ []); limit = 3; result = refusal 11 100 }
    ∷ record { bytes = take 95 two; limit = 5; result = refusal 18 0 }
    ∷ record { bytes = bundle_of (row5.sheet ∷ take 50 row10.sheet ∷ []); limit = 5; result = refusal 2 91 }
    ∷ record { bytes = bundle_of (take 36 row5.sheet ∷ []) ++ packet 8 []; limit = 5; result = refusal 18 0 }
    ∷ record { bytes = bundle_of (replicate 8 []); limit = 0; result = leaves 0 0 0 }
    ∷ record { bytes = bundle_of (replicate 9 []); limit = 0; result = refusal 18 0 }
    ∷ []

abbrev pub Answered : BundleRow → Type 0
Answered r = bundling r.bytes r.limit ≡ r.result

-- the table; `worked_bundles` of proofs/Bundles.antt proves it
abbrev pub WorkedBundles : Type 0
WorkedBundles = All Answered bundle_rows
