-- For the proofs alone: where the code holds the parts of a bundle.
use Rattle.std.specs.Prelude.{ℕ, ◌+◌, ◌≤◌, ◌<◌, ◌≡◌, List, [], length, Option, Some, None}
use Rattle.prelude.specs.Lists.{at}
use Rattle.bundle.specs.Bundle.{Part, most_sheets}
use Rattle.bundle.specs.Promise.{part_at}
use Rattle.bundle.specs.declared.Parts.{Parts}

-- two arrays hold the starts and ends of parts
pub record Held (ps : List Part) (starts ends : List ℕ) : Type 0 where
  pub start : (k : ℕ) → k < length ps → at starts k ≡ (part_at ps k).start
  pub end : (k : ℕ) → k < length ps → at ends k ≡ (part_at ps k).start + (part_at ps k).len

-- the parts that were found are these
pub record Located (ps : List Part) (found : Parts) : Type 0 where
  pub many : found.many ≡ length ps
  pub held : Held ps found.starts found.ends

-- whether there are parts, and then where they are
abbrev pub Found : List Part → Option Parts → Type 0
Found ps None = ps ≡ []
Found ps (Some found) = (1 ≤ length ps) × Located ps found

-- the parts that were found lie inside the bytes
pub record Inside (s : List ℕ) (found : Parts) : Type 0 where
  pub parts : List Part
  pub located : Located parts found
  pub few : length parts ≤ most_sheets
  pub within : (k : ℕ) → k < length parts → (part_at parts k).start + (part_at parts k).len ≤ length s
