-- The interface: how the columns that are marked in a row are handed out.
use Rattle.std.specs.Prelude.{ℕ, ◌<◌, ◌+◌, ◌-◌, ◌≡◌, bit_and, Option, Some, None}
use Rattle.std.specs.Int.Count.{count_trailing_zeros}
use Rattle.knowledge.specs.Knows.{half_bits}
use Rattle.knowledge.specs.declared.columns.Columns.{Columns}

-- the number of the lowest bit of half a row, and the half without it
abbrev pub lowest_bit : ℕ → ℕ
lowest_bit w = count_trailing_zeros half_bits w

abbrev pub without_lowest : ℕ → ℕ
without_lowest w = bit_and w (w - 1)

-- the lowest column of the lower half, then that of the upper one, is handed out and is no longer left
pub record HandsOut (s : Columns) (r : Option ℕ) (t : Columns) : Type 0 where
  pub low : 0 < s.low → (r ≡ Some (lowest_bit s.low)) × (t.low ≡ without_lowest s.low) × (t.high ≡ s.high)
  pub high : s.low ≡ 0 → 0 < s.high → (r ≡ Some (half_bits + lowest_bit s.high)) × (t.low ≡ 0) × (t.high ≡ without_lowest s.high)
  pub none : s.low ≡ 0 → s.high ≡ 0 → r ≡ None
