-- The interface: a record's head and payload at a position of a sheet's bytes, and cause 2, a record that is cut short (docs/FORMAT.md,
-- "The sheet").
use Rattle.std.specs.Prelude.{ℕ, ◌+◌, ◌*◌, Bool, ◌||◌, List, length, take, drop, ltb}
use Rattle.prelude.specs.Lists.{at}

-- a number of two bytes, little-endian
abbrev pub two_bytes : List ℕ → ℕ → ℕ
two_bytes s i = at s i + 256 * at s (i + 1)

-- a record's head at a position: the length of the payload, then the kind; the payload follows
abbrev pub length_at : List ℕ → ℕ → ℕ
length_at s i = two_bytes s i

abbrev pub kind_at : List ℕ → ℕ → ℕ
kind_at s i = two_bytes s (i + 2)

abbrev pub payload_at : List ℕ → ℕ → List ℕ
payload_at s i = take (length_at s i) (drop (i + 4) s)

-- Cause 2: the record's head or payload is cut short.
abbrev pub cut : List ℕ → ℕ → Bool
cut s i = ltb (length s) (i + 4) || ltb (length s) (i + 4 + length_at s i)
