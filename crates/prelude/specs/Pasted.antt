-- The interface: a list written into a buffer from a place on.
use Rattle.std.specs.Prelude.{ℕ, ◌+◌, ◌≤◌, ◌≡◌, List, ◌++◌, length, take, drop}

-- the list s in the buffer d from place i on; the rest of d stays
abbrev pub pasted : List ℕ → ℕ → List ℕ → List ℕ
pasted d i s = take i d ++ (s ++ drop (i + length s) d)

-- the list s was written into the buffer d from place i on: d' is the buffer then, r the place behind s
pub record Wrote (d : List ℕ) (i : ℕ) (s : List ℕ) (d' : List ℕ) (r : ℕ) : Type 0 where
  pub end : r ≡ i + length s
  pub within : r ≤ length d
  pub held : d' ≡ pasted d i s
