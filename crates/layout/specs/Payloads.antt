-- The interface: what holds of every payload of src/lib.rt, by its length and its second and third byte.
use Rattle.std.specs.Prelude.{ℕ, ◌≤◌, ◌<◌, ◌≡◌}
use Rattle.prelude.specs.Limits.{missing}

-- one to three bytes; each of the second and the third that is not there is missing
pub record Short (len b1 b2 : ℕ) : Type 0 where
  pub least : 1 ≤ len
  pub most : len ≤ 3
  pub second : len < 2 → b1 ≡ missing
  pub third : len < 3 → b2 ≡ missing
