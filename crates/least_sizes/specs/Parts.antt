-- For the proofs alone: what the parts of the hunt for the least sizes promise. A region is the sizes from low to high, sort by sort.
use Rattle.std.specs.Prelude.{ℕ, ◌≤◌, ◌<◌, ◌≡◌, Bool, true, false, List, set, Option, Some, None, IfSome}
use Rattle.prelude.specs.Lists.{at, sum_to}
use Rattle.logic.specs.Problem.{Problem, Allowed, Consistent}
use Rattle.least_sizes.specs.LeastSizes.{Satisfiable, SizesNoLater}
use Rattle.least_sizes.specs.declared.Looking.{Looking}
use Rattle.least_sizes.specs.declared.Looking.TheVariants.{Done, Boxed}

-- sizes without consistent codes
abbrev pub Barren : Problem → (ℕ → ℕ) → Type 0
Barren P size = (c : ℕ → ℕ) → Consistent P size c → ⊥

-- whether sizes have consistent codes
pub record Probed (P : Problem) (found : Bool) (size : ℕ → ℕ) : Type 0 where
  pub yes : found ≡ true → Satisfiable P size
  pub no : found ≡ false → Barren P size

-- f lies below g in the first n places
abbrev pub Below : ℕ → (ℕ → ℕ) → (ℕ → ℕ) → Type 0
Below n f g = (s : ℕ) → s < n → f s ≤ g s

-- a value from lo to hi up to which the size of one sort leaves nothing consistent
pub record Edge (P : Problem) (base : List ℕ) (sort lo hi value : ℕ) : Type 0 where
  pub least : lo ≤ value
  pub most : value ≤ hi
  pub barren : (v : ℕ) → lo ≤ v → v < value → Barren P (at (set base sort v))

-- which of two size lists comes no later
pub record Compared (n : ℕ) (answer : Bool) (f g : ℕ → ℕ) : Type 0 where
  pub yes : answer ≡ true → SizesNoLater n f g
  pub no : answer ≡ false → SizesNoLater n g f

-- the greatest sizes that ceilings and total leave: what is allowed lies below them
pub record Greatest (P : Problem) (high : ℕ → ℕ) : Type 0 where
  pub floors : Below P.sorts P.floor high
  pub ceilings : Below P.sorts high P.ceiling
  pub all : (size : ℕ → ℕ) → Allowed P size → Below P.sorts size high

abbrev pub GreatestSizes : Problem → Option (List ℕ) → Type 0
GreatestSizes P (Some high) = Greatest P (at high)
GreatestSizes P None = (size : ℕ → ℕ) → Allowed P size → ⊥

-- floors that every allowed sizes with consistent codes lie above
pub record Raised (P : Problem) (low high : ℕ → ℕ) : Type 0 where
  pub floors : Below P.sorts P.floor low
  pub highs : Below P.sorts low high
  pub all : (size : ℕ → ℕ) → Allowed P size → Satisfiable P size → Below P.sorts low size

-- allowed sizes with consistent codes, within a bound on the sum
pub record Contender (P : Problem) (bound : ℕ) (size : ℕ → ℕ) : Type 0 where
  pub allowed : Allowed P size
  pub satisfiable : Satisfiable P size
  pub sum : sum_to P.sorts size ≤ bound

-- the best so far, if there is one, is a contender
abbrev pub Candidate : Problem → ℕ → Option (List ℕ) → Type 0
Candidate P bound best = IfSome best (λ sizes. Contender P bound (at sizes))

-- there is a best so far, and it comes no later than these sizes
abbrev pub Outdone : Problem → Option (List ℕ) → (ℕ → ℕ) → Type 0
Outdone P (Some best) size = SizesNoLater P.sorts (at best) size
Outdone P None size = ⊥

-- a region that a hunt goes through: the sizes from low to high
pub record Region (P : Problem) (low high : ℕ → ℕ) : Type 0 where
  pub floors : Below P.sorts P.floor low
  pub order : Below P.sorts low high
  pub ceilings : Below P.sorts high P.ceiling

-- a size list in a region that has consistent codes and lies within the bound
pub record Open (P : Problem) (low high : ℕ → ℕ) (bound : ℕ) (size : ℕ → ℕ) : Type 0 where
  pub allowed : Allowed P size
  pub satisfiable : Satisfiable P size
  pub above : Below P.sorts low size
  pub under : Below P.sorts size high
  pub sum : sum_to P.sorts size ≤ bound

-- what a hunt through a region makes of the best so far: it comes no later than that, and no later than all that is open
pub record Hunted (P : Problem) (low high : ℕ → ℕ) (bound : ℕ) (before after : Option (List ℕ)) : Type 0 where
  pub candidate : Candidate P bound after
  pub kept : IfSome before (λ best. Outdone P after (at best))
  pub all : (size : ℕ → ℕ) → Open P low high bound size → Outdone P after size

-- a value of a range
pub record Inside (a b r : ℕ) : Type 0 where
  pub least : a ≤ r
  pub most : r < b

-- a barren box above some sizes
pub record Corner (P : Problem) (low corner : ℕ → ℕ) : Type 0 where
  pub inside : Below P.sorts low corner
  pub barren : Barren P corner

-- a look at the lowest sizes of a region: the region is done, or they lie in a barren box
abbrev pub Looked : Problem → (ℕ → ℕ) → (ℕ → ℕ) → ℕ → Option (List ℕ) → Looking → Type 0
Looked P low high bound before (Done after) = Hunted P low high bound before after
Looked P low high bound before (Boxed corner) = Corner P low (at corner)
