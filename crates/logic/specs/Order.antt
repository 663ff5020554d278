-- The interface: which answer comes first (docs/FORMAT.md, "Which answer").
use Rattle.std.specs.Prelude.{ℕ, ◌≤◌, ◌<◌, ◌≡◌, ◌⊎◌, List, [], ◌∷◌, length}
use Rattle.logic.specs.Sheet.{Sheet}
use Rattle.prelude.specs.Lists.{sum_to, firsts}
use Rattle.logic.specs.Structure.{Structure, codes}

-- of two lists of one length, xs has the smaller entry at the first place where they differ: xs comes first
abbrev pub Before : List ℕ → List ℕ → Type 0
Before [] ys = ⊥
Before (x ∷ xs) [] = ⊥
Before (x ∷ xs) (y ∷ ys) = (x < y) ⊎ ((x ≡ y) × Before xs ys)

-- the sizes of a structure's sorts, in the sheet's order, and their sum
abbrev pub sizes_of : Structure → Sheet → List ℕ
sizes_of M sh = firsts (length sh.bounds) M.size

abbrev pub sum_of : Structure → Sheet → ℕ
sum_of M sh = sum_to (length sh.bounds) M.size

-- M comes earlier than N: a smaller sum; of equal sums, the sizes that come first; of equal sizes, the codes that come first
abbrev pub Earlier : Sheet → Structure → Structure → Type 0
Earlier sh M N =
    (sum_of M sh < sum_of N sh)
    ⊎ ((sum_of M sh ≡ sum_of N sh)
    × (Before (sizes_of M sh) (sizes_of N sh) ⊎ ((sizes_of M sh ≡ sizes_of N sh) × Before (codes M sh) (codes N sh))))

-- M comes no later than N: N has at least M's sum; where N's sum is the same, its sizes are the same or come later; where these are the
-- same, its codes are the same or come later. `no_later_exactly` of proofs/Orders.antt: exactly when N does not come earlier.
pub record NoLater (sh : Sheet) (M N : Structure) : Type 0 where
  pub sum : sum_of M sh ≤ sum_of N sh
  pub sizes : sum_of N sh ≡ sum_of M sh → (sizes_of N sh ≡ sizes_of M sh) ⊎ Before (sizes_of M sh) (sizes_of N sh)
  pub codes : sizes_of N sh ≡ sizes_of M sh → (codes N sh ≡ codes M sh) ⊎ Before (codes M sh) (codes N sh)

-- The same order on the first n values of two functions: at the first place where they differ, f is not the larger.
abbrev pub NotAfter : ℕ → (ℕ → ℕ) → (ℕ → ℕ) → Type 0
NotAfter n f g = (j : ℕ) → j < n → ((i : ℕ) → i < j → f i ≡ g i) → f j ≤ g j
