-- Cells of a table and their places.
use Prim.Native.Nat.{ℕ, suc, ◌+◌, ◌*◌, ◌≤◌, ◌<◌}
use native.Mathlib.Nat.{suc-mul, mul-le-mul_right, mul-le-mul, mul-pos}
use native.Mathlib.Omega.{arith}
use mathlib.Core.Path.{◌≡◌, refl}
use mathlib.Core.List.{List, [], ◌∷◌}
use Rattle.logic.specs.Structure.{InSorts}
use Rattle.prelude.specs.Tests.{Each}
use Rattle.tables.specs.Layout.{cells, place}

-- row c of n cells lies among m rows of n cells
pub row_below : (c m p n : ℕ) → c < m → p < n → c * n + p < m * n
row_below c m p n h l = omega (arith, suc-mul c n, mul-le-mul_right {m = suc c} {n = m} n h)

-- the place of a cell lies in its table
pub place_below : (size : ℕ → ℕ) (params cs : List ℕ) → InSorts size params cs → place size params cs < cells size params
place_below size [] [] i = omega arith
place_below size [] (c ∷ cs) i = absurd i
place_below size (s ∷ ss) [] i = absurd i
place_below size (s ∷ ss) (c ∷ cs) i = row_below c (size s) (place size ss cs) (cells size ss) i.0 (place_below size ss cs i.1)

-- cells and places depend on the sizes of the parameters' sorts only
pub cells_same : (n : ℕ) (size other : ℕ → ℕ) (params : List ℕ) → Each (λ s. s < n) params → ((s : ℕ) → s < n → size s ≡ other s) → cells size params ≡ cells other params
cells_same n size other [] e h = refl
cells_same n size other (s ∷ ss) e h = cc (h s e.0, cells_same n size other ss e.1 h)

pub place_same : (n : ℕ) (size other : ℕ → ℕ) (params cs : List ℕ) → Each (λ s. s < n) params → ((s : ℕ) → s < n → size s ≡ other s) → place size params cs ≡ place other params cs
place_same n size other [] cs e h = refl
place_same n size other (s ∷ ss) [] e h = refl
place_same n size other (s ∷ ss) (c ∷ cs) e h = cc (cells_same n size other ss e.1 h, place_same n size other ss cs e.1 h)

-- larger sizes give no fewer cells
pub cells_monotone : (n : ℕ) (size other : ℕ → ℕ) (params : List ℕ) → Each (λ s. s < n) params → ((s : ℕ) → s < n → size s ≤ other s) → cells size params ≤ cells other params
cells_monotone n size other [] e h = omega arith
cells_monotone n size other (s ∷ ss) e h = mul-le-mul (h s e.0) (cells_monotone n size other ss e.1 h)

pub cells_positive : (n : ℕ) (size : ℕ → ℕ) (params : List ℕ) → Each (λ s. s < n) params → ((s : ℕ) → s < n → 1 ≤ size s) → 1 ≤ cells size params
cells_positive n size [] e h = omega arith
cells_positive n size (s ∷ ss) e h = mul-pos (h s e.0) (cells_positive n size ss e.1 h)
