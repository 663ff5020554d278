-- Rows and columns: at most two parameters give a table as many cells as rows times columns, and a cell lies in its row at its column. A missing
-- parameter counts as one row or column, a missing argument as code 0.
use Prim.Native.Nat.{ℕ, ◌+◌, ◌*◌, ◌≤◌, ◌<◌}
use native.Mathlib.Nat.{mul-le-mul, mul-one}
use native.Mathlib.Omega.{arith}
use mathlib.Core.Path.{◌≡◌, refl, ap, sym}
use mathlib.Core.Bool.{cond}
use mathlib.Core.List.{List, [], ◌∷◌, map}
use lib.ListN.{length}
use lib.Dec.{ltb}
use borrow.Author.Tests.{lt-ltb}
use Rattle.prelude.specs.Tests.{Each}
use Rattle.layout.specs.Packed.{first, second}
use Rattle.tables.specs.Layout.{cells, place}
use Rattle.tables.specs.Parts.{countable_cells, width}

-- the width of a sort that is there is its size
pub width_there : (size : ℕ → ℕ) (s : ℕ) → s < 8 → width size s ≡ size s
width_there size s h = rw (lt-ltb s 8 h)

-- at most two parameters give as many cells as rows times columns
pub cells_by_width : (size : ℕ → ℕ) (params : List ℕ) → length params ≤ 2 → Each (λ s. s < 8) params → width size (first params) * width size (second params) ≡ cells size params
cells_by_width size [] h e = refl
cells_by_width size (s ∷ []) h e = rw (width_there size s e.0) refl
cells_by_width size (s ∷ (u ∷ [])) h e = rw (width_there size s e.0, width_there size u e.1.0) (ap (λ (x : ℕ). size s * x) (sym (mul-one (size u))))
cells_by_width size (s ∷ (u ∷ (v ∷ vs))) h e = absurd (omega arith)

-- the place of a cell is its row's start and its column, a missing argument having code 0
pub place_by_width : (size c : ℕ → ℕ) (params args : List ℕ) → length params ≤ 2 → length args ≡ length params → Each (λ s. s < 8) params → c 255 ≡ 0 → c (first args) * width size (second params) + c (second args) ≡ place size params (map c args)
place_by_width size c [] [] h l e z = rw z (omega arith)
place_by_width size c [] (a ∷ as') h l e z = absurd (omega arith)
place_by_width size c (s ∷ ss) [] h l e z = absurd (omega arith)
place_by_width size c (s ∷ []) (a ∷ []) h l e z = rw z refl
place_by_width size c (s ∷ []) (a ∷ (b ∷ bs)) h l e z = absurd (omega arith)
place_by_width size c (s ∷ (u ∷ [])) (a ∷ []) h l e z = absurd (omega arith)
place_by_width size c (s ∷ (u ∷ [])) (a ∷ (b ∷ [])) h l e z = rw (width_there size u e.1.0) (omega (arith, mul-one (size u), ap (λ (x : ℕ). c a * x) (mul-one (size u))))
place_by_width size c (s ∷ (u ∷ [])) (a ∷ (b ∷ (d ∷ ds))) h l e z = absurd (omega arith)
place_by_width size c (s ∷ (u ∷ (v ∷ vs))) (a ∷ as') h l e z = absurd (omega arith)

-- two bytes multiply to no more than two sizes may
pub product_small : (a b : ℕ) → a < 256 → b < 256 → a * b ≤ countable_cells
product_small a b h l = mul-le-mul {n₁ = a} {m₁ = b} {n₂ = 255} {m₂ = 255} (omega arith) (omega arith)

-- widths at sizes that agree
pub widths_same :
    (n : ℕ) (size other : ℕ → ℕ) (params : List ℕ) → Each (λ s. s < n) params → ((s : ℕ) → s < n → size s ≡ other s)
    → (width size (first params) ≡ width other (first params)) × (width size (second params) ≡ width other (second params))
widths_same n size other [] e h = (refl, refl)
widths_same n size other (s ∷ []) e h = (ap (λ (x : ℕ). cond (ltb s 8) x 1) (h s e.0), refl)
widths_same n size other (s ∷ r ∷ l) e h = (ap (λ (x : ℕ). cond (ltb s 8) x 1) (h s e.0), ap (λ (x : ℕ). cond (ltb r 8) x 1) (h r e.1.0))

-- a parameter's width is at most 16
pub width_small : (size : ℕ → ℕ) (params : List ℕ) → Each (λ s. s < 8) params → Each (λ s. size s ≤ 16) params → (width size (first params) ≤ 16) × (width size (second params) ≤ 16)
width_small size [] b e = (omega arith, omega arith)
width_small size (s ∷ []) b e = (omega (arith, width_there size s b.0, e.0), omega arith)
width_small size (s ∷ r ∷ l) b e = (omega (arith, width_there size s b.0, e.0), omega (arith, width_there size r b.1.0, e.1.0))
