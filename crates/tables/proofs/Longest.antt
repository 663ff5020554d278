-- How long tables can be: at most 64 tables of at most 256 cells behind at most 8 sizes.
use Prim.Native.Nat.{ℕ, zero, suc, ◌*◌, ◌≤◌, ◌<◌}
use native.Mathlib.Omega.{arith}
use mathlib.Core.List.{List, [], ◌∷◌}
use lib.ListN.{length}
use Rattle.logic.specs.Sheet.{Sheet, symbol_at}
use Rattle.prelude.specs.Tests.{Each}
use Rattle.prelude.specs.Lists.{sum_to}
use Rattle.prelude.proofs.Rows.{table_most}
use Rattle.logic.specs.WellFormed.{WellFormed}
use Rattle.tables.specs.Layout.{cells, extent}

-- at most two arguments, of at most 16 codes each
pub few_cells : (n : ℕ) (size : ℕ → ℕ) (params : List ℕ) → length params ≤ 2 → Each (λ s. s < n) params → ((s : ℕ) → s < n → size s ≤ 16) → cells size params ≤ 256
few_cells n size [] l e h = omega arith
few_cells n size (a ∷ []) l e h = omega (arith, h a e.0)
few_cells n size (a ∷ (b ∷ [])) l e h = table_most (size a) (size b * 1) (h a e.0) (omega (arith, h b e.1.0))
few_cells n size (a ∷ (b ∷ (c ∷ ps))) l e h = absurd (omega arith)

sum_few : (n : ℕ) (f : ℕ → ℕ) → ((i : ℕ) → i < n → f i ≤ 256) → sum_to n f ≤ n * 256
sum_few zero f h = omega arith
sum_few (suc n) f h = omega (arith, sum_few n f (λ i b. h i (omega arith)), h n (omega arith))

pub extent_few : (sh : Sheet) → WellFormed sh → (size : ℕ → ℕ) → ((s : ℕ) → s < length sh.bounds → size s ≤ 16) → extent sh size ≤ 16392
extent_few sh w size h =
    omega (arith, w.sorts, w.symbols, sum_few (length sh.symbols) (λ g. cells size (symbol_at sh g).params) (λ g b. few_cells (length sh.bounds) size (symbol_at sh g).params (w.arity g b) (w.params g b) h))
