-- Rows of cells one after the other: where the next row starts, and how many cells rows of few columns have.
use Prim.Native.Nat.{ℕ, suc, ◌+◌, ◌*◌, ◌≤◌, ◌<◌}
use native.Mathlib.Nat.{suc-mul, mul-le-mul_right}
use native.Mathlib.Numerals.{add-one}
use native.Mathlib.Omega.{arith}
use mathlib.Core.Path.{◌≡◌}

-- a row that starts in the table ends in it
pub next_row : (r rows columns start : ℕ) → r < rows → start ≡ r * columns → start + columns ≤ rows * columns
next_row r rows columns start h e = omega (arith, suc-mul r columns, mul-le-mul_right {m = suc r} {n = rows} columns h)

pub row_start : (r columns start : ℕ) → start ≡ r * columns → start + columns ≡ (r + 1) * columns
row_start r columns start e = rw (add-one r) (omega (arith, suc-mul r columns))

-- at most 16 rows of at most 16 cells
pub table_most : (rows columns : ℕ) → rows ≤ 16 → columns ≤ 16 → rows * columns ≤ 256
table_most rows columns r c = let h : rows * columns ≤ 16 * columns = mul-le-mul_right columns r in omega arith
