-- `judge::table_of` meets its contract. The stretch by its places lies in the tables.
use Prim.Native.Nat.{ℕ, ◌-◌}
use native.Mathlib.Omega.{arith}
use mathlib.Core.Path.{◌≡◌, refl, ap₂}
use lib.ListN.{take, drop}
use Rattle.judge.specs.Judge.{table_of}
use Rattle.judge.proofs.table_of.Goals as goal

pub slice_bounds-result-count : goal.slice_bounds-result-count
slice_bounds-result-count c = let r = c.table_span-span.ensures in omega (arith, r.0.begins, r.0.ends)

pub slice_bounds-result-start : goal.slice_bounds-result-start
slice_bounds-result-start c = let r = c.table_span-span.ensures in omega (arith, r.0.begins, r.0.ends, r.1)

pub slice_bounds-result-end : goal.slice_bounds-result-end
slice_bounds-result-end c = let r = c.table_span-span.ensures in omega (arith, r.0.begins, r.0.ends, r.1)

pub returns : goal.returns
returns c =
    let s = c.args in
    let t = c.table_span-span in
    let r = t.ensures in
    let many : t.result.end - t.result.start ≡ (table_of s.sheet.now s.tables.now s.symbol).many = omega (arith, r.0.begins, r.0.ends) in
    record { bytes = ap₂ (λ (m x : ℕ). take m (drop x s.tables.now)) many r.0.begins; place = (refl, omega (arith, r.0.begins)) }
