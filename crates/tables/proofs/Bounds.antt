-- The sizes against floors, ceilings and total, sort by sort.
use Prim.Native.Nat.{ℕ, ◌+◌, ◌≤◌, ◌<◌}
use native.Mathlib.Numerals.{add-one}
use native.Mathlib.Omega.{arith}
use mathlib.Core.Path.{◌≡◌, refl, ap₂}
use mathlib.Core.Bool.{true, false}
use lib.ListN.{length}
use borrow.Author.Tests.{lt-leb}
use lib.Dec.{leb}
use Rattle.logic.specs.Sheet.{Sheet, bound_at}
use Rattle.prelude.specs.Tests.{within, every}
use Rattle.prelude.specs.Lists.{at, sum_to}
use Rattle.prelude.proofs.Tests.{and_no, true_within, every_more, false_every, and_first}
use Rattle.layout.specs.declared.Parsed.{Parsed}
use Rattle.tables.specs.Tests.{in_bounds}
use Rattle.tables.specs.Parts.{Packs}
use Rattle.tables.proofs.Packing.{packs_views}

-- the first s sorts are in bounds, and the sum of their sizes
pub record BoundsTo (p : Parsed) (size : ℕ → ℕ) (s total : ℕ) : Type 0 where
  pub sum : total ≡ sum_to s size
  pub within : (sh : Sheet) → Packs sh p → every s (λ x. within (bound_at sh x).floor (bound_at sh x).ceiling (size x)) ≡ true

pub bounds_none : (p : Parsed) (size : ℕ → ℕ) → BoundsTo p size 0 0
bounds_none p size = record { sum = refl; within = λ sh k. refl }

pub bounds_more : (p : Parsed) (size : ℕ → ℕ) (s total : ℕ) → BoundsTo p size s total → s < p.sorts → at p.floor s ≤ size s → size s ≤ at p.ceiling s → BoundsTo p size (s + 1) (total + size s)
bounds_more p size s total b h lo hi =
    record {
      sum = rw (add-one s) (omega (arith, b.sum));
      within = λ sh k.
          let v = packs_views sh p k in
          let l : s < length sh.bounds = omega (arith, v.sorts) in
          every_more s (λ x. within (bound_at sh x).floor (bound_at sh x).ceiling (size x)) (b.within sh k)
          (true_within (bound_at sh s).floor (bound_at sh s).ceiling (size s) (omega (arith, v.floor s l), omega (arith, v.ceiling s l)));
    }

pub bounds_floor : (sh : Sheet) (p : Parsed) (size : ℕ → ℕ) (s : ℕ) → Packs sh p → s < p.sorts → size s < at p.floor s → in_bounds sh size ≡ false
unfolding in_bounds
bounds_floor sh p size s k h lo =
    let v = packs_views sh p k in
    let l : s < length sh.bounds = omega (arith, v.sorts) in
    and_first _ _ (false_every _ (λ x. within (bound_at sh x).floor (bound_at sh x).ceiling (size x)) s l
    (and_first _ _ (lt-leb (bound_at sh s).floor (size s) (omega (arith, v.floor s l)))))

pub bounds_ceiling : (sh : Sheet) (p : Parsed) (size : ℕ → ℕ) (s : ℕ) → Packs sh p → s < p.sorts → at p.ceiling s < size s → in_bounds sh size ≡ false
unfolding in_bounds
bounds_ceiling sh p size s k h hi =
    let v = packs_views sh p k in
    let l : s < length sh.bounds = omega (arith, v.sorts) in
    and_first _ _ (false_every _ (λ x. within (bound_at sh x).floor (bound_at sh x).ceiling (size x)) s l
    (and_no (leb (bound_at sh s).floor (size s)) _ (lt-leb (size s) (bound_at sh s).ceiling (omega (arith, v.ceiling s l)))))

pub bounds_all : (p : Parsed) (size : ℕ → ℕ) (total : ℕ) → BoundsTo p size p.sorts total → (sh : Sheet) → Packs sh p → leb total p.total ≡ in_bounds sh size
unfolding in_bounds
bounds_all p size total b sh k =
    let v = packs_views sh p k in
    let all = rw v.sorts at (b.within sh k) in
    let sum : total ≡ sum_to (length sh.bounds) size = rw v.sorts at b.sum in
    rw all (ap₂ leb sum v.total)
