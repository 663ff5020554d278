-- `tables::entries_right` meets its contract. The entries of the first f tables are right; `entries_test` joins a stretch to its table.
use Prim.Native.Nat.{ℕ, ◌+◌}
use native.Mathlib.Omega.{arith}
use mathlib.Core.Path.{◌≡◌, refl, ap, sym, ◌∙◌}
use lib.Dec.{ltb}
use Rattle.prelude.specs.Tests.{every}
use Rattle.prelude.specs.Lists.{at}
use Rattle.tables.specs.Parts.{width}
use Rattle.tables.proofs.Entries.{entries_more, entries_broken, entries_all}
use Rattle.tables.proofs.entries_right.Goals as goal

pub loop-f-init : goal.loop-f-init
loop-f-init c = (omega arith, refl, λ sh y. refl)

pub below-requires : goal.below-requires
below-requires c = (c.requires.1 c.loop-f.f, c.cells_of-many.ensures.small)

pub returns-then-not-below : goal.returns-then-not-below
returns-then-not-below c =
    let s = c.args in
    let l = c.loop-f in
    let m = c.cells_of-many in
    let r = c.below in
    let w = c.width_of-bound.ensures.0 ∙ ap (width (at s.sizes)) c.wide-result.ensures.0 in
    let e = ap (λ (x : ℕ). every m.result (λ k. ltb (at s.t.now (at s.offsets l.f + k)) x)) (sym w) ∙ sym r.ensures in
    entries_broken s.p s.sizes s.offsets s.t.now l.f m.result (omega arith) m.ensures (e ∙ c.if-not-below.true)

pub loop-f-preserved : goal.loop-f-preserved
loop-f-preserved c =
    let s = c.args in
    let l = c.loop-f in
    let m = c.cells_of-many in
    let r = c.below in
    let w = c.width_of-bound.ensures.0 ∙ ap (width (at s.sizes)) c.wide-result.ensures.0 in
    let e = ap (λ (x : ℕ). every m.result (λ k. ltb (at s.t.now (at s.offsets l.f + k)) x)) (sym w) ∙ sym r.ensures in
    (omega arith, refl, entries_more s.p s.sizes s.offsets s.t.now l.f m.result l.invariant.2 (omega arith) m.ensures (e ∙ c.if-not-below.false))

pub returns : goal.returns
returns c =
    let s = c.args in
    let l = c.loop-f in
    let e : l.f ≡ s.p.symbols = omega arith in
    entries_all s.p s.sizes s.offsets s.t.now (rw e at l.invariant.2)
