-- What the search asks of a parsed sheet, every accepted sheet has.
use Prim.Native.Nat.{◌≤◌}
use native.Mathlib.Omega.{arith}
use mathlib.Core.Bool.{Bool, true, false}
use Rattle.logic.specs.Sheet.{Sheet, literal_at}
use Rattle.layout.specs.Packed.{bit, view}
use Rattle.layout.specs.Views.{Views}
use Rattle.layout.specs.declared.Parsed.{Parsed}
use Rattle.tables.specs.Parts.{Packs, Limited}
use Rattle.tables.proofs.Packing.{packs_views, symbols_packed}
use Rattle.tables.proofs.Whole.{packs_limited}
use Rattle.consistency.specs.Searchable.{Searchable}
use Rattle.answer.proofs.Joint.{well_sorted}

-- a statement says same by 1 and differ by 0
bit_most : (b : Bool) → bit b ≤ 1
bit_most true = omega arith
bit_most false = omega arith

pub packs_searchable : (sh : Sheet) (p : Parsed) → Packs sh p → Searchable p
packs_searchable sh p k =
    let views : Views sh (view p) = packs_views sh p k in
    let limited : Limited p = packs_limited sh p k in
    record {
      sorted = well_sorted sh (view p) k.formed views;
      sorts = limited.sorts;
      terms = limited.terms;
      literals = limited.literals;
      equal = λ i h. rw (views.equal i (omega (arith, views.literals))) (bit_most (literal_at sh i).equal);
      symbol = λ i h. omega (arith, views.symbol i (omega (arith, views.terms)), k.formed.symbol i (omega (arith, views.terms)), symbols_packed sh p k);
      ceiling = λ s h. omega (arith, views.ceiling s (omega (arith, views.sorts)), (k.formed.ceiling s (omega (arith, views.sorts))).1);
      total = omega (arith, views.total, k.formed.total);
    }
