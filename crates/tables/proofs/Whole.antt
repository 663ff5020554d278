-- From the tests over a parsed sheet's arrays to those of the sheet.
use Prim.Native.Nat.{ℕ, ◌≤◌, ◌<◌}
use native.Mathlib.Omega.{arith}
use mathlib.Core.Path.{◌≡◌, refl, ap, ap₂, sym, ◌∙◌}
use mathlib.Core.Bool.{Bool, true, false, ◌&&◌}
use mathlib.Core.List.{List}
use lib.ListN.{length}
use lib.Dec.{leb}
use borrow.Author.Tests.{eq-eqb, ne_eqb}
use Rattle.logic.specs.Sheet.{Sheet, bound_at}
use Rattle.prelude.specs.Tests.{within, every}
use Rattle.prelude.specs.Lists.{at}
use Rattle.prelude.proofs.Tests.{and_no, every_same, and_first}
use Rattle.prelude.proofs.Lists.{sum_to_same}
use Rattle.layout.specs.declared.Parsed.{Parsed}
use Rattle.layout.proofs.Pack.{contents}
use Rattle.tables.specs.Layout.{offset, extent}
use Rattle.tables.specs.Tests.{sizes_right, entries_right, well_laid, in_bounds}
use Rattle.tables.specs.Parts.{Packs, Limited, Extents, Laying}
use Rattle.tables.proofs.Packing.{packs_views, symbols_packed}
use Rattle.tables.proofs.Offsets.{offset_same}

-- the counts of a parsed accepted sheet are within the limits
pub packs_limited : (sh : Sheet) (p : Parsed) → Packs sh p → Limited p
packs_limited sh p k =
    let s = packs_views sh p k in
    let w = k.formed in
    record {
      sorts = omega (arith, s.sorts, w.sorts);
      symbols = omega (arith, symbols_packed sh p k, w.symbols);
      terms = omega (arith, s.terms, w.terms);
      literals = omega (arith, s.literals, w.literals);
      fills = omega (arith, (contents p sh k.same).fills, w.fills);
    }

-- sizes that were copied from the tables, by the sheet's count of sorts
pub copied_sizes : (sh : Sheet) (p : Parsed) (sizes t : List ℕ) → Packs sh p → ((s : ℕ) → s < p.sorts → at sizes s ≡ at t s) → (s : ℕ) → s < length sh.bounds → at t s ≡ at sizes s
copied_sizes sh p sizes t k c s h = sym (c s (omega (arith, (packs_views sh p k).sorts)))

-- with the offsets at those sizes they are those of the tables
pub laying : (sh : Sheet) (p : Parsed) (sizes offsets t : List ℕ) → Packs sh p → ((s : ℕ) → s < p.sorts → at sizes s ≡ at t s) → Extents p (at sizes) offsets → Laying sh p sizes offsets t
laying sh p sizes offsets t k c e =
    record { packs = k; size = λ s h. sym (copied_sizes sh p sizes t k c s h); offset = e.offset sh k }

-- the offset at the sizes that stand in the tables
pub laid_offset : (sh : Sheet) (p : Parsed) (sizes offsets t : List ℕ) → Laying sh p sizes offsets t → (f : ℕ) → f ≤ length sh.symbols → at offsets f ≡ offset sh (at t) f
laid_offset sh p sizes offsets t y f h = y.offset f h ∙ offset_same sh y.packs.formed (at sizes) (at t) y.size f h

module _ (sh : Sheet) (p : Parsed) (t : List ℕ) where
  -- the test of the sizes, by the parsed count
  abbrev sizes_test_lem : Bool
  sizes_test_lem = leb p.sorts (length t) && every p.sorts (λ s. within 1 16 (at t s))

  pub sizes_test : Packs sh p → sizes_test_lem ≡ sizes_right sh t
  sizes_test k = rw (packs_views sh p k).sorts refl

  pub sizes_wrong : Packs sh p → sizes_test_lem ≡ false → false ≡ well_laid sh t
  unfolding well_laid
  sizes_wrong k e = sym (and_first _ _ (and_first _ _ (sym (sizes_test k) ∙ e)))

  module _ (sizes offsets : List ℕ) where
    end_offset : Laying sh p sizes offsets t → at offsets p.symbols ≡ extent sh (at t)
    end_offset y = rw (symbols_packed sh p y.packs) (laid_offset sh p sizes offsets t y (length sh.symbols) (omega arith))

    pub length_wrong : Laying sh p sizes offsets t → (length t ≡ at offsets p.symbols → ⊥) → false ≡ well_laid sh t
    unfolding well_laid
    length_wrong y h = sym (and_first _ _ (and_no (sizes_right sh t) _ (ne_eqb (length t) (extent sh (at t)) (λ e. h (e ∙ sym (end_offset y))))))

    pub entries_decide : Laying sh p sizes offsets t → sizes_test_lem ≡ true → length t ≡ at offsets p.symbols → every (length sh.symbols) (entries_right sh t) ≡ well_laid sh t
    unfolding well_laid
    entries_decide y s e = rw (sym (sizes_test y.packs) ∙ s, eq-eqb (length t) (extent sh (at t)) (e ∙ end_offset y)) refl

-- the bounds judge the sizes of the sheet's sorts only
pub in_bounds_same : (sh : Sheet) (size other : ℕ → ℕ) → ((s : ℕ) → s < length sh.bounds → size s ≡ other s) → in_bounds sh size ≡ in_bounds sh other
unfolding in_bounds
in_bounds_same sh size other h =
    ap₂ ◌&&◌
    (every_same (length sh.bounds) _ _ (λ s l. ap (λ (x : ℕ). within (bound_at sh s).floor (bound_at sh s).ceiling x) (h s l)))
    (ap (λ (x : ℕ). leb x sh.total) (sum_to_same (length sh.bounds) size other h))
