-- The offsets of the tables, one after the other as the loop fills them; they depend on the sizes of the sheet's sorts only.
use Prim.Native.Nat.{ℕ, ◌+◌, ◌*◌, ◌≤◌, ◌<◌}
use native.Mathlib.Numerals.{add-one}
use native.Mathlib.Decide.{dec_lt}
use native.Mathlib.Omega.{arith}
use mathlib.Core.Path.{◌≡◌, ap, ◌∙◌}
use mathlib.Core.List.{List}
use lib.ListN.{length, set, replicate}
use lib.Seq.{get_or-set_same, get_or-set_other}
use Rattle.logic.specs.Sheet.{Sheet, symbol_at}
use Rattle.prelude.specs.Lists.{at}
use Rattle.prelude.proofs.Lists.{sum_to_same, at_zeros, at_set_most}
use Rattle.logic.specs.WellFormed.{WellFormed}
use Rattle.layout.specs.Packed.{packed}
use Rattle.layout.specs.declared.Parsed.{Parsed}
use Rattle.tables.specs.Layout.{cells, offset}
use Rattle.tables.specs.Parts.{Packs, countable_cells, countable_bytes, CellsOf, SmallOffsets, Extents}
use Rattle.tables.proofs.Cells.{cells_same}
use Rattle.tables.proofs.Packing.{symbols_packed}

-- offsets depend on the sizes of the sheet's sorts only
pub offset_same : (sh : Sheet) → WellFormed sh → (size other : ℕ → ℕ) → ((s : ℕ) → s < length sh.bounds → size s ≡ other s) → (f : ℕ) → f ≤ length sh.symbols → offset sh size f ≡ offset sh other f
offset_same sh w size other h f l =
    ap (λ (x : ℕ). length sh.bounds + x)
    (sum_to_same f (λ g. cells size (symbol_at sh g).params) (λ g. cells other (symbol_at sh g).params)
    (λ g b. cells_same (length sh.bounds) size other (symbol_at sh g).params (w.params g (omega arith)) h))

-- the offsets up to that of table f
pub record OffsetsTo (p : Parsed) (size : ℕ → ℕ) (f : ℕ) (offsets : List ℕ) : Type 0 where
  pub offset : (sh : Sheet) → Packs sh p → (g : ℕ) → g ≤ f → at offsets g ≡ offset sh size g
  pub here : at offsets f ≤ 8 + countable_cells * f
  pub small : SmallOffsets offsets

pub offsets_none : (p : Parsed) (size : ℕ → ℕ) → p.sorts ≤ 8 → OffsetsTo p size 0 (set (replicate 65 0) 0 p.sorts)
unfolding packed
offsets_none p size h =
    record {
      offset = λ sh k g l.
          let e : g ≡ 0 = omega arith in
          let s : p.sorts ≡ length sh.bounds = ap (λ (q : Parsed). q.sorts) k.same in
          rw (e, s) (omega arith);
      here = omega arith;
      small = λ j. at_set_most (replicate 65 0) 0 p.sorts countable_bytes j (rw (at_zeros 65 j) (omega arith)) (omega arith);
    }

pub offsets_more : (p : Parsed) (size : ℕ → ℕ) (f : ℕ) (offsets : List ℕ) (many : ℕ) → OffsetsTo p size f offsets → length offsets ≡ 65 → f < p.symbols → p.symbols ≤ 64 → CellsOf p size f many → OffsetsTo p size (f + 1) (set offsets (f + 1) (at offsets f + many))
offsets_more p size f offsets many o n h l c =
    let v = at offsets f + many in
    let now : at (set offsets (f + 1) v) (f + 1) ≡ v = get_or-set_same offsets (f + 1) v 0 (omega arith) in
    let big : v ≤ 8 + countable_cells * (f + 1) = omega (arith, o.here, c.small) in
    record {
      offset = λ sh k g b.
          let there : f < length sh.symbols = omega (arith, symbols_packed sh p k) in
          elim (dec_lt g (f + 1)) [
            | yes y ↦ get_or-set_other offsets (f + 1) g v 0 (omega arith) ∙ o.offset sh k g (omega arith)
            | no y ↦
                let e : g ≡ f + 1 = omega arith in
                rw (e, now, add-one f) (omega (arith, o.offset sh k f (omega arith), c.cells sh k there))
          ];
      here = rw now big;
      small = λ j. at_set_most offsets (f + 1) v countable_bytes j (o.small j) (omega arith);
    }

pub offsets_all : (p : Parsed) (size : ℕ → ℕ) (offsets : List ℕ) → OffsetsTo p size p.symbols offsets → Extents p size offsets
offsets_all p size offsets o =
    record { offset = λ sh k f h. o.offset sh k f (omega (arith, symbols_packed sh p k)); small = o.small }
