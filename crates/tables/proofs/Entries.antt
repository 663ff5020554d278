-- The entries of the tables, symbol by symbol: the stretch from a symbol's offset passes the test exactly when the symbol's table is right.
use Prim.Native.Nat.{ℕ, ◌+◌, ◌<◌}
use native.Mathlib.Omega.{arith}
use mathlib.Core.Path.{◌≡◌, refl, sym, ◌∙◌}
use mathlib.Core.Bool.{true, false}
use mathlib.Core.List.{List}
use lib.ListN.{length}
use lib.Dec.{ltb}
use Rattle.logic.specs.Sheet.{Sheet, symbol_at}
use Rattle.prelude.specs.Tests.{every}
use Rattle.prelude.specs.Lists.{at}
use Rattle.prelude.proofs.Tests.{every_more, false_every}
use Rattle.layout.specs.declared.Parsed.{Parsed}
use Rattle.tables.specs.Layout.{cells, offset}
use Rattle.tables.specs.Tests.{entries_right}
use Rattle.tables.specs.Parts.{width, CellsOf, Laying}
use Rattle.tables.proofs.Cells.{cells_same}
use Rattle.tables.proofs.Widths.{width_there}
use Rattle.tables.proofs.Packing.{symbols_packed, result_packed}
use Rattle.tables.proofs.Offsets.{offset_same}

-- what the tables hold for symbol f is right exactly when the stretch from its offset is
pub entries_test : (sh : Sheet) (p : Parsed) (sizes offsets t : List ℕ) (f many : ℕ) → Laying sh p sizes offsets t → f < length sh.symbols → CellsOf p (at sizes) f many → every many (λ k. ltb (at t (at offsets f + k)) (width (at sizes) (at p.result f))) ≡ entries_right sh t f
entries_test sh p sizes offsets t f many y h c =
    let w = y.packs.formed in
    let n = length sh.bounds in
    let m : many ≡ cells (at t) (symbol_at sh f).params = c.cells sh y.packs h ∙ cells_same n (at sizes) (at t) (symbol_at sh f).params (w.params f h) y.size in
    let o : at offsets f ≡ offset sh (at t) f = y.offset f (omega arith) ∙ offset_same sh w (at sizes) (at t) y.size f (omega arith) in
    let r : width (at sizes) (at p.result f) ≡ at t (symbol_at sh f).result =
    rw (result_packed sh p y.packs f h) (width_there (at sizes) (symbol_at sh f).result (omega (arith, w.result f h, w.sorts)) ∙ y.size (symbol_at sh f).result (w.result f h)) in
    rw (m, o, r) refl

-- the entries of the first f tables are right
abbrev pub EntriesTo : Parsed → List ℕ → List ℕ → List ℕ → ℕ → Type 0
EntriesTo p sizes offsets t f = (sh : Sheet) → Laying sh p sizes offsets t → every f (entries_right sh t) ≡ true

pub entries_more : (p : Parsed) (sizes offsets t : List ℕ) (f many : ℕ) → EntriesTo p sizes offsets t f → f < p.symbols → CellsOf p (at sizes) f many → every many (λ k. ltb (at t (at offsets f + k)) (width (at sizes) (at p.result f))) ≡ true → EntriesTo p sizes offsets t (f + 1)
entries_more p sizes offsets t f many h l c e sh y =
    every_more f (entries_right sh t) (h sh y) (sym (entries_test sh p sizes offsets t f many y (omega (arith, symbols_packed sh p y.packs)) c) ∙ e)

pub entries_broken : (p : Parsed) (sizes offsets t : List ℕ) (f many : ℕ) → f < p.symbols → CellsOf p (at sizes) f many → every many (λ k. ltb (at t (at offsets f + k)) (width (at sizes) (at p.result f))) ≡ false → (sh : Sheet) → Laying sh p sizes offsets t → false ≡ every (length sh.symbols) (entries_right sh t)
entries_broken p sizes offsets t f many l c e sh y =
    let b : f < length sh.symbols = omega (arith, symbols_packed sh p y.packs) in
    sym (false_every (length sh.symbols) (entries_right sh t) f b (sym (entries_test sh p sizes offsets t f many y b c) ∙ e))

pub entries_all : (p : Parsed) (sizes offsets t : List ℕ) → EntriesTo p sizes offsets t p.symbols → (sh : Sheet) → Laying sh p sizes offsets t → true ≡ every (length sh.symbols) (entries_right sh t)
entries_all p sizes offsets t h sh y = sym (rw (symbols_packed sh p y.packs) at (h sh y))
