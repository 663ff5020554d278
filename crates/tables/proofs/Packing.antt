-- What the arrays of a parsed sheet hold of the accepted sheet that it packs.
use Prim.Native.Nat.{ℕ, ◌*◌, ◌<◌}
use native.Mathlib.Omega.{arith}
use mathlib.Core.Path.{◌≡◌, ap, sym, subst}
use mathlib.Core.List.{List, [], ◌∷◌}
use lib.ListN.{length}
use Rattle.logic.specs.Sheet.{Sheet, symbol_at}
use Rattle.prelude.specs.Tests.{Each}
use Rattle.prelude.specs.Limits.{missing}
use Rattle.prelude.specs.Lists.{at}
use Rattle.layout.specs.Packed.{view, first, second}
use Rattle.layout.specs.Views.{Views}
use Rattle.layout.specs.declared.Parsed.{Parsed}
use Rattle.layout.proofs.AtMostTwo.{each_weaken}
use Rattle.layout.proofs.View.{packed_views}
use Rattle.tables.specs.Layout.{cells}
use Rattle.tables.specs.Parts.{Packs, width}
use Rattle.tables.proofs.Widths.{cells_by_width}
use Rattle.layout.proofs.Pack.{contents}

-- one parameter, by its place in front of a missing one: no parameter has the number that a missing one has
pub one_param : (params : List ℕ) (result : ℕ) → Each (λ s. s < 8) params → result < 8 → second params ≡ missing → first params ≡ result → params ≡ result ∷ []
one_param [] result b h p q = absurd (omega arith)
one_param (s ∷ []) result b h p q = ap (λ (x : ℕ). x ∷ []) q
one_param (s ∷ r ∷ l) result b h p q = absurd (omega (arith, b.1.0))

-- What a parsed sheet holds of the sheet that it packs.
module _ (sh : Sheet) (p : Parsed) (k : Packs sh p) where
  pub packs_views : Views sh (view p)
  packs_views = subst (λ (q : Parsed). Views sh (view q)) (sym k.same) (packed_views sh)

  pub symbols_packed : p.symbols ≡ length sh.symbols
  symbols_packed = (contents p sh k.same).symbols

  pub result_packed : (f : ℕ) → f < length sh.symbols → at p.result f ≡ (symbol_at sh f).result
  result_packed = (contents p sh k.same).result

  pub param0_packed : (f : ℕ) → f < length sh.symbols → at p.param0 f ≡ first (symbol_at sh f).params
  param0_packed = (contents p sh k.same).param0

  pub param1_packed : (f : ℕ) → f < length sh.symbols → at p.param1 f ≡ second (symbol_at sh f).params
  param1_packed = (contents p sh k.same).param1

  pub params_below_8 : (f : ℕ) → f < length sh.symbols → Each (λ s. s < 8) (symbol_at sh f).params
  params_below_8 f h = each_weaken (length sh.bounds) 8 (symbol_at sh f).params k.formed.sorts (k.formed.params f h)

  pub cells_packed : (size : ℕ → ℕ) (f : ℕ) → f < length sh.symbols → width size (at p.param0 f) * width size (at p.param1 f) ≡ cells size (symbol_at sh f).params
  cells_packed size f h =
      rw (param0_packed f h, param1_packed f h) (cells_by_width size (symbol_at sh f).params (k.formed.arity f h) (params_below_8 f h))
