-- `assembling::codes::with_code_symbols` meets its contract: the names of the fields passed stand behind those that were there.
use Prim.Native.Nat.{ℕ, suc, ◌<◌}
use Rattle.std.proofs.lemmas.List.{length-take-le, get_or-take}
use native.Mathlib.Omega.{arith}
use mathlib.Core.Path.{◌≡◌, ap, ◌∙◌}
use mathlib.Core.List.{[], ◌∷◌}
use Rattle.prelude.specs.Lists.{at, collect}
use Rattle.prelude.proofs.Lists.{sum_to_grows}
use Rattle.layout.specs.Packed.{packed}
use Rattle.fitted_sheet.proofs.Lengths.{length_nested}
use Rattle.fitted_sheet.specs.FittedSheet.{code_symbol}
use Rattle.assembling.specs.Parts.{more_symbols}
use Rattle.assembling.proofs.Growing.{symbols_none, symbols_next, symbols_building, symbols_count}
use Rattle.assembling.proofs.codes.with_code_symbols.Invariants.{names}
use Rattle.assembling.proofs.codes.with_code_symbols.Goals as goal

pub loop-s-init : goal.loop-s-init
loop-s-init c = symbols_none c.args.q (names c.args.sizes)

pub with_symbols_of-out-requires : goal.with_symbols_of-out-requires
with_symbols_of-out-requires c =
    let l = c.loop-s in
    let more : l.s < c.args.n = omega (arith, length-take-le c.args.n c.args.sizes (omega arith)) in
    let size = c.wide.ensures.0 ∙ get_or-take c.args.n c.args.sizes l.s 0 more in
    let many = symbols_count c.args.q (names c.args.sizes) l.s l.out c.requires.0 l.invariant in (
      symbols_building c.args.q (names c.args.sizes) l.s l.out c.requires.0 l.invariant,
      many.1 ∙ c.requires.1,
      omega arith,
      omega (arith, many.0, c.requires, size, length_nested l.s (at c.args.sizes) (λ s k. code_symbol s), sum_to_grows (suc l.s) c.args.n (at c.args.sizes) more),
    )

pub loop-s-preserved : goal.loop-s-preserved
loop-s-preserved c =
    let l = c.loop-s in
    let more : l.s < c.args.n = omega (arith, length-take-le c.args.n c.args.sizes (omega arith)) in
    let size = c.wide.ensures.0 ∙ get_or-take c.args.n c.args.sizes l.s 0 more in
    symbols_next c.args.q (names c.args.sizes) l.s l.out c.with_symbols_of-out.result l.invariant
    (λ b.
    c.with_symbols_of-out.ensures b
    ∙ ap (λ (n : ℕ). packed (more_symbols b.sheet (collect n (λ k. code_symbol l.s ∷ [])))) size)

pub returns : goal.returns
returns c b =
    let l = c.loop-s in
    let last : l.s ≡ c.args.n = omega (arith, length-take-le c.args.n c.args.sizes (omega arith)) in
    rw (← last) (l.invariant b)
