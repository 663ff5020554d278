-- `tables::entry_of` meets its contract. The place is row times columns and column; bytes keep it small.
use Prim.Native.Nat.{ℕ, ◌+◌, ◌*◌}
use native.Mathlib.Omega.{arith}
use mathlib.Core.Path.{ap, ◌∙◌}
use Rattle.prelude.specs.Lists.{at}
use Rattle.tables.specs.Parts.{width}
use Rattle.tables.proofs.Widths.{product_small}
use borrow.Author.Rules.{rules}
use Rattle.tables.proofs.entry_of.Goals as goal

pub overflow_mul-a : goal.overflow_mul-a
overflow_mul-a c = omega (arith, product_small c.args.a c.width_of-columns.result (search rules) (search rules))

pub overflow_add-a : goal.overflow_add-a
overflow_add-a c = omega (arith, product_small c.args.a c.width_of-columns.result (search rules) (search rules))

pub overflow_add-start : goal.overflow_add-start
overflow_add-start c =
    let s = c in
    omega (arith, product_small s.args.a c.width_of-columns.result (search rules) (search rules), s.requires.0 s.args.f)

pub returns : goal.returns
returns c =
    let s = c.args in
    let e = c.width_of-columns.ensures.0 ∙ ap (width (at s.sizes)) c.wide.ensures.0 in
    λ h. c.byte_at.ensures ∙ ap (λ (x : ℕ). at s.t.now (at s.offsets s.f + (s.a * x + s.b))) e
