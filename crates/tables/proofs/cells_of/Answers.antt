-- `tables::cells_of` meets its contract. Rows times columns are the cells, by `cells_packed`.
use mathlib.Core.Path.{ap, ap₂, ◌∙◌}
use Prim.Native.Nat.{◌*◌}
use Rattle.prelude.specs.Lists.{at}
use Rattle.tables.specs.Parts.{width}
use Rattle.tables.proofs.Widths.{product_small}
use Rattle.tables.proofs.Packing.{cells_packed}
use borrow.Author.Rules.{rules}
use Rattle.tables.proofs.cells_of.Goals as goal

pub returns : goal.returns
returns c =
    let s = c in
    record {
      cells = λ sh k h.
          ap₂ ◌*◌
          (c.width_of-rows.ensures.0 ∙ ap (width (at s.args.sizes)) c.wide-a.ensures.0)
          (c.width_of-columns.ensures.0 ∙ ap (width (at s.args.sizes)) c.wide-b.ensures.0)
          ∙ cells_packed sh s.args.p k (at s.args.sizes) s.args.f h;
      small = product_small c.width_of-rows.result c.width_of-columns.result (search rules) (search rules);
    }
