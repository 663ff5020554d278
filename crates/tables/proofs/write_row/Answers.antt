-- `tables::write_row` meets its contract: the stretch is the row's first cells.
use native.Mathlib.Omega.{arith}
use mathlib.Core.Path.{sym, ◌∙◌}
use lib.ListN.{take}
use Rattle.std.proofs.lemmas.List.{length-take-le}
use Rattle.std.proofs.lemmas.Slice.{put_mid-paste}
use Rattle.prelude.specs.Lists.{at, firsts}
use Rattle.prelude.proofs.Lists.{length_firsts}
use Rattle.tables.proofs.Slices.{firsts_taken, copied_whole}
use Rattle.tables.proofs.write_row.Goals as goal

pub returns : goal.returns
returns c =
    let row = c.args.row in
    let many = c.args.columns in
    put_mid-paste _ _ _ _ (firsts many (at row)) many
    (c.copy.ensures.1 ∙ copied_whole (take many row) _ (omega (arith, length-take-le many row (omega arith))) ∙ sym (firsts_taken row many (omega arith)))
    (omega arith)
    (sym (length_firsts _ _))
