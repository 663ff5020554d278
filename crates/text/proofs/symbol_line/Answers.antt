-- `text::symbol_line` meets its contract.
use native.Mathlib.Omega.{arith}
use Rattle.text.proofs.Decimal.{length_spaced_one, decimal_word}
use mathlib.Core.List.{[], ◌∷◌}
use Rattle.text.specs.Text.{spaced, name_word}
use Rattle.prelude.proofs.Pasted.{wrote_four}
use Rattle.text.proofs.Lines.{line_more}
use Rattle.text.proofs.symbol_line.Goals as goal

pub put_spaced-at-requires : goal.put_spaced-at-requires
put_spaced-at-requires c = omega (arith, length_spaced_one c.args.symbol, decimal_word c.args.symbol c.ranges.symbol.fits)

pub put_cells-at-requires : goal.put_cells-at-requires
put_cells-at-requires c = omega (arith, length_spaced_one c.args.symbol, decimal_word c.args.symbol c.ranges.symbol.fits)

pub put-requires : goal.put-requires
put-requires c = omega (arith, length_spaced_one c.args.symbol, decimal_word c.args.symbol c.ranges.symbol.fits)

pub returns : goal.returns
returns c =
    line_more name_word c.args.symbol c.args.cells.now
    (wrote_four c.args.out.now 0 name_word (spaced (c.args.symbol ∷ [])) (spaced c.args.cells.now) (10 ∷ []) (omega (arith, length_spaced_one c.args.symbol, decimal_word c.args.symbol c.ranges.symbol.fits))
    c.put-at.ensures c.put_spaced-at.ensures c.put_cells-at.ensures.wrote c.put.ensures)
