-- `text::number_line` meets its contract.
use native.Mathlib.Omega.{arith}
use Rattle.text.proofs.Decimal.{length_spaced_one, decimal_word}
use Rattle.prelude.proofs.Pasted.{wrote_both}
use Rattle.text.proofs.number_line.Goals as goal

pub put_spaced-at-requires : goal.put_spaced-at-requires
put_spaced-at-requires c = omega (arith, length_spaced_one c.args.n, decimal_word c.args.n c.ranges.n.fits)

pub put-requires : goal.put-requires
put-requires c = omega (arith, length_spaced_one c.args.n, decimal_word c.args.n c.ranges.n.fits)

pub returns : goal.returns
returns c = wrote_both c.put-at.ensures (wrote_both c.put_spaced-at.ensures c.put.ensures)
