-- `text::bytes_line` meets its contract.
use native.Mathlib.Omega.{arith}
use Rattle.text.proofs.Decimal.{length_spaced_one, decimal_word}
use Rattle.text.proofs.Hex.{length_shown}
use Rattle.prelude.proofs.Pasted.{wrote_both}
use Rattle.text.proofs.bytes_line.Goals as goal

pub put_spaced-at-requires : goal.put_spaced-at-requires
put_spaced-at-requires c = omega (arith, length_spaced_one c.args.number, decimal_word c.args.number c.ranges.number.fits)

pub put_bytes-at-requires : goal.put_bytes-at-requires
put_bytes-at-requires c = omega (arith, length_spaced_one c.args.number, decimal_word c.args.number c.ranges.number.fits)

pub put-requires : goal.put-requires
put-requires c = omega (arith, length_shown c.args.bytes.now, length_spaced_one c.args.number, decimal_word c.args.number c.ranges.number.fits)

pub returns : goal.returns
returns c = wrote_both c.put-at.ensures (wrote_both c.put_spaced-at.ensures (wrote_both c.put_bytes-at.ensures c.put.ensures))
