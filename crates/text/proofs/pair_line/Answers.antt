-- `text::pair_line` meets its contract.
use native.Mathlib.Omega.{arith}
use Rattle.text.proofs.Decimal.{length_spaced_one, decimal_word}
use mathlib.Core.List.{[], ◌∷◌}
use Rattle.text.specs.Text.{spaced}
use Rattle.prelude.proofs.Pasted.{wrote_four}
use Rattle.text.proofs.Lines.{line_more}
use Rattle.text.proofs.pair_line.Goals as goal

pub put_spaced-at-requires : goal.put_spaced-at-requires
put_spaced-at-requires c = omega (arith, length_spaced_one c.args.a, decimal_word c.args.a c.ranges.a.fits)

pub put_spaced-at-requires-2 : goal.put_spaced-at-requires-2
put_spaced-at-requires-2 c = omega (arith, length_spaced_one c.args.a, decimal_word c.args.a c.ranges.a.fits, length_spaced_one c.args.b, decimal_word c.args.b c.ranges.b.fits)

pub put-requires : goal.put-requires
put-requires c = omega (arith, length_spaced_one c.args.a, decimal_word c.args.a c.ranges.a.fits, length_spaced_one c.args.b, decimal_word c.args.b c.ranges.b.fits)

pub returns : goal.returns
returns c =
    line_more c.args.word.now c.args.a (c.args.b ∷ [])
    (wrote_four c.args.out.now 0 c.args.word.now (spaced (c.args.a ∷ [])) (spaced (c.args.b ∷ [])) (10 ∷ []) (omega (arith, length_spaced_one c.args.a, decimal_word c.args.a c.ranges.a.fits, length_spaced_one c.args.b, decimal_word c.args.b c.ranges.b.fits))
    c.put-at.ensures c.put_spaced-at.ensures c.put_spaced-at-2.ensures c.put.ensures)
