-- `text::put_spaced` meets its contract.
use native.Mathlib.Omega.{arith}
use mathlib.Core.List.{[], ◌∷◌}
use Rattle.text.proofs.Decimal.{length_spaced_one}
use Rattle.prelude.proofs.Pasted.{wrote_length, wrote_then}
use Rattle.text.proofs.Lines.{spaced_one}
use Rattle.text.proofs.put_spaced.Goals as goal

pub put_number-requires : goal.put_number-requires
put_number-requires c =
    let w = c.put-next.ensures in
    omega (arith, c.requires, length_spaced_one c.args.n, w.end, wrote_length c.args.out.now c.args.at (32 ∷ []) _ _ (omega (arith, c.requires, length_spaced_one c.args.n)) w)

pub returns : goal.returns
returns c =
    let w = c.put-next.ensures in
    spaced_one c.args.n
    (wrote_then c.args.out.now c.args.at (32 ∷ []) _ _ (omega (arith, c.requires, length_spaced_one c.args.n)) w _ _ _ c.put_number.ensures)
