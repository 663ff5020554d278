-- `text::put_byte` meets its contract.
use native.Mathlib.Omega.{arith}
use Prim.Native.Nat.{ℕ}
use mathlib.Core.Path.{ap₂}
use mathlib.Core.List.{[], ◌∷◌}
use lib.ListN.{length-set}
use Rattle.text.proofs.Lines.{renamed}
use Rattle.text.proofs.Hex.{digits_written}
use Rattle.text.proofs.put_byte.Goals as goal

pub bounds-out-at-2 : goal.bounds-out-at-2
bounds-out-at-2 c = simp length-set (omega (arith, c.requires))

pub returns : goal.returns
returns c =
    renamed (ap₂ (λ (x y : ℕ). x ∷ (y ∷ [])) c.hex_digit.ensures c.hex_digit-2.ensures)
    (digits_written c.args.out.now c.args.at c.hex_digit.result c.hex_digit-2.result c.requires)
