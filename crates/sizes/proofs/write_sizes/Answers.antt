-- `sizes::write_sizes` meets its contract.
use native.Mathlib.Omega.{arith}
use mathlib.Core.Path.{◌∙◌}
use lib.ListN.{take}
use lib.Seq.{take-length}
use Rattle.prelude.proofs.Fronted.{copied_front}
use Rattle.sizes.proofs.write_sizes.Goals as goal

pub returns-clause-buffer : goal.returns-clause-buffer
returns-clause-buffer c =
    c.copy.ensures.1 ∙ (rw (take-length (take c.args.n c.args.sizes)) at (copied_front c.args.n c.args.sizes c.args.out.now (omega arith)))
