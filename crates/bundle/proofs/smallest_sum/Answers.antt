-- `bundle::smallest_sum` meets its contract.
use native.Mathlib.Omega.{arith}
use mathlib.Core.Path.{◌∙◌}
use Rattle.bundle.proofs.Smallest.{sizing_smallest}
use Rattle.bundle.proofs.smallest_sum.Goals as goal

pub returns : goal.returns
returns c = c.sizes.ensures.result ∙ sizing_smallest c.args.sheet.now _ (omega arith)
