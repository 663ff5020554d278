-- `writing::unforced` meets its contract.
use native.Mathlib.Omega.{arith}
use mathlib.Core.Path.{◌∙◌}
use Rattle.writing.proofs.Keeping.{kept_here, filled_here}
use Rattle.writing.proofs.unforced.Goals as goal

pub returns-then-first-result : goal.returns-then-first-result
returns-then-first-result c sh size d k h e =
    kept_here sh _ k size d c.args.symbol c.args.row c.args.col h (omega arith) (omega arith)

pub returns-else-first-result : goal.returns-else-first-result
returns-else-first-result c sh size d k h e =
    e ∙ filled_here sh _ k size d c.args.symbol c.args.row c.args.col h (λ one own. omega arith)

pub returns-else-second : goal.returns-else-second
returns-else-second c sh size d k h e =
    e ∙ filled_here sh _ k size d c.args.symbol c.args.row c.args.col h (λ one own. omega arith)
