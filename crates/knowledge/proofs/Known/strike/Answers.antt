-- `Known::strike` meets its contract.
use mathlib.Core.Path.{refl}
use Rattle.knowledge.proofs.Keeping.{masks_set}
use Rattle.knowledge.proofs.Known.strike.Goals as goal

pub returns-then-i-lt-MOST_TERMS : goal.returns-then-i-lt-MOST_TERMS
returns-then-i-lt-MOST_TERMS c = let p = c.args in record { struck = masks_set p.self.now.masks p.i p.s; labels = refl; marks = refl }
