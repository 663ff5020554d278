-- `Known::mask` meets its contract.
use Rattle.knowledge.proofs.Bits.{bit_none}
use Rattle.knowledge.proofs.Known.mask.Goals as goal

pub returns-else-i-lt-MOST_TERMS : goal.returns-else-i-lt-MOST_TERMS
returns-else-i-lt-MOST_TERMS c = record { means = λ a w. bit_none (a c.args.i) }
