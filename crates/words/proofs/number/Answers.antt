-- `words::number` meets its contract.
use Rattle.std.proofs.Common.{rules}
use Rattle.words.proofs.Values.{number_fold}
use Rattle.words.proofs.number.Goals as goal

pub returns : goal.returns
returns c = rw (number_fold c.args.word.now 0) (search rules)
