-- `words::behind_word` meets its contract.
use native.Mathlib.Omega.{arith}
use Rattle.words.proofs.Places.{behind_blank, behind_end}
use Rattle.words.proofs.behind_word.Goals as goal

pub returns-then-end-line : goal.returns-then-end-line
returns-then-end-line c = (omega arith, behind_end c.args.line.now c.args.from c.find_byte-end.result c.find_byte-end.ensures.0 c.if-end-line.true)

pub returns-else-end-line : goal.returns-else-end-line
returns-else-end-line c = (omega arith, behind_blank c.args.line.now c.args.from c.find_byte-end.result c.find_byte-end.ensures.0)
